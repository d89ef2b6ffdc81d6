-- One operating hour: the units of its numbers, its figures by quantity, the ranges its numbers lie in, and unrounded readings.
use Rattle.std.specs.Prelude.{List, ℕ}
use Rattle.std.proofs.Common.{lit<}
use Rattle.exact.specs.Logic.{All}
use Rattle.exact.specs.Fraction.{Fraction, Positive}
use Rattle.exact.specs.Rounding.{recorded}
use Rattle.layout.specs.Values.{Within, so2_ppm, nox_ppm, co2_percent, flow_scfh, scfh_of, f_factor, time_hours, heat_rate, so2_rate, nox_rate, co2_rate}
use Rattle.formulas.specs.declared.hour.Readings.{Readings}
use Rattle.formulas.specs.declared.hour.Figures.{Figures}
use Rattle.formulas.specs.declared.hour.Hour.{Hour}
use Rattle.formulas.specs.declared.hour.Quantity.{Quantity}
use Rattle.formulas.specs.declared.hour.Quantity.TheVariants.{Heat, So2, Nox, Co2}

-- 0.1: ppm, percent, scf/mmBtu, mmBtu/hr, lb/hr, tons/hr
abbrev pub tenth : Positive
tenth = record { num = 1; den = 10; above = lit< tt; pos = lit< tt }

-- 0.001: lb/mmBtu
abbrev pub thousandth : Positive
thousandth = record { num = 1; den = 1000; above = lit< tt; pos = lit< tt }

-- 1,000 scfh
abbrev pub flow_unit : Positive
flow_unit = record { num = 1000; den = 1; above = lit< tt; pos = lit< tt }

-- the unit of a quantity's figure, and the figure
abbrev pub unit_of : Quantity → Positive
unit_of Heat = tenth
unit_of So2 = tenth
unit_of Nox = thousandth
unit_of Co2 = tenth

abbrev pub figure_of : Quantity → Figures → ℕ
figure_of Heat f = f.heat
figure_of So2 f = f.so2
figure_of Nox f = f.nox
figure_of Co2 f = f.co2

-- every number, as it stands in its columns, lies in their range
pub record ReadingsWithin (r : Readings) : Type 0 where
  pub so2 : Within so2_ppm r.so2
  pub nox : Within nox_ppm r.nox
  pub co2 : Within co2_percent r.co2
  pub flow : Within flow_scfh (scfh_of r.flow)
  pub fc : Within f_factor r.fc

pub record FiguresWithin (f : Figures) : Type 0 where
  pub heat : Within heat_rate f.heat
  pub so2 : Within so2_rate f.so2
  pub nox : Within nox_rate f.nox
  pub co2 : Within co2_rate f.co2

pub record HourWithin (h : Hour) : Type 0 where
  pub time : Within time_hours h.time
  pub readings : ReadingsWithin h.readings
  pub figures : FiguresWithin h.figures

abbrev pub HoursWithin : List Hour → Type 0
HoursWithin hs = All HourWithin hs

-- unrounded readings of the four monitors
pub record Monitored : Type 0 where
  pub so2 : Fraction
  pub nox : Fraction
  pub co2 : Fraction
  pub flow : Fraction

-- what SO2 is worked out from: the monitor's concentration or, in a gas hour, a heat
pub data So2Reading : Type 0 where
  concentration : Fraction → So2Reading
  heat_input : Fraction → So2Reading

-- a set of unrounded readings of one hour; a heat in it stands for the SO2 figure's readings, and for no other figure's
pub record Unrounded : Type 0 where
  pub so2 : So2Reading
  pub nox : Fraction
  pub co2 : Fraction
  pub flow : Fraction

-- the set that the monitors give
abbrev pub set_of : Monitored → Unrounded
set_of m = record { so2 = concentration m.so2; nox = m.nox; co2 = m.co2; flow = m.flow }

-- the recorded readings, read as exact
abbrev pub as_recorded : Readings → Monitored
as_recorded r = record {
  so2 = recorded tenth r.so2;
  nox = recorded tenth r.nox;
  co2 = recorded tenth r.co2;
  flow = recorded flow_unit r.flow;
}
