-- What the lines of a report say: the records of each type in file order, each with its line, and the hours and totals recorded on them.
use Rattle.std.specs.Prelude.{ℕ, suc, ◌≡◌, List, [], ◌∷◌, Bool, true, false, not, ◌&&◌, length, get_or}
use Rattle.exact.specs.Logic.{ranked}
use Rattle.columns.specs.Number.{number_of}
use Rattle.layout.specs.Layout.{value_at}
use Rattle.layout.specs.Values.{thousands_of}
use Rattle.layout.specs.declared.RecordType.{RecordType}
use Rattle.layout.specs.declared.RecordType.TheVariants.{So2Concentration, NoxConcentration, Co2Concentration, VolumetricFlow, Operation}
use Rattle.layout.specs.declared.RecordType.TheVariants.{QuarterTotals, So2Mass, NoxRate, Co2Mass}
use Rattle.formulas.specs.declared.hour.Hour.{Hour}
use Rattle.totals.specs.declared.Quarter.{Quarter}
use Rattle.lines.specs.Lines.{lines, HasLine, text_of}
use Rattle.lines.specs.LineFaults.{type_is, field_in, has_gas, operates}

-- a line of a file: its place among the lines, from 1, and its columns
pub record Line : Type 0 where
  pub number : ℕ
  pub text : List ℕ

-- the lines that pass a test, in file order; the first of all has this number
unfoldable pub lines_with : (List ℕ → Bool) → ℕ → List (List ℕ) → List Line
lines_with test number [] = []
lines_with test number (l ∷ ls) =
    elim (test l) [ true ↦ record { number = number; text = l } ∷ lines_with test (suc number) ls | false ↦ lines_with test (suc number) ls ]

-- an idle hour: a 300 line without a positive time, which is 0.00 where the line is right
unfoldable pub idle : List ℕ → Bool
idle line = type_is Operation line && not (operates line)

-- the records of a type: its lines, but for idle ones
abbrev pub record_of_type : RecordType → List ℕ → Bool
record_of_type t line = type_is t line && not (idle line)

unfoldable pub records_of : List ℕ → RecordType → List Line
records_of file t = lines_with (record_of_type t) 1 (lines file)

-- the line of this number is one of them
pub record HasRecord (file : List ℕ) (t : RecordType) (line : ℕ) : Type 0 where
  pub stands : HasLine file line
  pub type : record_of_type t (text_of file line) ≡ true

-- the record of rank k, from 0
abbrev pub record_at : List ℕ → RecordType → ℕ → Line
record_at file t k = get_or (records_of file t) k (record { number = 0; text = [] })

-- its i-th value, from its columns
unfoldable pub value_on : List ℕ → RecordType → ℕ → ℕ → ℕ
value_on file t k i = number_of (field_in (value_at t i) (record_at file t k).text)

-- operating hour k, from 0: what the record of that rank of each type says
unfoldable pub hour_at : List ℕ → ℕ → Hour
hour_at file k = record {
  time = value_on file Operation k 0;
  gas = has_gas (record_at file So2Mass k).text;
  readings = record {
    so2 = value_on file So2Concentration k 0;
    nox = value_on file NoxConcentration k 0;
    co2 = value_on file Co2Concentration k 0;
    flow = thousands_of (value_on file VolumetricFlow k 0);
    fc = value_on file NoxRate k 0;
  };
  figures = record {
    heat = value_on file Operation k 1;
    so2 = value_on file So2Mass k 0;
    nox = value_on file NoxRate k 1;
    co2 = value_on file Co2Mass k 0;
  };
}

-- as many as there are 200 lines
abbrev pub hour_count : List ℕ → ℕ
hour_count file = length (records_of file So2Concentration)

-- in file order
unfoldable pub hours_of : List ℕ → List Hour
hours_of file = ranked (hour_at file) 0 (hour_count file)

-- what line 301 says
unfoldable pub totals_in : List ℕ → Quarter
totals_in file = record {
  hours = hour_count file;
  so2 = value_on file QuarterTotals 0 0;
  co2 = value_on file QuarterTotals 0 1;
  heat = value_on file QuarterTotals 0 2;
  nox = value_on file QuarterTotals 0 3;
  nox_tons = value_on file QuarterTotals 0 4;
}
