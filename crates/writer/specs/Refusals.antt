-- The refusals of the writer, 31 to 34, each tried over the whole sheet before the next.
use Rattle.std.specs.Prelude.{ℕ, List, Bool, ◌&&◌, leb}
use Rattle.exact.specs.Faults.{◌or_else◌, unless}
use Rattle.layout.specs.Layout.{report_length}
use Rattle.layout.specs.Values.{within, heat_rate, so2_rate, nox_rate, co2_rate}
use Rattle.formulas.specs.Formulas.{rounded_figures}
use Rattle.formulas.specs.declared.hour.Figures.{Figures}
use Rattle.sheet.specs.Sheet.{SheetForm, present_form, recorded_readings, shape_of, sheet_hours_in}
use Rattle.sheet.specs.SheetTests.{every, sheet_holds_in, readings_hold_in}
use Rattle.sheet.specs.declared.SheetHour.{SheetHour}

-- 33: every figure fits its columns

unfoldable pub figures_hold : Figures → Bool
figures_hold f = within heat_rate f.heat && within so2_rate f.so2 && within nox_rate f.nox && within co2_rate f.co2

abbrev pub figures_fit : SheetHour → Bool
figures_fit h = figures_hold (rounded_figures (recorded_readings h))

-- the first refusal of a sheet and a buffer of so many bytes; 0 is none
unfoldable pub refusal_in : SheetForm → ℕ → ℕ → List ℕ → List ℕ → ℕ → ℕ
refusal_in f year quarter name sheet room =
    unless (sheet_holds_in f year quarter name sheet) 31
    or_else unless (every (readings_hold_in f) (sheet_hours_in f sheet)) 32
    or_else unless (every figures_fit (sheet_hours_in f sheet)) 33
    or_else unless (leb (report_length (shape_of sheet)) room) 34

abbrev pub refusal_of : ℕ → ℕ → List ℕ → List ℕ → ℕ → ℕ
refusal_of = refusal_in present_form
