-- A sheet that passes the tests of 31 to 33 can be written.
use Rattle.std.specs.Prelude.{ℕ, ◌≡◌, List, true}
use Rattle.exact.specs.Logic.{both}
use Rattle.layout.specs.LayoutLaws.{within_true}
use Rattle.formulas.specs.Hour.{FiguresWithin}
use Rattle.formulas.specs.declared.hour.Figures.{Figures}
use Rattle.sheet.specs.Sheet.{sheet_hour, sheet_hours}
use Rattle.sheet.specs.SheetTests.{every, sheet_holds, readings_hold}
use Rattle.sheet.proofs.TestLaws.{sheet_true, every_hour, rise_hour, shape_held, readings_true}
use Rattle.writer.specs.Refusals.{figures_hold, figures_fit}
use Rattle.writer.specs.Writable.{Writable}

pub figures_true : (f : Figures) → figures_hold f ≡ true → FiguresWithin f
unfolding figures_hold
figures_true f e =
    let a = both _ _ e in
    let b = both _ _ a.0 in
    let c = both _ _ b.0 in
    record { heat = within_true _ _ c.0; so2 = within_true _ _ c.1; nox = within_true _ _ b.1; co2 = within_true _ _ a.1 }

module _ (year quarter : ℕ) (name sheet : List ℕ) where
  pub writable : sheet_holds year quarter name sheet ≡ true → every readings_hold (sheet_hours sheet) ≡ true → every figures_fit (sheet_hours sheet) ≡ true
      → Writable year quarter name sheet
  writable e r f =
      let s = sheet_true year quarter name sheet e in
      record {
        shaped = s;
        held = shape_held year quarter name sheet s;
        hours =
            λ k h.
            let w = readings_true (sheet_hour sheet k) (every_hour readings_hold sheet k r h) in
            record {
              exists = rise_hour _ sheet k s.rises h;
              within = record { time = w.0; readings = w.2; figures = figures_true _ (every_hour figures_fit sheet k f h) };
            };
      }
