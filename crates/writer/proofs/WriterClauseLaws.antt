-- A refusal tells of the writer's clauses: it is the number of the first that a sheet and a buffer do not meet. WriterClauses.antt has them.
use Prim.Native.Nat.{ℕ, ◌+◌, ◌*◌, ◌/◌, ◌≤◌}
use Rattle.std.specs.Prelude.{◌≡◌, refl, List, [], ◌∷◌, true, leb, length}
use Rattle.std.proofs.Common.{sym, ap, ◌∙◌, arith}
use borrow.Author.Tests.{leb-true, le-leb}
use Rattle.exact.specs.Faults.{unless}
use Rattle.exact.specs.Clauses.{clause}
use Rattle.exact.proofs.ClauseLaws.{Told, told_or, told_one}
use Rattle.layout.specs.Layout.{report_length}
use Rattle.layout.specs.Values.{Within, heat_rate, so2_rate, nox_rate, co2_rate}
use Rattle.layout.specs.LayoutLaws.{true_within, thousands_back, report_length_lem}
use Rattle.formulas.specs.Hour.{FiguresWithin}
use Rattle.formulas.specs.Formulas.{rounded_value, rounded_figures}
use Rattle.formulas.proofs.FormulaLaws.{written_records_lem}
use Rattle.formulas.specs.declared.hour.Readings.{Readings}
use Rattle.formulas.specs.declared.hour.Quantity.{Quantity}
use Rattle.formulas.specs.declared.hour.Quantity.TheVariants.{Heat, So2, Nox, Co2}
use Rattle.sheet.specs.Sheet.{sheet_hour, sheet_hour_in, recorded_readings, shape_of, sheet_hours}
use Rattle.sheet.specs.SheetTests.{every, sheet_holds, readings_hold}
use Rattle.sheet.specs.SheetClauses.{value_at, shape_clauses, value_clauses}
use Rattle.sheet.proofs.SheetClauseLaws.{each_says, says_each, shape_told, values_told}
use Rattle.writer.specs.Refusals.{figures_hold, figures_fit, refusal_of, refusal_in}
use Rattle.writer.proofs.RefusalLaws.{figures_true}
use Rattle.writer.specs.WriterClauses.{readings_at, FiguresFitAt, most_figure, writer_clauses}

-- 33

module _ (sheet : List ℕ) (k : ℕ) where
  readings_same : recorded_readings (sheet_hour sheet k) ≡ readings_at sheet k
  unfolding sheet_hour_in
  readings_same = rw (thousands_back (value_at sheet k 4))

  fit_same : figures_fit (sheet_hour sheet k) ≡ figures_hold (rounded_figures (readings_at sheet k))
  fit_same = ap (λ (r : Readings). figures_hold (rounded_figures r)) readings_same

  figures_say : figures_fit (sheet_hour sheet k) ≡ true → FiguresFitAt sheet k
  unfolding rounded_figures
  figures_say e q figure r = go q (figures_true (rounded_figures (readings_at sheet k)) (sym fit_same ∙ e)) ((written_records_lem q (readings_at sheet k) figure).0 r)
    where
      go : (q : Quantity) → FiguresWithin (rounded_figures (readings_at sheet k)) → rounded_value q (readings_at sheet k) ≡ figure → figure ≤ most_figure q
      go Heat w same = omega (arith, w.heat.most)
      go So2 w same = omega (arith, w.so2.most)
      go Nox w same = omega (arith, w.nox.most)
      go Co2 w same = omega (arith, w.co2.most)

  say_figures : FiguresFitAt sheet k → figures_fit (sheet_hour sheet k) ≡ true
  unfolding rounded_figures figures_hold
  say_figures fit =
      let figure : Quantity → ℕ = λ q. rounded_value q (readings_at sheet k) in
      let few : (q : Quantity) → figure q ≤ most_figure q = λ q. fit q (figure q) ((written_records_lem q (readings_at sheet k) (figure q)).1 refl) in
      let h : Within heat_rate (figure Heat) = omega (arith, few Heat) in
      let s : Within so2_rate (figure So2) = omega (arith, few So2) in
      let n : Within nox_rate (figure Nox) = omega (arith, few Nox) in
      let c : Within co2_rate (figure Co2) = omega (arith, few Co2) in
      fit_same ∙ rw (true_within _ _ h, true_within _ _ s, true_within _ _ n, true_within _ _ c)

-- a sheet's report
pub own_length : (sheet : List ℕ) → report_length (shape_of sheet) ≡ 75 + 318 * (length sheet / 6)
own_length sheet = report_length_lem (shape_of sheet) ∙ omega arith

module _ (year quarter : ℕ) (name sheet : List ℕ) (room : ℕ) where
  pub refusal_told : Told (refusal_of year quarter name sheet room) (writer_clauses year quarter name sheet room)
  unfolding refusal_in
  refusal_told =
      told_or (unless (sheet_holds year quarter name sheet) 31) _ (shape_clauses year quarter name sheet) _ (shape_told year quarter name sheet)
      (told_or (unless (every readings_hold (sheet_hours sheet)) 32) _ (value_clauses sheet) _ (values_told sheet)
      (told_or (unless (every figures_fit (sheet_hours sheet)) 33) (unless (leb (report_length (shape_of sheet)) room) 34) (clause 33 _ ∷ []) (clause 34 _ ∷ [])
      (told_one (every figures_fit (sheet_hours sheet)) 32 _ (λ e k h. figures_say sheet k (each_says sheet figures_fit e k h))
      (λ each. says_each sheet figures_fit (λ k h. say_figures sheet k (each k h))))
      (told_one (leb (report_length (shape_of sheet)) room) 33 _ (λ e. omega (arith, own_length sheet, leb-true (report_length (shape_of sheet)) room e))
      (λ h. le-leb (report_length (shape_of sheet)) room (omega (arith, own_length sheet))))))
