-- What is left to judge from each hour, and from each figure of it, is what is left of the whole.
use Rattle.std.specs.Prelude.{Err, Option, Some}
use Rattle.std.proofs.Common.{◌≡◌, ◌<◌, ℕ, List, suc, Bool, true, false, sym, ap, ◌∙◌, arith}
use Rattle.std.proofs.lemmas.Option.{none-some}
use Rattle.layout.specs.declared.Shape.{Shape}
use Rattle.layout.specs.declared.RecordType.TheVariants.{Operation}
use Rattle.formulas.specs.Formulas.{passes_test}
use Rattle.formulas.specs.declared.hour.Hour.{Hour}
use Rattle.totals.specs.declared.Totals.{Totals}
use Rattle.calendar.specs.Calendar.{most_hours}
use Rattle.reading.specs.Places.{operating_place, Stands}
use Rattle.reading.specs.RankLaws.{ahead_first, ahead_stands}
use Rattle.recorded.specs.ListedHours.{listed_hour}
use Rattle.recorded.specs.declared.ListedHour.{ListedHour}
use Rattle.judging.specs.Judged.{PaperRow, row_told, figure_at, failed_at, failure_told}
use Rattle.judging.specs.declared.FigureRow.{FigureRow}
use Rattle.judging.specs.declared.Failure.{Failure}
use Rattle.judging.proofs.RowLaws.{row_at}
use Rattle.checker.specs.Judging.{Judgeable}
use Rattle.checker.proofs.Pass.{left_first, left_hour, figure_passed, figure_failed, totals_first, pass_next, pass_end, HourPass}
use Rattle.checker.proofs.verdict.Goals as goal
use Rattle.checker.proofs.verdict.Goals.{then-loop-k-test+then-loop-figure-test+then-not-figure_passes, else-loop-k-test}

module _ (file : List ℕ) (s : Shape) (j : Judgeable file s) {t : Totals} {k from : ℕ} (p : HourPass file s t k from) (more : k < s.hours)
    {at : ListedHour} (e : at ≡ listed_hour file s (operating_place file s from)) where
  there : at.place ≡ operating_place file s from
  there = ap (λ (at : ListedHour). at.place) e

  stands : Stands file s Operation k at.place
  stands = ahead_stands file s j.standing k from p.ahead more at.place there

  itself : at ≡ listed_hour file s at.place
  itself = e ∙ ap (listed_hour file s) (sym there)

  below : at.place < most_hours
  below = omega (arith, stands.inside, j.standing.held.operations)

-- how a figure was found to stand: by the row that was asked for
judged : (row : FigureRow) (h : Hour) {found : Bool} (j : ℕ) (pass : Bool) → row_told row ≡ figure_at j → found ≡ passes_test row.quantity h →
    found ≡ pass → passes_test (figure_at j).quantity h ≡ pass
judged row h j pass e f p = sym (ap (λ (r : PaperRow). passes_test r.quantity h) e) ∙ sym f ∙ p

-- what the pass was left with
same_failure : (a b : Failure) {left : Option Failure} → left ≡ Some a → left ≡ Some b → a ≡ b
same_failure a b e f = let h : ◌≡◌ {A = Option Failure} (Some a) (Some b) = sym e ∙ f in cc

pub loop-k-init : goal.loop-k-init
loop-k-init c =
    let f = c.args.records.file.now in
    let s = c.args.records.shape in
    let e = c.none-totals.ensures.0 in
    let d = c.args.records.standing in
    record {
      few = omega arith;
      ahead = ahead_first f s d;
      room = c.none-totals.ensures.1;
      count = ap (λ (t : Totals). t.hours) e;
      sums = rw e (totals_first f s d);
      rest = left_first f s d;
    }

pub hour-hour-requires : goal.hour-hour-requires
hour-hour-requires c =
    let f = c.args.records.file.now in
    let s = c.args.records.shape in
    let p = c.loop-k.invariant in
    let e = c.operating_from-at.ensures in
    (c.loop-k-test.true, stands f s c.requires p c.loop-k-test.true e, itself f s c.requires p c.loop-k-test.true e)

pub loop-figure-init : goal.loop-figure-init
loop-figure-init c =
    let l = rw (← c.hour-hour.ensures) at (left_hour c.args.records.file.now c.args.records.shape c.loop-k.k c.loop-k-test.true) in
    record { few = omega arith; rest = l ∙ c.loop-k.invariant.rest }

pub loop-figure-preserved : goal.loop-figure-preserved
loop-figure-preserved c =
    let l = c.loop-figure in
    let h = c.hour-hour.result in
    let row = row_at c.figures-figure-items.result c.figures-figure-items.ensures _ l.figure-index c.loop-figure-test.true in
    record {
      few = omega (arith, c.loop-figure-test.true);
      rest = figure_passed c.args.records.file.now c.args.records.shape c.loop-k.k h l.figure-index c.loop-figure-test.true
          (judged _ h l.figure-index true row c.figure_passes.ensures.test c.if-not-figure_passes.false)
          ∙ l.invariant.rest;
    }

pub overflow_add-from : goal.overflow_add-from
overflow_add-from c =
    omega (arith, below c.args.records.file.now c.args.records.shape c.requires c.loop-k.invariant c.loop-k-test.true c.operating_from-at.ensures)

pub loop-k-preserved : goal.loop-k-preserved
loop-k-preserved c =
    let f = c.args.records.file.now in
    let s = c.args.records.shape in
    let l = c.loop-k in
    let t = c.with_hour-totals in
    pass_next f s c.args.records.standing l.totals l.k l.from c.operating_from-at.result.place c.hour-hour.result c.loop-figure.figure-index t.result
    l.invariant c.loop-k-test.true (there f s c.requires l.invariant c.loop-k-test.true c.operating_from-at.ensures) c.hour-hour.ensures
    t.ensures.0 t.ensures.1 c.loop-figure.invariant c.loop-figure-test.false

pub returns-in-Some : goal.returns-in-Some
returns-in-Some c =
    let f = c.args.records.file.now in
    let s = c.args.records.shape in
    let k = c.loop-k.k in
    elim c.loop-k-test.branch [
      | then-loop-k-test+then-loop-figure-test+then-not-figure_passes w ↦
          let l = w.loop-figure in
          let h = w.hour-hour.result in
          let row = row_at w.figures-figure-items.result w.figures-figure-items.ensures _ l.figure-index w.loop-figure-test.true in
          ap (λ (x : Failure). Err (failure_told x)) (same_failure c.in-Some.failure _ c.in-Some.is w.failed-is)
          ∙ ap (λ (r : PaperRow). failed_at r.number (suc k)) row
          ∙ figure_failed f s k h l.figure-index w.loop-figure-test.true
          (judged _ h l.figure-index false row w.figure_passes.ensures.test w.if-not-figure_passes.true)
          ∙ l.invariant.rest
      | else-loop-k-test w ↦ absurd (none-some _ (sym w.failed-is ∙ c.in-Some.is))
    ]

pub returns-in-None : goal.returns-in-None
returns-in-None c =
    let f = c.args.records.file.now in
    let s = c.args.records.shape in
    let l = c.loop-k in
    elim c.loop-k-test.branch [
      | then-loop-k-test+then-loop-figure-test+then-not-figure_passes w ↦ absurd (none-some _ (sym c.in-None.is ∙ w.failed-is))
      | else-loop-k-test w ↦
          c.compare.ensures
          ∙ pass_end f s l.totals l.k l.from l.invariant (omega (arith, w.loop-k-test.false, l.invariant.few)) c.quarter.ensures c.totals.ensures
    ]
