-- Laws of the hour pass: what is left to judge from an hour, or from a figure, on.
use Prim.Native.Nat.{ℕ, zero, suc, ◌+◌, ◌-◌, ◌≤◌, ◌<◌}
use mathlib.Core.Path.{◌≡◌, refl, sym, ap, ◌∙◌}
use mathlib.Core.List.{List}
use mathlib.Core.Bool.{Bool, true, false}
use native.Mathlib.Omega.{arith}
use native.Mathlib.Numerals.{add-one}
use lib.ListN.{drop}
use Rattle.exact.specs.Logic.{ranked, ranked_next, ranked_end}
use Rattle.exact.specs.Faults.{◌or_else◌, unless, first_failing}
use Rattle.formulas.specs.Formulas.{passes_test}
use Rattle.formulas.specs.declared.hour.Hour.{Hour}
use Rattle.totals.specs.Totals.{Room, no_totals, with_hour, running_totals, totals_of, quarter_of, quarter_totals}
use Rattle.totals.proofs.TotalLaws.{grown_hours, running_totals_lem, running_next, running_end, quarter_formed}
use Rattle.totals.specs.declared.Totals.{Totals}
use Rattle.totals.specs.declared.Quarter.{Quarter}
use Rattle.layout.specs.declared.Shape.{Shape}
use Rattle.judging.specs.Judged.{figure_count, figure_at, Tried, figures_tried, failed_at, failed_or, failure_of, judged_hours, compared_totals, judged_quarter}
use Rattle.judging.proofs.JudgedLaws.{drop_figure, figure_some}
use Rattle.judging.specs.Judged.{Verdict}
use Rattle.reading.specs.Recorded.{hour_count, hour_at, hours_of, totals_in}
use Rattle.reading.specs.Places.{Standing, operating_place}
use Rattle.reading.specs.RecordLaws.{hours_standing}
use Rattle.reading.specs.RankLaws.{Ahead, ahead_next}
use Rattle.checker.specs.Checked.{verdict_on}

module _ (file : List ℕ) (s : Shape) where
  -- what follows the hours
  unfoldable pub ending : Verdict
  ending = compared_totals (quarter_totals (hours_of file)) (totals_in file)

  -- what is left from hour k on
  abbrev pub hours_left : ℕ → List Hour
  hours_left k = ranked (hour_at file) k (s.hours - k)

  unfoldable pub left : ℕ → Verdict
  left k = judged_hours (suc k) (hours_left k) ending

  -- what is left from figure j of hour k on
  unfoldable pub figures_left : ℕ → Hour → ℕ → Verdict
  figures_left k h j = failed_or (failure_of (drop j figures_tried) h) (suc k) (left (k + 1))

  pub left_first : Standing file s → left 0 ≡ verdict_on file
  unfolding left ending judged_quarter hours_of
  left_first d = let e : s.hours - 0 ≡ hour_count file = omega (arith, hours_standing file s d) in rw e

  pub left_hour : (k : ℕ) → k < s.hours → figures_left k (hour_at file k) 0 ≡ left k
  unfolding left figures_left judged_hours
  left_hour k h = rw (ranked_next (hour_at file) s.hours k h, add-one k)

  pub left_end : left s.hours ≡ ending
  unfolding left judged_hours
  left_end = rw (ranked_end (hour_at file) s.hours s.hours (omega arith))

  module _ (k : ℕ) (h : Hour) where
    figure_step : (j : ℕ) → j < figure_count → (pass : Bool) → passes_test (figure_at j).quantity h ≡ pass →
        figures_left k h j ≡ failed_or (unless pass (figure_at j).number or_else failure_of (drop (j + 1) figures_tried) h) (suc k) (left (k + 1))
    unfolding figures_left first_failing
    figure_step j b pass e =
        ap (λ (ts : List Tried). failed_or (failure_of ts h) (suc k) (left (k + 1))) (drop_figure j b)
        ∙ ap (λ (t : Bool). failed_or (unless t (figure_at j).number or_else failure_of (drop (j + 1) figures_tried) h) (suc k) (left (k + 1))) e

    pub figure_passed : (j : ℕ) → j < figure_count → passes_test (figure_at j).quantity h ≡ true → figures_left k h (j + 1) ≡ figures_left k h j
    unfolding figures_left
    figure_passed j b e = sym (figure_step j b true e)

    pub figure_failed : (j : ℕ) → j < figure_count → passes_test (figure_at j).quantity h ≡ false → failed_at (figure_at j).number (suc k) ≡ figures_left k h j
    figure_failed j b e = sym (figure_step j b false e ∙ some (figure_at j).number _ _ (figure_some j b))
      where
        some : (number rest : ℕ) (v : Verdict) → 0 < number → failed_or (number or_else rest) (suc k) v ≡ failed_at number (suc k)
        some zero rest v l = absurd (omega arith)
        some (suc c) rest v l = refl

    pub figures_done : figures_left k h figure_count ≡ left (k + 1)
    unfolding figures_left first_failing
    figures_done = refl

  -- the running totals come to the totals of all hours
  pub totals_first : Standing file s → running_totals no_totals (hours_left 0) ≡ totals_of (hours_of file)
  unfolding hours_of
  totals_first d =
      let e : s.hours - 0 ≡ hour_count file = omega (arith, hours_standing file s d) in
      rw e (running_totals_lem (ranked (hour_at file) 0 (hour_count file)))

  pub totals_next : (t : Totals) (k : ℕ) → k < s.hours →
      running_totals (with_hour t (hour_at file k).figures (hour_at file k).time) (hours_left (k + 1)) ≡ running_totals t (hours_left k)
  totals_next t k h = rw (ranked_next (hour_at file) s.hours k h) (sym (running_next t (hour_at file k) (hours_left (k + 1))))

  pub totals_end : (t : Totals) → running_totals t (hours_left s.hours) ≡ t
  totals_end t = rw (ranked_end (hour_at file) s.hours s.hours (omega arith)) (running_end t)

  pub ending_is : (t : Totals) → t ≡ totals_of (hours_of file) → compared_totals (quarter_of t) (totals_in file) ≡ ending
  unfolding ending
  ending_is t e = rw (quarter_formed t (hours_of file) e)

-- the hour pass stands at hour k, whose 300 line is the next that operates from place p on, with these totals
pub record HourPass (file : List ℕ) (s : Shape) (totals : Totals) (k p : ℕ) : Type 0 where
  pub few : k ≤ s.hours
  pub ahead : Ahead file s k p
  pub room : Room totals
  pub count : totals.hours ≡ k
  pub sums : running_totals totals (hours_left file s k) ≡ totals_of (hours_of file)
  pub rest : left file s k ≡ verdict_on file

-- the figures of hour k are passed up to figure j
pub record FigurePass (file : List ℕ) (s : Shape) (k : ℕ) (hour : Hour) (j : ℕ) : Type 0 where
  pub few : j ≤ figure_count
  pub rest : figures_left file s k hour j ≡ verdict_on file

-- hour k, whose figures all passed, was added
pub pass_next : (file : List ℕ) (s : Shape) → Standing file s → (t : Totals) (k from place : ℕ) (h : Hour) (j : ℕ) (grown : Totals) →
    HourPass file s t k from → k < s.hours →
    place ≡ operating_place file s from → h ≡ hour_at file k →
    grown ≡ with_hour t h.figures h.time → Room grown → FigurePass file s k h j → figure_count ≤ j → HourPass file s grown (k + 1) (place + 1)
pass_next file s d t k from place h j grown p b q e g r f l =
    let z : j ≡ figure_count = omega (arith, f.few) in
    let done = rw z at f.rest in
    record {
      few = omega arith;
      ahead = ahead_next file s d k from p.ahead b place q;
      room = r;
      count = ap (λ (x : Totals). x.hours) g ∙ grown_hours t h.figures h.time ∙ ap (λ (n : ℕ). n + 1) p.count;
      sums = rw (g, e) (totals_next file s t k b ∙ p.sums);
      rest = sym (figures_done file s k h) ∙ done;
    }

-- no hour is left
pub pass_end : (file : List ℕ) (s : Shape) (t : Totals) (k p : ℕ) {formed stated : Quarter} → HourPass file s t k p → k ≡ s.hours →
    formed ≡ quarter_of t → stated ≡ totals_in file → compared_totals formed stated ≡ verdict_on file
pass_end file s t k place p e f g =
    let sums = rw e at p.sums in
    let rest = rw e at p.rest in
    rw (f, g) (ending_is file s t (sym (totals_end file s t) ∙ sums) ∙ sym (left_end file s) ∙ rest)
