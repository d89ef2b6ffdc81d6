-- The promise holds of the verdict on every list of hours within their ranges. JudgedPromise.antt states it.
use Rattle.std.specs.Prelude.{ℕ, ◌+◌, ◌≤◌, ◌<◌, ◌≡◌, refl, true, false, ◌⊎◌, Ok}
use Rattle.std.proofs.Common.{sym, ap, subst, subst₂, ◌∙◌, arith, lit<}
use Rattle.std.proofs.lemmas.Bool.{false≢true}
use mathlib.Core.List.{List, [], ◌∷◌, Memᴰ}
use Rattle.std.proofs.Math.Logic.{inl, inr, ⊎_elim}
use Rattle.exact.specs.Logic.{ranked, ranked_length, All, ranked_all, all_member}
use Rattle.exact.specs.Fraction.{fraction, Near}
use Rattle.exact.specs.Rounding.{recorded}
use Rattle.exact.specs.Clauses.{Hold, FirstFails}
use Rattle.exact.proofs.ClauseLaws.{first_apart, first_row}
use Rattle.formulas.specs.Hour.{tenth, HourWithin, HoursWithin, Unrounded}
use Rattle.formulas.specs.Formulas.{Entry, passes_test}
use Rattle.formulas.proofs.FormulaLaws.{test_exact}
use Rattle.formulas.specs.declared.hour.Hour.{Hour}
use Rattle.formulas.specs.declared.hour.Quantity.{Quantity}
use Rattle.totals.specs.Totals.{quarter_totals}
use Rattle.totals.proofs.TotalLaws.{quarter_hours}
use Rattle.totals.specs.Mass.{mass_tons}
use Rattle.totals.proofs.MassLaws.{mass_near}
use Rattle.totals.specs.declared.Quarter.{Quarter}
use Rattle.judging.specs.Judged.{Verdict, number_for, Tried, figures_tried, Stated, stated_totals, failed_at, compared_totals, judged_quarter}
use Rattle.judging.specs.Behind.{LieBehind, SetsBehind, exact_amount, reported, allowed}
use Rattle.judging.proofs.BoundLaws.{amount_bound}
use Rattle.judging.specs.JudgedPromise.{SaidAsFormed, total_clauses, FirstDiffers, OfRow, FailsFirst, DiffersFirst, JudgedPromise}
use Rattle.judging.specs.JudgedPromise.OfRow.{of_hour, of_quarter}
use Rattle.judging.proofs.JudgedLaws.{each_figure, Passes, hour_clauses, hour_told, hour_rises, NoFailure, hours_accepted, hours_pass, Failing, hours_refused}
use Rattle.judging.proofs.JudgedLaws.{totals_accepted, totals_agree, totals_differ, same_said, said_same_lem}
use Rattle.judging.proofs.HourLaws.{hour_behind, set_passes, tries, OfHours, rows_own}

pass_behind : (q : Quantity) (hs : List Hour) → HoursWithin hs → NoFailure hs → (es : List (Entry q)) × LieBehind q hs es
pass_behind q [] w p = ([], tt)
pass_behind q (h ∷ hs) w p =
    let b = hour_behind h w.0 p.0 q in
    let r = pass_behind q hs w.1 p.1 in
    (b.0 ∷ r.0, (b.1, r.1))

behind_pass : (hs : List Hour) (sets : List Unrounded) → HoursWithin hs → SetsBehind hs sets → NoFailure hs
behind_pass [] [] w b = tt
behind_pass [] (s ∷ ss) w b = absurd b
behind_pass (h ∷ hs) [] w b = absurd b
behind_pass (h ∷ hs) (s ∷ ss) w b = (set_passes h s w.0 b.0, behind_pass hs ss w.1 b.1)

-- the numbers of the two tables lie apart
totals_other : All (λ (t : Stated). tries figures_tried t.number ≡ false) stated_totals
totals_other = (refl, (refl, (refl, (refl, (refl, tt)))))

module _ (f : ℕ → Hour) (n : ℕ) (within : (k : ℕ) → k < n → HourWithin (f k)) (said : Quarter) where
  abbrev own : List Hour
  own = ranked f 0 n

  abbrev verdict : Verdict
  verdict = judged_quarter own said

  all_within : HoursWithin own
  all_within = ranked_all HourWithin f n 0 n within (omega arith)

  -- what an acceptance says
  record Accepting (r : Quarter) : Type 0 where
    pub pass : NoFailure own
    pub formed : quarter_totals own ≡ r
    pub agree : Hold (total_clauses stated_totals (quarter_totals own) said)

  accepting : (r : Quarter) → verdict ≡ Ok r → Accepting r
  unfolding judged_quarter
  accepting r e =
      let h = hours_accepted 1 own (compared_totals (quarter_totals own) said) r e in
      let t = totals_accepted (quarter_totals own) said r h.1 in
      record { pass = h.0; formed = t.0; agree = t.1 }

  honest_accepted : (sets : List Unrounded) → SetsBehind own sets → said ≡ quarter_totals own → verdict ≡ Ok (quarter_totals own)
  unfolding judged_quarter
  honest_accepted sets b e =
      hours_pass 1 own _ (behind_pass own sets all_within b) ∙ totals_agree (quarter_totals own) said (same_said stated_totals (sym e))

  count_of_lem : (r : Quarter) → verdict ≡ Ok r → r.hours ≡ n
  count_of_lem r e = ap (λ (y : Quarter). y.hours) (sym (accepting r e).formed) ∙ quarter_hours own ∙ ranked_length f 0 n

  -- what a refusal says: of an hour, or else of the totals
  refusing : (number rank : ℕ) → verdict ≡ failed_at number rank →
      Failing f 0 (0 + n) number rank ⊎ (NoFailure own × (rank ≡ 0) × FirstDiffers stated_totals (quarter_totals own) said number)
  unfolding judged_quarter
  refusing number rank e =
      ⊎_elim (λ g. inl g) (λ z. let d = totals_differ (quarter_totals own) said number rank z.1 in inr (z.0, d.0, d.1))
      (hours_refused f 0 n (compared_totals (quarter_totals own) said) number rank e)

  module _ {number rank : ℕ} (g : Failing f 0 (0 + n) number rank) where
    failing_within : (k : ℕ) → k ≤ g.hour → HourWithin (f k)
    failing_within k l = within k (omega (arith, g.exists))

    failing_first : FirstFails (hour_clauses (f g.hour)) number
    failing_first = rw g.named ((hour_told (f g.hour)).wrong g.fault g.fails)

    failing_row : (t : Tried) × Memᴰ t figures_tried × (t.number ≡ number)
    failing_row = first_row (λ (t : Tried). t.number) (Passes (f g.hour)) figures_tried number failing_first

    failing_own : OfHours number
    failing_own = let t = failing_row in subst OfHours t.2 (all_member (λ (t : Tried). OfHours t.number) figures_tried t.0 rows_own t.1)

  refused_figure : (q : Quantity) (rank : ℕ) → verdict ≡ failed_at (number_for q) rank → FailsFirst f n q rank
  refused_figure q rank e =
      ⊎_elim
      (λ (g : Failing f 0 (0 + n) (number_for q) rank).
      let h = f g.hour in
      let w = (failing_within g g.hour (omega arith)).readings in
      let apart : (p : Quantity) → (number_for p ≡ number_for q → passes_test p h ≡ true → ⊥) × (number_for p < number_for q → passes_test p h ≡ true) =
      each_figure _ (first_apart (number_for q) 0 (hour_clauses h) (hour_rises h) (failing_first g)) in
      record {
        hour = g.hour;
        exists = omega (arith, g.exists);
        own = g.own;
        nothing = λ e b. (apart q).0 refl ((test_exact q h w).1 (e, b));
        earlier = λ k b. hour_behind (f k) (failing_within g k (omega arith)) (g.earlier k (omega arith) b);
        before = λ p l. (test_exact p h w).0 ((apart p).1 l);
      })
      (λ z.
      let t = first_row (λ (t : Stated). t.number) (SaidAsFormed (quarter_totals own) said) stated_totals (number_for q) z.2 in
      let other = all_member (λ (t : Stated). tries figures_tried t.number ≡ false) stated_totals t.0 totals_other t.1 in
      absurd (false≢true (sym other ∙ ap (tries figures_tried) t.2 ∙ each_figure (λ q. OfHours (number_for q)) rows_own q)))
      (refusing (number_for q) rank e)

  refused_total : (number rank : ℕ) → tries figures_tried number ≡ false → verdict ≡ failed_at number rank → DiffersFirst f n said number rank
  refused_total number rank o e =
      ⊎_elim
      (λ (g : Failing f 0 (0 + n) number rank). absurd (false≢true (sym o ∙ failing_own g)))
      (λ z. record { own = z.1; behind = λ q. pass_behind q own all_within z.0; first = z.2 })
      (refusing number rank e)

  refused_row : (number rank : ℕ) → verdict ≡ failed_at number rank → OfRow n number rank
  refused_row number rank e =
      ⊎_elim
      (λ (g : Failing f 0 (0 + n) number rank).
      let t = failing_row g in
      subst₂ (OfRow n) t.2 (sym g.own) (of_hour t.0 g.hour t.1 (omega (arith, g.exists))))
      (λ z.
      let t = first_row (λ (t : Stated). t.number) (SaidAsFormed (quarter_totals own) said) stated_totals number z.2 in
      subst₂ (OfRow n) t.2 (sym z.1) (of_quarter t.0 t.1))
      (refusing number rank e)

  pub judged_promise : JudgedPromise f n said verdict
  judged_promise = record {
    honest = honest_accepted;
    behind = λ r e q. pass_behind q own all_within (accepting r e).pass;
    bounds = λ r e q es b.
        subst₂ (λ (y : Quarter) (m : ℕ). Near (exact_amount q own es) (reported q y) (allowed q m)) (accepting r e).formed
        (ranked_length f 0 n ∙ sym (count_of_lem r e)) (amount_bound q own es all_within b);
    mass = λ r e.
        subst (λ (y : Quarter). Near (mass_tons own) (recorded tenth y.nox_tons) (fraction 1 20 (lit< tt))) (accepting r e).formed (mass_near own);
    rightly = refused_figure;
    differs = each stated_totals totals_other;
    rows = refused_row;
    count = count_of_lem;
    formed = λ r e. sym (accepting r e).formed;
    totals = λ r e h. said_same_lem r said (count_of_lem r e ∙ sym h) (rw (accepting r e).formed at (accepting r e).agree);
  }
    where
      each : (ts : List Stated) → All (λ (t : Stated). tries figures_tried t.number ≡ false) ts →
          All (λ (t : Stated). (rank : ℕ) → verdict ≡ failed_at t.number rank → DiffersFirst f n said t.number rank) ts
      each [] a = tt
      each (t ∷ ts) a = ((λ rank e. refused_total t.number rank a.0 e), each ts a.1)
