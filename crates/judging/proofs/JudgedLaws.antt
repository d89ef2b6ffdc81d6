-- What a verdict says of the hours and of the totals: an acceptance, that there is no failure; a refusal with a rank, which hour fails first,
-- and with which number; one with rank 0, which total differs first.
use Rattle.std.specs.Prelude.{ℕ, zero, suc, ◌+◌, ◌≤◌, ◌<◌, ◌≡◌, refl, List, [], ◌∷◌, map, true, ◌⊎◌, drop, Ok, Err}
use Rattle.std.proofs.Common.{sym, ap₂, ◌∙◌, inl, inr, arith, eq-or-lt_of_le, add-one, lit≤, drop-cons, eqb-true, eq-eqb}
use Rattle.std.proofs.Math.Path.{ap}
use Rattle.std.proofs.Math.Logic.{⊎_elim}
use Rattle.exact.specs.Logic.{clash, ranked, All, all_at, mapped_at}
use Rattle.exact.specs.Clauses.{Clause, row_clauses, Hold}
use Rattle.exact.proofs.ClauseLaws.{Told, told_none, Rise, told_rows}
use Rattle.formulas.specs.declared.hour.Hour.{Hour}
use Rattle.formulas.specs.declared.hour.Quantity.{Quantity}
use Rattle.formulas.specs.declared.hour.Quantity.TheVariants.{Heat, So2, Nox, Co2}
use Rattle.totals.specs.declared.Quarter.{Quarter}
use Rattle.judging.specs.Judged.{PaperRow, figure_of, figure_rows, figure_count, figure_at, Tried, tried, figures_tried, Stated}
use Rattle.judging.specs.Judged.{stated_totals, failed_at, failed_or, hour_failure, judged_hours}
use Rattle.judging.specs.Judged.{Verdict, said_same, totals_fault, compared_totals}
use Rattle.judging.specs.JudgedPromise.{SaidAsFormed, total_clauses, FirstDiffers}

never_accepted : {A : Type 0} (number rank : ℕ) (r : Quarter) → failed_at number rank ≡ Ok r → A
never_accepted number rank r e = clash cc

number_in : Verdict → ℕ
number_in (Ok r) = 0
number_in (Err r) = r.number

rank_in : Verdict → ℕ
rank_in (Ok r) = 0
rank_in (Err r) = r.rank

same_failure : (a b c d : ℕ) → failed_at a b ≡ failed_at c d → (a ≡ c) × (b ≡ d)
unfolding number_in rank_in
same_failure a b c d e = (ap number_in e, ap rank_in e)

-- what is known of a failure, or else of what follows
or_accepted : (n rank : ℕ) (rest : Verdict) (r : Quarter) → failed_or n rank rest ≡ Ok r → (n ≡ 0) × (rest ≡ Ok r)
or_accepted zero rank rest r e = (refl, e)
or_accepted (suc c) rank rest r e = never_accepted (suc c) rank r e

or_refused : (n rank : ℕ) (rest : Verdict) (number at : ℕ) → failed_or n rank rest ≡ failed_at number at →
    ((at ≡ rank) × (c : ℕ) × (n ≡ suc c) × (number ≡ suc c)) ⊎ ((n ≡ 0) × (rest ≡ failed_at number at))
or_refused zero rank rest number at e = inr (refl, e)
or_refused (suc c) rank rest number at e = let s = same_failure (suc c) rank number at e in inl (sym s.1, c, refl, sym s.0)

pub failed_said : (n number rank : ℕ) (rest : Verdict) → 1 ≤ n → n ≡ number → failed_at n rank ≡ failed_or number rank rest
failed_said zero number rank rest h e = absurd (omega arith)
failed_said (suc c) number rank rest h e = rw (← e)

-- the table of the figures: a statement of each of its quantities is one of every quantity
pub each_figure : (P : Quantity → Type 0) → All P (map (λ (r : PaperRow). r.quantity) figure_rows) → (q : Quantity) → P q
each_figure P a Heat = a.0
each_figure P a So2 = a.1.0
each_figure P a Nox = a.1.1.0
each_figure P a Co2 = a.1.1.1.0

-- its rows in their order
pub drop_figure : (j : ℕ) → j < figure_count → drop j figures_tried ≡ tried (figure_at j) ∷ drop (j + 1) figures_tried
drop_figure j h =
    drop-cons figures_tried j (tried (figure_of Co2)) h
    ∙ ap₂ (λ (t : Tried) (n : ℕ). t ∷ drop n figures_tried) (mapped_at tried figure_rows (figure_of Co2) (tried (figure_of Co2)) j h) (sym (add-one j))

figures_some : All (λ (r : PaperRow). 0 < r.number) figure_rows
figures_some = (lit≤ tt, (lit≤ tt, (lit≤ tt, (lit≤ tt, tt))))

pub figure_some : (j : ℕ) → j < figure_count → 0 < (figure_at j).number
figure_some j h = all_at (λ (r : PaperRow). 0 < r.number) figure_rows (figure_of Co2) j figures_some h

-- an hour passes what it is tried by: its failure tells of it, and the numbers rise
abbrev pub Passes : Hour → Tried → Type 0
Passes h t = t.passes h ≡ true

abbrev pub hour_clauses : Hour → List Clause
hour_clauses h = row_clauses (λ (t : Tried). t.number) (Passes h) figures_tried

pub hour_told : (h : Hour) → Told (hour_failure h) (hour_clauses h)
hour_told h = told_rows (λ (t : Tried). t.number) (Passes h) (λ (t : Tried). t.passes h) (λ t e. e) (λ t e. e) figures_tried figures_some

pub hour_rises : (h : Hour) → Rise 0 (hour_clauses h)
hour_rises h = (lit≤ tt, (lit≤ tt, (lit≤ tt, (lit≤ tt, tt))))

-- the hours: without a failure, what follows them decides
abbrev pub NoFailure : List Hour → Type 0
NoFailure hs = All (λ (h : Hour). hour_failure h ≡ 0) hs

pub hours_accepted : (rank : ℕ) (hs : List Hour) (rest : Verdict) (r : Quarter) → judged_hours rank hs rest ≡ Ok r → NoFailure hs × (rest ≡ Ok r)
unfolding judged_hours
hours_accepted rank [] rest r e = (tt, e)
hours_accepted rank (h ∷ hs) rest r e =
    let f = or_accepted (hour_failure h) rank (judged_hours (suc rank) hs rest) r e in
    let i = hours_accepted (suc rank) hs rest r f.1 in
    ((f.0, i.0), i.1)

pub hours_pass : (rank : ℕ) (hs : List Hour) (rest : Verdict) → NoFailure hs → judged_hours rank hs rest ≡ rest
unfolding judged_hours
hours_pass rank [] rest p = refl
hours_pass rank (h ∷ hs) rest p = ap (λ (n : ℕ). failed_or n rank (judged_hours (suc rank) hs rest)) p.0 ∙ hours_pass (suc rank) hs rest p.1

-- an hour with a failure, the first from rank `from` on
pub record Failing (f : ℕ → Hour) (from n : ℕ) (number rank : ℕ) : Type 0 where
  pub hour : ℕ
  pub exists : hour < n
  pub own : rank ≡ suc hour
  pub fault : ℕ
  pub fails : hour_failure (f hour) ≡ suc fault
  pub named : number ≡ suc fault
  pub earlier : (j : ℕ) → from ≤ j → j < hour → hour_failure (f j) ≡ 0

pub hours_refused : (f : ℕ → Hour) (k left : ℕ) (rest : Verdict) (number rank : ℕ) → judged_hours (suc k) (ranked f k left) rest ≡ failed_at number rank →
    Failing f k (k + left) number rank ⊎ (NoFailure (ranked f k left) × (rest ≡ failed_at number rank))
unfolding judged_hours ranked
hours_refused f k zero rest number rank e = inr (tt, e)
hours_refused f k (suc left) rest number rank e =
    ⊎_elim
    (λ x.
    inl (record {
      hour = k;
      exists = omega arith;
      own = x.0;
      fault = x.1;
      fails = x.2;
      named = x.3;
      earlier = λ j a b. absurd (omega arith);
    }))
    (λ w.
    ⊎_elim
    (λ x.
    inl (record {
      hour = x.hour;
      exists = omega (arith, x.exists);
      own = x.own;
      fault = x.fault;
      fails = x.fails;
      named = x.named;
      earlier = λ j a b. ⊎_elim (λ z. rw (← z) w.0) (λ z. x.earlier j z b) (eq-or-lt_of_le a);
    }))
    (λ z. inr ((w.0, z.0), z.1))
    (hours_refused f (suc k) left rest number rank w.1))
    (or_refused (hour_failure (f k)) (suc k) (judged_hours (suc (suc k)) (ranked f (suc k) left) rest) number rank e)

-- the totals: their fault tells whether they are said as formed
module _ (f s : Quarter) where
  totals_told : Told (totals_fault f s) (total_clauses stated_totals f s)
  totals_told =
      told_rows (λ (t : Stated). t.number) (SaidAsFormed f s) (said_same f s) (λ t. eqb-true _ _) (λ t. eq-eqb _ _) stated_totals
      (lit≤ tt, (lit≤ tt, (lit≤ tt, (lit≤ tt, (lit≤ tt, tt)))))

  pub totals_accepted : (r : Quarter) → compared_totals f s ≡ Ok r → (f ≡ r) × Hold (total_clauses stated_totals f s)
  unfolding compared_totals
  totals_accepted r e =
      let o = or_accepted (totals_fault f s) 0 (Ok f) r e in
      (accepted_same f r o.1, totals_told.right o.0)
    where
      accepted_same : (a b : Quarter) → ◌≡◌ {A = Verdict} (Ok a) (Ok b) → a ≡ b
      accepted_same a b w = cc

  pub totals_agree : Hold (total_clauses stated_totals f s) → compared_totals f s ≡ Ok f
  unfolding compared_totals
  totals_agree a = ap (λ (n : ℕ). failed_or n 0 (Ok f)) (told_none (totals_fault f s) (total_clauses stated_totals f s) totals_told a)

  pub totals_differ : (number rank : ℕ) → compared_totals f s ≡ failed_at number rank → (rank ≡ 0) × FirstDiffers stated_totals f s number
  unfolding compared_totals
  totals_differ number rank e =
      ⊎_elim (λ x. (x.0, rw x.3 (totals_told.wrong x.1 x.2))) (λ w. never_accepted number rank f (sym w.1))
      (or_refused (totals_fault f s) 0 (Ok f) number rank e)

-- the same totals are said as formed
pub same_said : (ts : List Stated) {f s : Quarter} → f ≡ s → Hold (total_clauses ts f s)
same_said [] e = tt
same_said (t ∷ ts) e = (ap t.amount e, same_said ts e)

-- totals said as formed, and as many hours, are the same
pub said_same_lem : (f s : Quarter) → f.hours ≡ s.hours → Hold (total_clauses stated_totals f s) → f ≡ s
said_same_lem f s h a =
    λ i. record { hours = h i; so2 = a.0 i; co2 = a.1.0 i; heat = a.1.1.0 i; nox = a.1.1.1.0 i; nox_tons = a.1.1.1.1.0 i }
