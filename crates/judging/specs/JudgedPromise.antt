-- What judging promises of its verdict on n hours, taken by rank, and on the totals said of them: hours honestly recorded are accepted;
-- behind accepted ones stand unrounded readings; whichever they are, the exact amounts lie within the stated bounds of the reported ones; a
-- figure is refused only where nothing unrounded lies behind it, and a total only where it differs from the one formed. The promise of the
-- check is made of it. JudgedPromiseLaws.antt proves it.
use Rattle.std.specs.Prelude.{ℕ, suc, ◌<◌, ◌≡◌, Ok}
use mathlib.Core.List.{List, Memᴰ}
use Rattle.std.proofs.Common.{lit<}
use Rattle.exact.specs.Logic.{ranked, All}
use Rattle.exact.specs.Fraction.{fraction, Near}
use Rattle.exact.specs.Rounding.{recorded}
use Rattle.exact.specs.Clauses.{Clause, row_clauses, FirstFails}
use Rattle.formulas.specs.Hour.{tenth, Unrounded}
use Rattle.formulas.specs.Formulas.{Entry, LiesBehind}
use Rattle.formulas.specs.declared.hour.Hour.{Hour}
use Rattle.formulas.specs.declared.hour.Quantity.{Quantity}
use Rattle.totals.specs.Totals.{quarter_totals}
use Rattle.totals.specs.Mass.{mass_tons}
use Rattle.totals.specs.declared.Quarter.{Quarter}
use Rattle.judging.specs.Judged.{Verdict, number_for, Tried, figures_tried, Stated, stated_totals, failed_at}
use Rattle.judging.specs.Behind.{LieBehind, SetsBehind, exact_amount, reported, allowed}

-- a total is said as it is formed
abbrev pub SaidAsFormed : (formed said : Quarter) → Stated → Type 0
SaidAsFormed formed said t = t.amount formed ≡ t.amount said

abbrev pub total_clauses : List Stated → (formed said : Quarter) → List Clause
total_clauses ts formed said = row_clauses (λ (t : Stated). t.number) (SaidAsFormed formed said) ts

-- of some totals, left to right, the first that differs from the one formed is that of this number
abbrev pub FirstDiffers : List Stated → (formed said : Quarter) → ℕ → Type 0
FirstDiffers ts formed said number = FirstFails (total_clauses ts formed said) number

-- a refusal is of a row: of what hours are tried by, with the rank of one of n hours, or of the totals, with rank 0
pub data OfRow (n : ℕ) : (number rank : ℕ) → Type 0 where
  of_hour : (t : Tried) (k : ℕ) → Memᴰ t figures_tried → k < n → OfRow n t.number (suc k)
  of_quarter : (t : Stated) → Memᴰ t stated_totals → OfRow n t.number 0

module _ (f : ℕ → Hour) (n : ℕ) where
  abbrev hs : List Hour
  hs = ranked f 0 n

  -- an hour's figure behind which nothing lies, by the hour's rank from 1
  pub record FailsFirst (q : Quantity) (rank : ℕ) : Type 0 where
    pub hour : ℕ
    pub exists : hour < n
    pub own : rank ≡ suc hour
    pub nothing : (e : Entry q) → LiesBehind q (f hour) e → ⊥
    -- it is the first: readings lie behind every figure of the hours before, and behind those of its hour with a lesser number
    pub earlier : (k : ℕ) → k < hour → (p : Quantity) → (e : Entry p) × LiesBehind p (f k) e
    pub before : (p : Quantity) → number_for p < number_for q → (e : Entry p) × LiesBehind p (f hour) e

  -- another total is said than the one formed, and those before it as they are formed
  pub record DiffersFirst (said : Quarter) (number rank : ℕ) : Type 0 where
    pub own : rank ≡ 0
    -- readings lie behind every figure
    pub behind : (q : Quantity) → (es : List (Entry q)) × LieBehind q hs es
    pub first : FirstDiffers stated_totals (quarter_totals hs) said number

  pub record JudgedPromise (said : Quarter) (v : Verdict) : Type 0 where
    pub honest : (sets : List Unrounded) → SetsBehind hs sets → said ≡ quarter_totals hs → v ≡ Ok (quarter_totals hs)
    pub behind : (r : Quarter) → v ≡ Ok r → (q : Quantity) → (es : List (Entry q)) × LieBehind q hs es
    pub bounds : (r : Quarter) → v ≡ Ok r → (q : Quantity) (es : List (Entry q)) → LieBehind q hs es →
        Near (exact_amount q hs es) (reported q r) (allowed q r.hours)
    -- NOx tons are of recorded figures: no hour has a share in the bound
    pub mass : (r : Quarter) → v ≡ Ok r → Near (mass_tons hs) (recorded tenth r.nox_tons) (fraction 1 20 (lit< tt))
    pub rightly : (q : Quantity) (rank : ℕ) → v ≡ failed_at (number_for q) rank → FailsFirst q rank
    pub differs : All (λ (t : Stated). (rank : ℕ) → v ≡ failed_at t.number rank → DiffersFirst said t.number rank) stated_totals
    pub rows : (number rank : ℕ) → v ≡ failed_at number rank → OfRow n number rank
    pub count : (r : Quarter) → v ≡ Ok r → r.hours ≡ n
    pub formed : (r : Quarter) → v ≡ Ok r → r ≡ quarter_totals hs
    pub totals : (r : Quarter) → v ≡ Ok r → said.hours ≡ n → r ≡ said
