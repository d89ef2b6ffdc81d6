-- An hour without a failure: readings lie behind its figures, and one behind whose figures readings lie has none; the numbers of its figures.
use Rattle.std.specs.Prelude.{ℕ, ◌≡◌, refl, Bool, true, false, ◌||◌, eqb}
use mathlib.Core.List.{List, [], ◌∷◌, map}
use Rattle.exact.specs.Logic.{All}
use Rattle.exact.specs.Clauses.{row_clauses, Hold}
use Rattle.exact.proofs.ClauseLaws.{told_none}
use Rattle.formulas.specs.Hour.{HourWithin, Unrounded}
use Rattle.formulas.specs.Formulas.{Entry, entry_of, LiesBehind, passes_test}
use Rattle.formulas.proofs.FormulaLaws.{test_exact}
use Rattle.formulas.specs.declared.hour.Hour.{Hour}
use Rattle.formulas.specs.declared.hour.Quantity.{Quantity}
use Rattle.judging.specs.Judged.{PaperRow, figure_rows, Tried, tried, figures_tried, hour_failure}
use Rattle.judging.proofs.JudgedLaws.{each_figure, Passes, hour_clauses, hour_told}

pub hour_behind : (h : Hour) → HourWithin h → hour_failure h ≡ 0 → (q : Quantity) → (e : Entry q) × LiesBehind q h e
hour_behind h w e q = (test_exact q h w.readings).0 (each_figure (λ q. passes_test q h ≡ true) ((hour_told h).right e) q)

-- hours with a set behind all their figures have none
pub set_passes : (h : Hour) (s : Unrounded) → HourWithin h → ((q : Quantity) → LiesBehind q h (entry_of q s)) → hour_failure h ≡ 0
set_passes h s w b = told_none (hour_failure h) (hour_clauses h) (hour_told h) (go figure_rows)
  where
    go : (rs : List PaperRow) → Hold (row_clauses (λ (t : Tried). t.number) (Passes h) (map tried rs))
    go [] = tt
    go (r ∷ rs) = ((test_exact r.quantity h w.readings).1 (entry_of r.quantity s, b r.quantity), go rs)

-- the numbers that an hour's figures name
abbrev pub tries : List Tried → ℕ → Bool
tries [] number = false
tries (t ∷ ts) number = eqb t.number number || tries ts number

abbrev pub OfHours : ℕ → Type 0
OfHours number = tries figures_tried number ≡ true

pub rows_own : All (λ (t : Tried). OfHours t.number) figures_tried
rows_own = (refl, (refl, (refl, (refl, tt))))
