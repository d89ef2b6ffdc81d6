-- The answer's numbers at the front of a lent slice.
use Rattle.std.specs.Prelude.{Ok, Err}
use Prim.Native.Nat.{ℕ, suc, ◌≤◌, ◌<◌}
use mathlib.Core.Path.{◌≡◌, refl, ap, ◌∙◌}
use mathlib.Core.List.{List, [], ◌∷◌, ◌++◌}
use native.Mathlib.Omega.{arith}
use lib.ListN.{length, drop, set}
use borrow.Author.Tests.{lt-ltb, le-ltb, eq-eqb, ne_eqb}
use Rattle.layout.specs.Layout.{stack_width}
use Rattle.totals.specs.declared.Quarter.{Quarter}
use Rattle.refusals.specs.declared.PaperRefusal.{PaperRefusal}
use Rattle.judging.specs.Judged.{acceptance}
use Rattle.checker.specs.Checked.{refusal, checked}
use Rattle.writer.specs.Written.{written_number, answered, buffered}
use Rattle.edr_c.specs.Boundary.{filled, answer_length, check_code, check_filled, write_code, write_filled}

-- numbers stored one by one, from a place on
unfoldable pub store : List ℕ → ℕ → List ℕ → List ℕ
store [] i l = l
store (x ∷ xs) i l = store xs (suc i) (set l i x)

store_behind : (xs : List ℕ) (i y : ℕ) (l : List ℕ) → store xs (suc i) (y ∷ l) ≡ y ∷ store xs i l
unfolding store
store_behind [] i y l = refl
store_behind (x ∷ xs) i y l = store_behind xs (suc i) y (set l i x)

pub stored : (xs l : List ℕ) → length xs ≤ length l → store xs 0 l ≡ filled xs l
unfolding store
stored [] l h = refl
stored (x ∷ xs) [] h = absurd (omega arith)
stored (x ∷ xs) (y ∷ l) h = store_behind xs 0 x l ∙ ap (λ (r : List ℕ). x ∷ r) (stored xs l (omega arith))

pub set_front : (n : ℕ) (l : List ℕ) → 1 ≤ length l → set l 0 n ≡ filled (n ∷ []) l
unfolding store
set_front n l h = stored (n ∷ []) l h

module _ (file buffer : List ℕ) where
  pub short : length buffer < answer_length → (2 ≡ check_code file buffer) × (buffer ≡ check_filled file buffer)
  unfolding check_code check_filled
  short h = (rw (lt-ltb (length buffer) answer_length h, check_code), rw (lt-ltb (length buffer) answer_length h, check_filled))

  pub accepted : (r : Quarter) → checked file ≡ Ok r → answer_length ≤ length buffer → (front : List ℕ) → front ≡ acceptance r →
      (1 ≡ check_code file buffer) × (front ++ drop answer_length buffer ≡ check_filled file buffer)
  unfolding check_code check_filled
  accepted r e h front f =
      let few = le-ltb (length buffer) answer_length h in
      (rw (few, check_code, e), rw (few, check_filled, e, f))

  pub refused : (r : PaperRefusal) → checked file ≡ Err r → answer_length ≤ length buffer → (front : List ℕ) → front ≡ refusal r.number r.line →
      (0 ≡ check_code file buffer) × (front ++ drop 2 buffer ≡ check_filled file buffer)
  unfolding check_code check_filled
  refused r e h front f =
      let few = le-ltb (length buffer) answer_length h in
      (rw (few, check_code, e), rw (few, check_filled, e, f))

module _ (year quarter : ℕ) (name sheet buffer : List ℕ) where
  pub no_name : (length name ≡ stack_width → ⊥) → (31 ≡ write_code year quarter name sheet buffer) × (buffer ≡ write_filled year quarter name sheet buffer)
  unfolding write_code write_filled
  no_name h = (rw (ne_eqb (length name) stack_width h, write_code), rw (ne_eqb (length name) stack_width h, write_filled))

  -- what the writer answers and leaves for the six bytes is what it does for the name
  pub named : (letters : List ℕ) (code : ℕ) (exit : List ℕ) → letters ≡ name → length name ≡ stack_width →
      code ≡ written_number (answered year quarter letters sheet (length buffer)) → exit ≡ buffered year quarter letters sheet buffer →
      (code ≡ write_code year quarter name sheet buffer) × (exit ≡ write_filled year quarter name sheet buffer)
  unfolding write_code write_filled
  named letters code exit l e c x = (rw (eq-eqb (length name) stack_width e, write_code, ← l) c, rw (eq-eqb (length name) stack_width e, write_filled, ← l) x)
