-- A fault is a number, 0 where there is none: the first of several, a test that gives one, and the first of a table of tests.
use Rattle.std.specs.Prelude.{ℕ, zero, suc, ◌≤◌, ◌≡◌, refl, Bool, true, false, cond, List, [], ◌∷◌}
use Rattle.std.proofs.Common.{arith}

infixr 40 ◌or_else◌
-- the first fault of two
abbrev pub ◌or_else◌ : ℕ → ℕ → ℕ
zero or_else b = b
suc a or_else b = suc a

-- a test's number where it fails
abbrev pub unless : Bool → ℕ → ℕ
unless holds number = cond holds 0 number

-- the first of some rows that fails a test, by its number; 0 where all pass
unfoldable pub first_failing : {A : Type 0} → (A → Bool) → (A → ℕ) → List A → ℕ
first_failing passes number [] = 0
first_failing passes number (x ∷ xs) = unless (passes x) (number x) or_else first_failing passes number xs

pub or_first : (a b : ℕ) → (a ≡ 0 → ⊥) → a or_else b ≡ a
or_first zero b h = absurd (h refl)
or_first (suc a) b h = refl

pub or_next : (a b : ℕ) → a ≡ 0 → a or_else b ≡ b
or_next a b h = rw h

pub or_none : (a b : ℕ) → b ≡ 0 → a or_else b ≡ a
or_none zero b h = h
or_none (suc a) b h = refl

pub or_zero : (a b : ℕ) → a or_else b ≡ 0 → (a ≡ 0) × (b ≡ 0)
or_zero zero b e = (refl, e)
or_zero (suc a) b e = absurd (omega arith)

pub unless_none : (t : Bool) (n : ℕ) → 1 ≤ n → unless t n ≡ 0 → t ≡ true
unless_none true n h e = refl
unless_none false n h e = absurd (omega arith)

-- the same for a number that is written out
pub unless_zero : (t : Bool) (k : ℕ) → unless t (suc k) ≡ 0 → t ≡ true
unless_zero t k e = unless_none t (suc k) (omega arith) e
