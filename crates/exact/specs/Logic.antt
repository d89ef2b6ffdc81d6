-- Small logic for the crates above: what cannot be, two tests joined, lists by the rank of their members, a test of every rank, a statement of every member.
use Rattle.std.specs.Prelude.{◌≡◌, Bool, true, false, cond, not, ◌&&◌, ◌||◌, ◌⊎◌, length, get_or}
use Rattle.std.proofs.Math.Path.{refl, ap}
use Rattle.std.proofs.Common.{sym, ◌∙◌, true≢false, inl, inr, ⊎_elim, le_of_suc-le-suc, not-suc-le-zero}
use Rattle.std.proofs.Math.Bool.{true-and, false-and}
use Rattle.std.proofs.lemmas.Bool.{false≢true}
use mathlib.Core.List.Memᴰ
use mathlib.Core.List.{List, [], ◌∷◌, ◌++◌, map, Memᴰ}
use Prim.Native.Nat.{ℕ, zero, suc, ◌+◌, ◌-◌, ◌≤◌, ◌<◌}
use native.Mathlib.Omega.{arith}
use Rattle.std.proofs.Math.Numerals.{add-one}

-- from what cannot be
pub clash : {A : Type 0} → ◌≡◌ {A = ℕ} 0 1 → A
clash z = absurd (omega arith)

pub both : (p q : Bool) → (p && q) ≡ true → (p ≡ true) × (q ≡ true)
both true q e = (refl, rw true-and at e)
both false q e = absurd (false≢true (rw false-and at e))

pub either : (p q : Bool) → (p || q) ≡ true → (p ≡ true) ⊎ (q ≡ true)
either true q e = inl refl
either false q e = inr e

pub neither : (p q : Bool) → (p || q) ≡ false → (p ≡ false) × (q ≡ false)
neither true q e = absurd (true≢false e)
neither false q e = (refl, e)

-- two tests give the same
abbrev pub agree : Bool → Bool → Bool
agree p q = cond p q (not q)

pub agreed : (p q : Bool) → agree p q ≡ true → p ≡ q
agreed true true e = refl
agreed true false e = sym e
agreed false true e = e
agreed false false e = refl

-- those of rank k, k + 1, ..: so many
unfoldable pub ranked : {A : Type 0} → (ℕ → A) → (k left : ℕ) → List A
ranked f k zero = []
ranked f k (suc left) = f k ∷ ranked f (suc k) left

module _ {A : Type 0} (f : ℕ → A) where
  pub ranked_length : (k left : ℕ) → length (ranked f k left) ≡ left
  unfolding ranked
  ranked_length k zero = refl
  ranked_length k (suc left) = ap suc (ranked_length (suc k) left)

  -- what is left of n from rank k on: the one of rank k and what is left behind it, or nothing
  pub ranked_next : (n k : ℕ) → k < n → ranked f k (n - k) ≡ f k ∷ ranked f (k + 1) (n - (k + 1))
  unfolding ranked
  ranked_next n k h = let e : n - k ≡ suc (n - (k + 1)) = omega arith in rw (e, add-one k)

  pub ranked_end : (n k : ℕ) → n ≤ k → ranked f k (n - k) ≡ []
  unfolding ranked
  ranked_end n k h = let e : n - k ≡ 0 = omega arith in rw e

  pub ranked_whole : (n : ℕ) → ranked f 0 (n - 0) ≡ ranked f 0 n
  ranked_whole n = let e : n - 0 ≡ n = omega arith in rw e

-- a test of every rank, tried one after the other: of so many from rank k on
module _ (f : ℕ → Bool) (t : (k left : ℕ) → Bool) (none : (k : ℕ) → t k 0 ≡ true) (next : (k left : ℕ) → t k (suc left) ≡ (f k && t (suc k) left)) where
  counted_from : (k left j : ℕ) → t k left ≡ true → j < left → f (k + j) ≡ true
  counted_from k zero j e h = absurd (omega arith)
  counted_from k (suc left) zero e h =
      let z : k + 0 ≡ k = omega arith in
      rw z (both (f k) (t (suc k) left) (sym (next k left) ∙ e)).0
  counted_from k (suc left) (suc j) e h =
      let s : k + suc j ≡ suc k + j = omega arith in
      rw s (counted_from (suc k) left j (both (f k) (t (suc k) left) (sym (next k left) ∙ e)).1 (omega arith))

  from_counted : (k left : ℕ) → ((j : ℕ) → j < left → f (k + j) ≡ true) → t k left ≡ true
  from_counted k zero each = none k
  from_counted k (suc left) each =
      let z : k + 0 ≡ k = omega arith in
      let first : f k ≡ true = rw z at (each 0 (omega arith)) in
      let later : (j : ℕ) → j < left → f (suc k + j) ≡ true =
      λ j h. let s : k + suc j ≡ suc k + j = omega arith in rw s at (each (suc j) (omega arith)) in
      next k left ∙ rw (first, from_counted (suc k) left later)

  -- of all below n
  pub counted_each : (n : ℕ) → t 0 n ≡ true → (j : ℕ) → j < n → f j ≡ true
  counted_each n e j h = let z : 0 + j ≡ j = omega arith in rw z at (counted_from 0 n j e h)

  pub each_counted : (n : ℕ) → ((j : ℕ) → j < n → f j ≡ true) → t 0 n ≡ true
  each_counted n each = from_counted 0 n (λ j h. let z : 0 + j ≡ j = omega arith in rw z (each j h))

-- a statement of every member of a list
abbrev pub All : {A : Type 0} → (A → Type 0) → List A → Type 0
All P [] = Unit {0}
All P (x ∷ xs) = P x × All P xs

pub mapped_all : {A : Type 0} {B : Type 0} (P : B → Type 0) (f : A → B) (xs : List A) → All (λ x. P (f x)) xs → All P (map f xs)
mapped_all P f [] a = tt
mapped_all P f (x ∷ xs) a = (a.0, mapped_all P f xs a.1)

pub ranked_all : {A : Type 0} (P : A → Type 0) (f : ℕ → A) (n k left : ℕ) → ((j : ℕ) → j < n → P (f j)) → k + left ≤ n → All P (ranked f k left)
unfolding ranked
ranked_all P f n k zero w h = tt
ranked_all P f n k (suc left) w h = (w k (omega arith), ranked_all P f n (suc k) left w (omega arith))

pub all_parts : {A : Type 0} (P : A → Type 0) (xs ys : List A) → All P (xs ++ ys) → All P xs × All P ys
all_parts P [] ys a = (tt, a)
all_parts P (x ∷ xs) ys a = let i = all_parts P xs ys a.1 in ((a.0, i.0), i.1)

-- the member of rank k
pub all_at : {A : Type 0} (P : A → Type 0) (xs : List A) (none : A) (k : ℕ) → All P xs → k < length xs → P (get_or xs k none)
all_at P [] none k a h = absurd (not-suc-le-zero h)
all_at P (x ∷ xs) none zero a h = a.0
all_at P (x ∷ xs) none (suc k) a h = all_at P xs none k a.1 (le_of_suc-le-suc h)

-- any member
pub all_member : {A : Type 0} (P : A → Type 0) (xs : List A) (x : A) → All P xs → Memᴰ x xs → P x
all_member P [] x a m = absurd (Memᴰ.not-nil m)
all_member P (y ∷ ys) x a m = ⊎_elim (λ e. rw e a.0) (λ n. all_member P ys x a.1 n) (Memᴰ.cases_cons m)

pub mapped_at : {A : Type 0} {B : Type 0} (f : A → B) (xs : List A) (none : A) (other : B) (k : ℕ) → k < length xs →
    get_or (map f xs) k other ≡ f (get_or xs k none)
mapped_at f [] none other k h = absurd (not-suc-le-zero h)
mapped_at f (x ∷ xs) none other zero h = refl
mapped_at f (x ∷ xs) none other (suc k) h = mapped_at f xs none other k (le_of_suc-le-suc h)
