-- Columns that are as their picture says: one more, and a part of them behind another that reaches it.
use Rattle.std.proofs.Common.{◌≡◌, ℕ, ◌+◌, ◌<◌, ◌≤◌, Bool, true, ◌&&◌, List, get_or, arith}
use native.Mathlib.Decide.{dec_lt}
use Rattle.exact.specs.Logic.{both}
use Rattle.columns.specs.Picture.{passes, FitsFrom}

module _ (picture line : List ℕ) where
  pub fits_one : (from i to : ℕ) (fine : Bool) → to ≡ i + 1 → (fine ≡ true → FitsFrom from i picture line) →
      fine && passes (get_or picture i 0) (get_or line i 0) (get_or line (i + 1) 0) ≡ true → FitsFrom from to picture line
  fits_one from i to fine e k h =
      let b = both fine _ h in
      record { column = λ j m l. go j m l b.1 (k b.0) (dec_lt j i) }
    where
      go : (j : ℕ) → from ≤ j → j < to → passes (get_or picture i 0) (get_or line i 0) (get_or line (i + 1) 0) ≡ true → FitsFrom from i picture line →
          Dec (j < i) → passes (get_or picture j 0) (get_or line j 0) (get_or line (j + 1) 0) ≡ true
      go j m l t w (yes n) = w.column j m n
      go j m l t w (no n) = let e : j ≡ i = omega arith in rw e t

  pub fits_joined : (a b n : ℕ) → b ≤ a → FitsFrom 0 a picture line → FitsFrom b n picture line → FitsFrom 0 n picture line
  fits_joined a b n m front back = record { column = λ j l h. go j l h (dec_lt j a) }
    where
      go : (j : ℕ) → 0 ≤ j → j < n → Dec (j < a) → passes (get_or picture j 0) (get_or line j 0) (get_or line (j + 1) 0) ≡ true
      go j l h (yes y) = front.column j l y
      go j l h (no o) = back.column j (omega arith) h
