-- What is found block by block decides as the whole does.
use Rattle.std.proofs.Common.{◌≡◌, ℕ, zero, suc, ◌+◌, ◌-◌, ◌*◌, ◌≤◌, Bool, true, false, List, [], ◌∷◌, take, drop, sym, refl, ◌∙◌, suc-add, zero-add, arith}
use native.Mathlib.Nat.{add-sub_cancel_left}
use Rattle.columns.specs.Bytes.{all}
use Rattle.columns.proofs.BytesLaws.{all_cons, all_head, all_tail, all_take, all_drop}

module _ (p : ℕ → Bool) where
  -- n more behind the first i
  block_more : (i n : ℕ) (l : List ℕ) → all p (take i l) ≡ true → all p (take n (drop i l)) ≡ true → all p (take (i + n) l) ≡ true
  unfolding all
  block_more zero n l h k = rw (zero-add n) k
  block_more (suc i) n [] h k = rw (suc-add i n)
  block_more (suc i) n (x ∷ xs) h k =
      rw (suc-add i n) (all_cons p x (take (i + n) xs) (all_head p x (take i xs) h) (block_more i n xs (all_tail p x (take i xs) h) k))

  -- of n at a time, one block more
  pub block_next : (k n : ℕ) (l : List ℕ) → all p (take (k * n) l) ≡ true → true ≡ all p (take (k * n + n - k * n) (drop (k * n) l)) →
      all p (take ((k + 1) * n) l) ≡ true
  block_next k n l h e =
      let f : (k + 1) * n ≡ k * n + n = omega arith in
      rw f (block_more (k * n) n l h (sym (rw (add-sub_cancel_left (k * n) n) at e)))

  -- one block that fails
  pub block_fails : (i n : ℕ) (l : List ℕ) → false ≡ all p (take (i + n - i) (drop i l)) → false ≡ all p l
  block_fails i n l h = go (all p l) refl
    where
      go : (t : Bool) → all p l ≡ t → false ≡ t
      go true e = h ∙ all_take p (i + n - i) (drop i l) (all_drop p i l e)
      go false e = refl

  -- what stands behind the first n of more that pass
  pub last_decides : (n i : ℕ) (l : List ℕ) → n ≤ i → all p (take i l) ≡ true → all p (drop n l) ≡ all p l
  unfolding all
  last_decides zero i l b h = refl
  last_decides (suc n) zero l b h = absurd (omega arith)
  last_decides (suc n) (suc i) [] b h = refl
  last_decides (suc n) (suc i) (x ∷ xs) b h =
      last_decides n i xs (omega arith) (all_tail p x (take i xs) h) ∙ sym (rw (all_head p x (take i xs) h, all))
