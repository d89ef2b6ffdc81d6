-- Laws of tests over lists of bytes.
use Rattle.std.specs.Prelude.{◌≡◌, ℕ, zero, suc, ◌<◌, ◌≤◌, Bool, true, false, ◌&&◌, ◌↔◌, List, [], ◌∷◌, ◌++◌, length, take, drop, ◌==◌, nat_le, slice_index}
use Rattle.std.proofs.Math.Path.{refl}
use Rattle.std.proofs.Common.{arith, eq-eqb, eqb-true, le-leb, leb-true}
use Rattle.columns.specs.Bytes.{is_digit, is_printable, all, same}

-- two lists are the same where they are equal, and nowhere else
same_refl : (xs : List ℕ) → same xs xs ≡ true
unfolding same
same_refl [] = refl
same_refl (x ∷ xs) = rw (eq-eqb x x refl, same) (same_refl xs)

same_true : (xs ys : List ℕ) → same xs ys ≡ true → xs ≡ ys
unfolding same
same_true [] [] h = refl
same_true [] (y ∷ ys) h = cc
same_true (x ∷ xs) [] h = cc
same_true (x ∷ xs) (y ∷ ys) h = go (same_true xs ys) (x == y) refl h
  where
    go : (same xs ys ≡ true → xs ≡ ys) → (t : Bool) → (x == y) ≡ t → elim t [ true ↦ same xs ys | false ↦ false ] ≡ true → x ∷ xs ≡ y ∷ ys
    go ih true e k = cc (eqb-true x y e, ih k)
    go ih false e k = cc

pub same_eq : (xs ys : List ℕ) → (same xs ys ≡ true) ↔ (xs ≡ ys)
same_eq xs ys = (same_true xs ys, λ e. rw e (same_refl ys))

module _ (p : ℕ → Bool) where
  pub all_cons : (b : ℕ) (bs : List ℕ) → p b ≡ true → all p bs ≡ true → all p (b ∷ bs) ≡ true
  unfolding all
  all_cons b bs h k = rw (h, all) k

  pub all_head : (b : ℕ) (bs : List ℕ) → all p (b ∷ bs) ≡ true → p b ≡ true
  unfolding all
  all_head b bs h = go (p b) h
    where
      go : (t : Bool) → elim t [ true ↦ all p bs | false ↦ false ] ≡ true → t ≡ true
      go true k = refl
      go false k = k

  pub all_tail : (b : ℕ) (bs : List ℕ) → all p (b ∷ bs) ≡ true → all p bs ≡ true
  unfolding all
  all_tail b bs h = go (p b) h
    where
      go : (t : Bool) → elim t [ true ↦ all p bs | false ↦ false ] ≡ true → all p bs ≡ true
      go true k = k
      go false k = cc

  pub all_append : (xs ys : List ℕ) → all p xs ≡ true → all p ys ≡ true → all p (xs ++ ys) ≡ true
  all_append [] ys h k = k
  all_append (x ∷ xs) ys h k = all_cons x (xs ++ ys) (all_head x xs h) (all_append xs ys (all_tail x xs h) k)

  pub all_snoc : (xs : List ℕ) (b : ℕ) → all p xs ≡ true → p b ≡ true → all p (xs ++ (b ∷ [])) ≡ true
  unfolding all
  all_snoc xs b h k = all_append xs (b ∷ []) h (all_cons b [] k refl)

  pub all_take : (n : ℕ) (l : List ℕ) → all p l ≡ true → all p (take n l) ≡ true
  unfolding all
  all_take zero l h = refl
  all_take (suc n) [] h = refl
  all_take (suc n) (x ∷ xs) h = all_cons x (take n xs) (all_head x xs h) (all_take n xs (all_tail x xs h))

  pub all_drop : (n : ℕ) (l : List ℕ) → all p l ≡ true → all p (drop n l) ≡ true
  all_drop zero l h = h
  all_drop (suc n) [] h = h
  all_drop (suc n) (x ∷ xs) h = all_drop n xs (all_tail x xs h)

  -- byte by byte
  pub all_from : (l : List ℕ) → ((i : ℕ) → i < length l → p (slice_index l i) ≡ true) → all p l ≡ true
  unfolding all
  all_from [] h = refl
  all_from (x ∷ xs) h = all_cons x xs (h 0 (omega arith)) (all_from xs (λ i k. h (suc i) (omega arith)))

  pub all_byte : (l : List ℕ) → all p l ≡ true → (i : ℕ) → i < length l → p (slice_index l i) ≡ true
  all_byte [] h i k = absurd (omega arith)
  all_byte (x ∷ xs) h zero k = all_head x xs h
  all_byte (x ∷ xs) h (suc i) k = all_byte xs (all_tail x xs h) i (omega arith)

-- a weaker test
pub all_weaken : (p q : ℕ → Bool) → ((b : ℕ) → p b ≡ true → q b ≡ true) → (l : List ℕ) → all p l ≡ true → all q l ≡ true
unfolding all
all_weaken p q h [] k = refl
all_weaken p q h (x ∷ xs) k = all_cons q x xs (h x (all_head p x xs k)) (all_weaken p q h xs (all_tail p x xs k))

pub digit_printable : (b : ℕ) → is_digit b ≡ true → is_printable b ≡ true
digit_printable b h = go (nat_le 48 b) refl h
  where
    go : (t : Bool) → nat_le 48 b ≡ t → t && nat_le b 57 ≡ true → is_printable b ≡ true
    go true e k =
        let l : 48 ≤ b = leb-true 48 b e in
        let m : b ≤ 57 = leb-true b 57 k in
        rw (le-leb 32 b (omega arith)) (le-leb b 126 (omega arith))
    go false e k = cc
