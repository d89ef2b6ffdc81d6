-- Laws of bytes put into columns: they stand there, and every other column is as it was.
use Rattle.std.specs.Prelude.{◌≡◌, ℕ, ◌+◌, ◌-◌, ◌<◌, ◌≤◌, Bool, true, List, ◌++◌, length, take, drop, slice_index, refl}
use Rattle.std.proofs.Math.Path.{sym, ap}
use Rattle.std.proofs.Common.{◌∙◌, append_assoc, add-zero, take-append-drop, take_all, length-take-le, drop_at, get_or-drop}
use native.Mathlib.Omega.{arith}
use Rattle.std.proofs.Math.ListN.{length-append, length-drop, get_or-append}
use Rattle.std.proofs.Math.Seq.{take_at, drop-append-add, drop-drop, get_or-take}
use Rattle.std.proofs.lemmas.List.{take-append-le, drop-append-le}
use Rattle.columns.specs.Bytes.{all}
use Rattle.columns.specs.Columns.{columns, put}
use Rattle.columns.proofs.BytesLaws.{all_append, all_take, all_drop}

-- columns that are there
pub columns_length : (start width : ℕ) (l : List ℕ) → start - 1 + width ≤ length l → length (columns start width l) ≡ width
unfolding columns
columns_length start width l h = length-take-le width (drop (start - 1) l) (simp length-drop (omega arith))

-- their bytes are the line's
pub columns_byte : (start width : ℕ) (l : List ℕ) (j : ℕ) → j < width → slice_index l (start - 1 + j) ≡ slice_index (columns start width l) j
unfolding columns
columns_byte start width l j h = sym (get_or-drop (start - 1) l j 0) ∙ sym (get_or-take width (drop (start - 1) l) j 0 h)

-- a part to the end
pub part_end : (i : ℕ) (l : List ℕ) → take (length l - i) (drop i l) ≡ drop i l
part_end i l = take_all (length l - i) (drop i l) (rw length-drop (omega arith))

pub put_all : (p : ℕ → Bool) (start : ℕ) (bs l : List ℕ) → all p bs ≡ true → all p l ≡ true → all p (put start bs l) ≡ true
unfolding put
put_all p start bs l h k =
    all_append p (take (start - 1) l) (bs ++ drop (start - 1 + length bs) l) (all_take p (start - 1) l k)
    (all_append p bs (drop (start - 1 + length bs) l) h (all_drop p (start - 1 + length bs) l k))

-- what stands in front of place k, whatever follows
front_columns_lem : (k a w : ℕ) (l rest : List ℕ) → a + w ≤ k → k ≤ length l → take w (drop a (take k l ++ rest)) ≡ take w (drop a (take k l))
front_columns_lem k a w l rest h m =
    let e : length (take k l) ≡ k = length-take-le k l m in
    let p : a ≤ length (take k l) = omega arith in
    let q : w ≤ length (drop a (take k l)) = rw length-drop (omega arith) in
    rw (drop-append-le a (take k l) rest p, take-append-le w (drop a (take k l)) rest q)

-- columns of a line that goes on
pub columns_part : (start width n : ℕ) (l : List ℕ) → start - 1 + width ≤ n → n ≤ length l → columns start width (take n l) ≡ columns start width l
unfolding columns
columns_part start width n l h m =
    sym (front_columns_lem n (start - 1) width l (drop n l) h m) ∙ ap (λ (x : List ℕ). take width (drop (start - 1) x)) (take-append-drop n l)

module _ (start : ℕ) (bs l : List ℕ) (fits : start - 1 + length bs ≤ length l) where
  front_length : length (take (start - 1) l) ≡ start - 1
  front_length = length-take-le (start - 1) l (omega arith)

  both_length : length (take (start - 1) l ++ bs) ≡ start - 1 + length bs
  both_length = length-append (take (start - 1) l) bs ∙ rw front_length

  pub put_length : length (put start bs l) ≡ length l
  unfolding put
  put_length = simp (length-append, length-drop, front_length) (omega arith)

  -- the bytes stand in their columns
  pub columns_put : columns start (length bs) (put start bs l) ≡ bs
  unfolding columns put
  columns_put =
      rw (drop_at (take (start - 1) l) (bs ++ drop (start - 1 + length bs) l) (start - 1) front_length)
      (take_at bs (drop (start - 1 + length bs) l) (length bs) refl)

  -- columns that lie wholly in front
  pub columns_before : (start' width : ℕ) → start' - 1 + width ≤ start - 1 → columns start' width (put start bs l) ≡ columns start' width l
  unfolding columns put
  columns_before start' width h =
      front_columns_lem (start - 1) (start' - 1) width l (bs ++ drop (start - 1 + length bs) l) h (omega arith)
      ∙ sym (front_columns_lem (start - 1) (start' - 1) width l (drop (start - 1) l) h (omega arith))
      ∙ ap (λ (x : List ℕ). take width (drop (start' - 1) x)) (take-append-drop (start - 1) l)

  drop_behind : (i : ℕ) → start - 1 + length bs ≤ i → drop i (put start bs l) ≡ drop i l
  unfolding put
  drop_behind i h =
      let n = start - 1 + length bs in
      let e : length (take (start - 1) l ++ bs) + (i - n) ≡ i = omega (arith, both_length) in
      let f : n + (i - n) ≡ i = omega arith in
      ap (drop i) (sym (append_assoc (take (start - 1) l) bs (drop n l)))
      ∙ ap (λ (k : ℕ). drop k ((take (start - 1) l ++ bs) ++ drop n l)) (sym e)
      ∙ drop-append-add (take (start - 1) l ++ bs) (drop n l) (i - n)
      ∙ drop-drop (i - n) n l
      ∙ ap (λ (k : ℕ). drop k l) f

  -- byte by byte
  pub put_before : (i : ℕ) → i < start - 1 → slice_index (put start bs l) i ≡ slice_index l i
  unfolding put
  put_before i h =
      get_or-append (take (start - 1) l) (bs ++ drop (start - 1 + length bs) l) 0 i (omega (arith, front_length))
      ∙ get_or-take (start - 1) l i 0 h

  pub put_behind : (i : ℕ) → start - 1 + length bs ≤ i → slice_index (put start bs l) i ≡ slice_index l i
  put_behind i h =
      ap (λ (k : ℕ). slice_index (put start bs l) k) (sym (add-zero i))
      ∙ sym (get_or-drop i (put start bs l) 0 0)
      ∙ ap (λ (x : List ℕ). slice_index x 0) (drop_behind i h)
      ∙ get_or-drop i l 0 0
      ∙ ap (λ (k : ℕ). slice_index l k) (add-zero i)

  pub put_inside : (j : ℕ) → j < length bs → slice_index (put start bs l) (start - 1 + j) ≡ slice_index bs j
  put_inside j h = columns_byte start (length bs) (put start bs l) j h ∙ ap (λ (x : List ℕ). slice_index x j) columns_put

  -- bytes behind bytes are put as one
  pub put_beside : (cs : List ℕ) → 1 ≤ start → put (start + length bs) cs (put start bs l) ≡ put start (bs ++ cs) l
  unfolding put
  put_beside cs h =
      let n = start - 1 + length bs in
      let e : start + length bs - 1 ≡ n = omega arith in
      let t : take n (put start bs l) ≡ take (start - 1) l ++ bs =
      ap (take n) (sym (append_assoc (take (start - 1) l) bs (drop n l))) ∙ take_at (take (start - 1) l ++ bs) (drop n l) n both_length in
      let f : n + length cs ≡ start - 1 + length (bs ++ cs) = omega (arith, length-append bs cs) in
      let d : drop (n + length cs) (put start bs l) ≡ drop (start - 1 + length (bs ++ cs)) l =
      drop_behind (n + length cs) (omega arith) ∙ ap (λ (k : ℕ). drop k l) f in
      rw (e, t, d) (simp append_assoc)

-- bytes of a known width are read back from where they were put
pub columns_back : (start width : ℕ) (bs l : List ℕ) → length bs ≡ width → start - 1 + width ≤ length l → columns start width (put start bs l) ≡ bs
columns_back start width bs l e h = ap (λ (n : ℕ). columns start n (put start bs l)) (sym e) ∙ columns_put start bs l (rw e h)
