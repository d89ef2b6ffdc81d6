-- Lines written step by step: blanks one by one, values one by one, and a record with its byte 10 as a part of the buffer.
use Prim.Native.Nat.{ℕ, suc, ◌+◌, ◌-◌, ◌≤◌, ◌<◌}
use mathlib.Core.Path.{◌≡◌, ap, ◌∙◌}
use mathlib.Core.List.{List, [], ◌∷◌}
use native.Mathlib.Omega.{arith}
use native.Mathlib.Nat.{add-sub_cancel_left}
use native.Mathlib.Numerals.{add-one}
use lib.ListN.{length, drop, set, get_or, drop_of_length-le}
use lib.Seq.{drop-cons, drop-drop, set_split}
use borrow.Rule.Slice.PartMut.{put_mid}
use Rattle.columns.specs.Columns.{put}
use Rattle.columns.proofs.ColumnsLaws.{put_length, put_beside}
use Rattle.columns.specs.Written.{written}
use Rattle.layout.specs.Layout.{value_count, values_of, value_at}
use Rattle.layout.specs.Values.{no_value}
use Rattle.layout.specs.declared.RecordType.{RecordType}
use Rattle.records.specs.Records.{valued, ended}

-- the values of a record from the i-th on
module _ (t : RecordType) (values : List ℕ) where
  abbrev pub values_left : ℕ → List ℕ → List ℕ
  values_left i line = valued (drop i (values_of t)) (drop i values) line

  pub values_more : (i : ℕ) (line : List ℕ) → i < value_count t → length values ≡ value_count t
      → values_left (i + 1) (put (value_at t i).start (written (value_at t i).width (value_at t i).decimals (get_or values i 0)) line) ≡ values_left i line
  unfolding valued
  values_more i line h many =
      let a : i < length values = omega arith in
      rw (add-one i, drop-cons (values_of t) i no_value h, drop-cons values i 0 a)

  pub values_end : (i : ℕ) (line : List ℕ) → value_count t ≤ i → values_left i line ≡ line
  unfolding valued
  values_end i line h =
      rw (drop_of_length-le (values_of t) h)

-- a record of known length and its byte 10, written into their part of the buffer
module _ (at long : ℕ) (l bytes : List ℕ) (e : length bytes ≡ long) (room : at + long < length l) where
  part_put : put_mid at (at + long - at) l bytes ≡ put (at + 1) bytes l
  unfolding put
  part_put =
      let a : at + 1 - 1 ≡ at = omega arith in
      rw (add-sub_cancel_left at long, a, ← e, drop-drop)

  byte_put : (m : List ℕ) → length m ≡ length l → set m (at + long) 10 ≡ put (at + 1 + length bytes) (10 ∷ []) m
  unfolding put
  byte_put m k =
      let a : at + 1 + length bytes - 1 ≡ at + long = omega arith in
      let b : at + long + 1 ≡ suc (at + long) = omega arith in
      rw (a, b) (set_split m (at + long) 10 (omega arith))

  pub line_put : set (put_mid at (at + long - at) l bytes) (at + long) 10 ≡ put (at + 1) (ended bytes) l
  line_put =
      let f : at + 1 - 1 + length bytes ≤ length l = omega arith in
      ap (λ (m : List ℕ). set m (at + long) 10) part_put
      ∙ byte_put (put (at + 1) bytes l) (put_length (at + 1) bytes l f)
      ∙ put_beside (at + 1) bytes l f (10 ∷ []) (omega arith)
