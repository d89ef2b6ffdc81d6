-- Bytes of a whole, put at their places: a place that has the whole's byte keeps it, and those that are put have it, in whatever order.
use Prim.Native.Nat.{ℕ, ◌+◌, ◌-◌, ◌≤◌, ◌<◌}
use mathlib.Core.Path.{◌≡◌, sym, ap, ◌∙◌}
use mathlib.Core.List.{List, ◌++◌}
use native.Mathlib.Omega.{arith}
use native.Mathlib.Decide.{dec_lt}
use lib.ListN.{length, drop, get_or, get_or-append}
use lib.Seq.{get_or-drop}
use Rattle.columns.specs.Columns.{put}
use Rattle.columns.proofs.ColumnsLaws.{put_length, put_before, put_behind, put_inside}

-- bytes that the whole has at this place
pub record Own (whole : List ℕ) (at : ℕ) (bytes : List ℕ) : Type 0 where
  pub rest : List ℕ
  pub there : drop at whole ≡ bytes ++ rest
  pub fits : at + length bytes ≤ length whole

-- a buffer that has the whole's byte at place i, if P
pub record Right (whole : List ℕ) (i : ℕ) (P : Type 0) (buffer : List ℕ) : Type 0 where
  pub long : length buffer ≡ length whole
  pub byte : P → get_or buffer i 0 ≡ get_or whole i 0

module _ (whole : List ℕ) (i at : ℕ) (bytes buffer : List ℕ) (own : Own whole at bytes) (long : length buffer ≡ length whole) where
  own_fits : at + 1 - 1 + length bytes ≤ length buffer
  own_fits = omega (arith, own.fits)

  own_inside : at ≤ i → i < at + length bytes → get_or (put (at + 1) bytes buffer) i 0 ≡ get_or whole i 0
  own_inside l h =
      let a : at + 1 - 1 + (i - at) ≡ i = omega arith in
      let b : at + (i - at) ≡ i = omega arith in
      let j : i - at < length bytes = omega arith in
      ap (λ (n : ℕ). get_or (put (at + 1) bytes buffer) n 0) (sym a)
      ∙ put_inside (at + 1) bytes buffer own_fits (i - at) j
      ∙ sym (get_or-append bytes own.rest 0 (i - at) j)
      ∙ ap (λ (l : List ℕ). get_or l (i - at) 0) (sym own.there)
      ∙ get_or-drop at whole (i - at) 0
      ∙ ap (λ (n : ℕ). get_or whole n 0) b

  own_kept : get_or buffer i 0 ≡ get_or whole i 0 → get_or (put (at + 1) bytes buffer) i 0 ≡ get_or whole i 0
  own_kept e = go (dec_lt i at) (dec_lt i (at + length bytes))
    where
      go : Dec (i < at) → Dec (i < at + length bytes) → get_or (put (at + 1) bytes buffer) i 0 ≡ get_or whole i 0
      go (yes l) h = put_before (at + 1) bytes buffer own_fits i (omega arith) ∙ e
      go (no l) (yes h) = own_inside (omega arith) h
      go (no l) (no h) = put_behind (at + 1) bytes buffer own_fits i (omega arith) ∙ e

-- nothing is known of the byte
pub unknown : {whole buffer : List ℕ} (i : ℕ) → length buffer ≡ length whole → Right whole i ⊥ buffer
unknown i long = record { long = long; byte = λ p. absurd p }

module _ {whole : List ℕ} {at : ℕ} {bytes : List ℕ} (own : Own whole at bytes) where
  pub put_fills : {P : Type 0} (i : ℕ) (buffer : List ℕ) → length buffer ≡ length whole → at ≤ i → i < at + length bytes
      → Right whole i P (put (at + 1) bytes buffer)
  put_fills i buffer long l h =
      let f = own_fits whole i at bytes buffer own long in
      record { long = put_length (at + 1) bytes buffer f ∙ long; byte = λ p. own_inside whole i at bytes buffer own long l h }

  pub put_keeps : {P : Type 0} {i : ℕ} {buffer : List ℕ} → Right whole i P buffer → Right whole i P (put (at + 1) bytes buffer)
  put_keeps {P} {i} {buffer} r =
      let f = own_fits whole i at bytes buffer own r.long in
      record { long = put_length (at + 1) bytes buffer f ∙ r.long; byte = λ p. own_kept whole i at bytes buffer own r.long (r.byte p) }
