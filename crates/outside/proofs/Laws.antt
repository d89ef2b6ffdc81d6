-- A buffer and a sheet are filled place by place, a sum is taken byte by byte, and a report that was written fits its buffer.
use Rattle.std.specs.Prelude.{Ok, Err}
use Prim.Native.Nat.{ℕ, zero, suc, ◌+◌, ◌*◌, ◌%◌, ◌≤◌, ◌<◌}
use mathlib.Core.Path.{◌≡◌, refl, sym, ap, ◌∙◌}
use mathlib.Core.List.{List, [], ◌∷◌, ◌++◌}
use native.Mathlib.Omega.{arith}
use native.Mathlib.Numerals.{add-one}
use lib.ListN.{length, take, drop, set, get_or, replicate, length-replicate, drop_of_length-le}
use lib.Seq.{drop-cons, take-suc-set, take_all}
use Rattle.layout.specs.Layout.{report_length}
use Rattle.writer.specs.Refusals.{refusal_of}
use Rattle.writer.proofs.TableLaws.{not_refused}
use Rattle.sheet.specs.Sheet.{shape_of}
use Rattle.writer.specs.Written.{Written, answered, answered_in}
use Rattle.outside.specs.Numbers.{number_at, words_of, adler_of}
use Rattle.outside.specs.Cases.{last_of, edited_by}

-- the places up to i hold these values, and one more
stored_more : (l values : List ℕ) (i v : ℕ) → i < length l → take i l ≡ values → take (i + 1) (set l i v) ≡ values ++ (v ∷ [])
stored_more l values i v h e =
    ap (λ (n : ℕ). take n (set l i v)) (add-one i) ∙ take-suc-set l i v h ∙ ap (λ (xs : List ℕ). xs ++ (v ∷ [])) e

pub words_more : (bytes l : List ℕ) (i : ℕ) → i < length l → take i l ≡ words_of i bytes
    → take (i + 1) (set l i (number_at bytes (4 * i))) ≡ words_of (i + 1) bytes
unfolding words_of
words_more bytes l i h e =
    stored_more l (words_of i bytes) i (number_at bytes (4 * i)) h e ∙ ap (λ (n : ℕ). words_of n bytes) (sym (add-one i))

pub words_none : (bytes : List ℕ) → words_of 0 bytes ≡ []
unfolding words_of
words_none bytes = refl

pub words_end : (bytes l : List ℕ) (i : ℕ) → length l ≤ i → take i l ≡ words_of i bytes → l ≡ words_of i bytes
words_end bytes l i h e = sym (take_all i l h) ∙ e

pub adler_more : (bytes : List ℕ) (i a b : ℕ) → i < length bytes
    → adler_of ((a + get_or bytes i 0) % 65521) ((b + (a + get_or bytes i 0) % 65521) % 65521) (drop (i + 1) bytes) ≡ adler_of a b (drop i bytes)
unfolding adler_of
adler_more bytes i a b h = rw (add-one i, drop-cons bytes i 0 h) refl

pub adler_end : (bytes : List ℕ) (i a b : ℕ) → length bytes ≤ i → adler_of a b (drop i bytes) ≡ b * 65536 + a
unfolding adler_of
adler_end bytes i a b h = rw (drop_of_length-le bytes h) refl

pub answer_fits : (year quarter : ℕ) (name sheet : List ℕ) (room : ℕ) (written : Written) →
    written ≡ answered year quarter name sheet room → last_of written 0 ≤ room
unfolding answered_in
answer_fits year quarter name sheet room written e = rw e (go (refusal_of year quarter name sheet room) refl)
  where
    go : (k : ℕ) → refusal_of year quarter name sheet room ≡ k
        → last_of (elim k [ zero ↦ Ok (report_length (shape_of sheet)) | suc c ↦ Err (suc c) ]) 0 ≤ room
    go zero e = (not_refused year quarter name sheet room e).1
    go (suc c) e = omega arith

pub last_fits : (written : Written) (last room long : ℕ) → last_of written 0 ≤ room → room ≤ long → last ≤ long → last_of written last ≤ long
last_fits (Ok size) last room long h k m = omega arith
last_fits (Err number) last room long h k m = m

pub zeros : (n : ℕ) → n ≡ length {A = ℕ} (replicate n 0)
zeros n = sym (length-replicate {0} {A = ℕ} n 0)

pub edited_none : (edits report : List ℕ) → edited_by 0 edits report ≡ report
unfolding edited_by
edited_none edits report = refl

pub edited_more : (edits report : List ℕ) (n : ℕ)
    → edited_by (n + 1) edits report ≡ set (edited_by n edits report) (number_at edits (5 * n)) (get_or edits (5 * n + 4) 0)
unfolding edited_by
edited_more edits report n = rw (add-one n) refl
