-- Laws of rewritten columns: bytes that are put rewrite their columns, and nothing else does; so numbers are written, in whichever format.
use Rattle.std.specs.Prelude.{◌≡◌, ℕ, ◌+◌, ◌-◌, ◌<◌, ◌≤◌, List, length, slice_index}
use Rattle.std.proofs.Common.{sym, ap, ◌∙◌, arith, ext_get_or}
use Rattle.std.proofs.Math.Decide.{dec_lt}
use Rattle.columns.specs.Columns.{Inside, put}
use Rattle.columns.specs.Number.{fewest_columns}
use Rattle.columns.specs.Written.{digits_of, written}
use Rattle.columns.specs.Rewritten.{Rewritten, NumberWritten, DigitsWritten}
use Rattle.columns.proofs.ColumnsLaws.{put_length, columns_put, columns_back, columns_byte, put_before, put_behind, put_inside}
use Rattle.columns.proofs.WrittenLaws.{digits_length, written_length, read_digits_written, digits_fit, read_written, written_fits}

module _ (start : ℕ) (bytes line : List ℕ) (inside : Inside start (length bytes) line) where
  fits : start - 1 + length bytes ≤ length line
  fits = inside.last

  pub put_rewrites : Rewritten start bytes line (put start bytes line)
  put_rewrites =
      record {
        long = put_length start bytes line fits;
        there = columns_put start bytes line fits;
        front = put_before start bytes line fits;
        behind = λ i h. put_behind start bytes line fits i (omega arith);
      }

  -- a line so rewritten has every byte of the one that they were put into
  pub rewritten_put : {after : List ℕ} → Rewritten start bytes line after → after ≡ put start bytes line
  rewritten_put {after} r = ext_get_or 0 after (put start bytes line) (r.long ∙ sym (put_length start bytes line fits)) (λ i h. byte i)
    where
      within : (j : ℕ) → j < length bytes → slice_index after (start - 1 + j) ≡ slice_index (put start bytes line) (start - 1 + j)
      within j h =
          columns_byte start (length bytes) after j h ∙ ap (λ (bs : List ℕ). slice_index bs j) r.there ∙ sym (put_inside start bytes line fits j h)

      byte : (i : ℕ) → slice_index after i ≡ slice_index (put start bytes line) i
      byte i = go (dec_lt i (start - 1)) (dec_lt i (start - 1 + length bytes))
        where
          go : Dec (i < start - 1) → Dec (i < start - 1 + length bytes) → slice_index after i ≡ slice_index (put start bytes line) i
          go (yes l) h = r.front i l ∙ sym (put_before start bytes line fits i l)
          go (no l) (yes h) =
              let e : start - 1 + (i - (start - 1)) ≡ i = omega arith in
              rw e at (within (i - (start - 1)) (omega arith))
          go (no l) (no h) =
              let b : start - 1 + length bytes ≤ i = omega arith in
              r.behind i b ∙ sym (put_behind start bytes line fits i b)

-- bytes of a known width rewrite so many columns
wide_rewrites : (start width : ℕ) (bytes line : List ℕ) → length bytes ≡ width → Inside start width line → Rewritten start bytes line (put start bytes line)
wide_rewrites start width bytes line wide inside = put_rewrites start bytes line (rw wide inside)

-- a number that is put is written, and a line in which it is written is the one that it was put into
module _ (start width : ℕ) (line : List ℕ) (inside : Inside start width line) where
  pub number_written : (d v : ℕ) → fewest_columns d ≤ width → NumberWritten start width d v line (put start (written width d v) line)
  number_written d v room =
      let bytes = written width d v in
      let wide = written_length width d v room in
      record {
        wide = wide;
        only = wide_rewrites start width bytes line wide inside;
        back = rw (columns_back start width bytes line wide inside.last) (read_written width d v room, written_fits width d v room);
      }

  pub number_put : (d v : ℕ) {after : List ℕ} → NumberWritten start width d v line after → after ≡ put start (written width d v) line
  number_put d v n = rewritten_put start (written width d v) line (rw n.wide inside) n.only

  pub digits_written : (v : ℕ) → DigitsWritten start width v line (put start (digits_of width v) line)
  digits_written v =
      let bytes = digits_of width v in
      let wide = digits_length width v in
      record {
        wide = wide;
        only = wide_rewrites start width bytes line wide inside;
        back = rw (columns_back start width bytes line wide inside.last) (read_digits_written width v, digits_fit width v);
      }

  pub digits_put : (v : ℕ) {after : List ℕ} → DigitsWritten start width v line after → after ≡ put start (digits_of width v) line
  digits_put v n = rewritten_put start (digits_of width v) line (rw n.wide inside) n.only
