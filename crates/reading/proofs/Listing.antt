-- The walk over the 300 lines, one line further: what is left from here is what the whole is, and the hours rise.
use Rattle.std.specs.Prelude.{Ok, Err}
use Prim.Native.Nat.{ℕ, ◌+◌, ◌≤◌, ◌<◌}
use mathlib.Core.Path.{◌≡◌, refl, sym, ap, ◌∙◌}
use mathlib.Core.List.{List, []}
use mathlib.Core.Bool.{Bool, true, false, cond}
use native.Mathlib.Omega.{arith}
use native.Mathlib.Decide.{dec_lt}
use lib.Dec.{ltb}
use lib.ListN.{length, drop, length-drop}
use lib.Seq.{drop-drop}
use borrow.Author.Tests.{lt-ltb, le-ltb}
use Rattle.calendar.specs.Calendar.{most_hours}
use Rattle.columns.specs.Columns.{columns}
use Rattle.layout.specs.Layout.{length_of}
use Rattle.layout.specs.declared.RecordType.TheVariants.{Operation}
use Rattle.lines.specs.Lines.{first_line, lines}
use Rattle.lines.proofs.LineLaws.{lines_at_lem, line_part}
use Rattle.lines.specs.LineFaults.{type_is, operation_line}
use Rattle.lines.proofs.FaultLaws.{shape_length, dated_from, dated_inside}
use Rattle.lines.proofs.OperationLaws.{Said, said_operating, said_idle, operation_dated, operation_shape, operating_left}
use Rattle.calendar.specs.Calendar.{Period}
use Rattle.lines.specs.LineFaults.{OperationSaid}
use Rattle.lines.specs.declared.operation.OperationLine.TheVariants.{Operating, Idle}
use Rattle.reading.specs.Reading.{stopped_at, After, end_operations, walk_operations, next_date}
use Rattle.reading.specs.Places.{facility_of, hour_lines_in}
use Rattle.reading.specs.Passages.{on_at, halted_at, end_passage, Here, PassesOperations}
use Rattle.reading.specs.declared.walk.Cursor.{Cursor}
use Rattle.reading.specs.Passages.{Passage}
use Rattle.reading.specs.Reading.{Reading}
use Rattle.reading.proofs.Runs.{first_left, hour_lines_over}
use Rattle.reading.proofs.Walking.{no_lines, FewHours}

module _ (file : List ℕ) (period : Period) (n : ℕ) (start : Cursor) where
  -- what the 300 lines come to from here, and from the first
  abbrev pub listed_from : ℕ → ℕ → ℕ → List (List ℕ) → After → Reading
  listed_from at line from hours after = walk_operations (facility_of file) period line from hours (lines (drop at file)) after

  abbrev pub all_listed : After → Reading
  all_listed after = listed_from start.at start.line 0 (hour_lines_in file n) after

  -- k operating hours are read; the next line is at `at` and has at least the hour `from`
  pub record Listing (at line from k : ℕ) : Type 0 where
    pub room : at ≤ length file + 1
    pub most : line ≤ at
    pub since : start.line ≤ line
    pub few : line ≤ start.line + from
    pub below : from ≤ most_hours
    pub rank : k ≤ n
    pub left : (after : After) → listed_from at line from (drop k (hour_lines_in file n)) after ≡ all_listed after

  pub listing_start : Here file start → Listing start.at start.line 0 0
  listing_start h = record {
    room = h.room;
    most = h.most;
    since = omega arith;
    few = omega arith;
    below = omega arith;
    rank = omega arith;
    left = λ after. refl;
  }

  module _ (at line from k : ℕ) (w : Listing at line from k) where
    -- behind the last 300 line
    pub listing_end : (number : ℕ) (r : Passage) → r ≡ end_passage n k number line at →
        ((after : After) → listed_from at line from (drop k (hour_lines_in file n)) after
        ≡ end_operations number line (drop k (hour_lines_in file n)) (lines (drop at file)) after) →
        PassesOperations file period n start r
    unfolding end_passage end_operations
    listing_end number r e f = rw e (go (dec_lt k n))
      where
        go : Dec (k < n) → PassesOperations file period n start (cond (ltb k n) (halted_at number line) (on_at line at))
        go (yes h) =
            rw (lt-ltb k n h) (record {
              reads = λ after. sym (f after ∙ ap (λ (ds : List (List ℕ)). end_operations number line ds (lines (drop at file)) after) (first_left file n k h))
                  ∙ w.left after;
              here = tt;
              few = tt;
            })
        go (no h) =
            let b : n ≤ k = omega arith in
            rw (le-ltb k n b) (record {
              reads = λ after.
                  sym (f after ∙ ap (λ (ds : List (List ℕ)). end_operations number line ds (lines (drop at file)) after) (hour_lines_over file n k b))
                  ∙ w.left after;
              here = record { room = w.room; most = w.most };
              few = (w.since, omega (arith, w.few, w.below));
            })

    pub listing_over : (r : Passage) → r ≡ end_passage n k 10 line at → length file ≤ at → PassesOperations file period n start r
    unfolding walk_operations
    listing_over r e h = listing_end 10 r e (λ after. rw (no_lines file at h))

    module _ (h : at < length file) where
      abbrev here : List ℕ
      here = first_line (drop at file)

      abbrev date : List ℕ
      date = next_date (drop k (hour_lines_in file n))

      pub listing_other : (r : Passage) → r ≡ end_passage n k 2 line at → type_is Operation (first_line (drop at file)) ≡ false →
          PassesOperations file period n start r
      unfolding walk_operations
      listing_other r e t = listing_end 2 r e (λ after. rw (lines_at_lem file at h, t, walk_operations))

      module _ (t : type_is Operation (first_line (drop at file)) ≡ true) where
        -- what a 300 line decides
        abbrev decided : OperationSaid → After → Reading
        decided o after = elim o [
          | Ok (Operating hour) ↦
              walk_operations (facility_of file) period (line + 1) (hour + 1) (drop 1 (drop k (hour_lines_in file n)))
              (lines (drop (at + (length (first_line (drop at file)) + 1)) file)) after
          | Ok (Idle hour) ↦
              walk_operations (facility_of file) period (line + 1) (hour + 1) (drop k (hour_lines_in file n))
              (lines (drop (at + (length (first_line (drop at file)) + 1)) file)) after
          | Err number ↦ stopped_at number line
        ]

        judged : (after : After) →
            listed_from at line from (drop k (hour_lines_in file n)) after
            ≡ decided (operation_line (facility_of file) period from (next_date (drop k (hour_lines_in file n))) (first_line (drop at file))) after
        unfolding walk_operations
        judged after = rw (lines_at_lem file at h, t, walk_operations)

        told : (o : OperationSaid) → operation_line (facility_of file) period from (next_date (drop k (hour_lines_in file n))) (first_line (drop at file)) ≡ o →
            (after : After) → decided o after ≡ all_listed after
        told o e after = sym (judged after ∙ ap (λ o. decided o after) e) ∙ w.left after

        pub listing_found : (number : ℕ) (r : Passage) → r ≡ halted_at number line →
            operation_line (facility_of file) period from (next_date (drop k (hour_lines_in file n))) (first_line (drop at file)) ≡ Err number →
            PassesOperations file period n start r
        listing_found number r e f = rw e (record { reads = λ after. told (Err number) f after; here = tt; few = tt })

        module _ (hour : ℕ) (b : Bool) (s : Said (facility_of file) period from date here hour b) (few : FewHours period) where
          long : length here ≡ length_of Operation
          long = shape_length Operation here (operation_shape (facility_of file) period from date here s.right)

          pub listing_rises : (from ≤ hour) × (hour < most_hours)
          listing_rises =
              let d = operation_dated (facility_of file) period from date here s.right in (
                rw s.hour at (dated_from (facility_of file) period Operation from here d),
                omega (arith, dated_inside (facility_of file) period Operation from here d, s.hour, few),
              )

          pub listing_room : at + length_of Operation ≤ length file
          listing_room = omega (arith, long, line_part (drop at file), length-drop at file)

          step : (rank : ℕ) → rank ≤ n →
              ((after : After) →
              walk_operations (facility_of file) period (line + 1) (hour + 1) (drop rank (hour_lines_in file n)) (lines (drop (at + (length here + 1)) file)) after
              ≡ all_listed after) →
              Listing (at + (length_of Operation + 1)) (line + 1) (hour + 1) rank
          step rank r f = record {
            room = omega (arith, listing_room);
            most = omega (arith, w.most);
            since = omega (arith, w.since);
            few = omega (arith, w.few, listing_rises.0);
            below = omega (arith, listing_rises.1);
            rank = r;
            left = λ after.
                rw long at (f after);
          }

        pub listing_idle : (hour : ℕ) → FewHours period →
            operation_line (facility_of file) period from (next_date (drop k (hour_lines_in file n))) (first_line (drop at file)) ≡ Ok (Idle hour) →
            Listing (at + (length_of Operation + 1)) (line + 1) (hour + 1) k
        listing_idle hour q e = step hour false (said_idle (facility_of file) period from date here hour e) q k w.rank (told (Ok (Idle hour)) e)

        pub listing_operating : (hour : ℕ) → FewHours period →
            operation_line (facility_of file) period from (next_date (drop k (hour_lines_in file n))) (first_line (drop at file)) ≡ Ok (Operating hour) →
            Listing (at + (length_of Operation + 1)) (line + 1) (hour + 1) (k + 1)
        unfolding columns
        listing_operating hour q e =
            let s = said_operating (facility_of file) period from date here hour e in
            step hour true s q (k + 1) (some (operating_left (facility_of file) period from date here s.right s.operates) (dec_lt k n))
            (λ after. ap (λ (ds : List (List ℕ)). walk_operations (facility_of file) period (line + 1) (hour + 1) ds
            (lines (drop (at + (length here + 1)) file)) after) (sym (drop-drop 1 k (hour_lines_in file n)))
            ∙ told (Ok (Operating hour)) e after)
          where
            some : (date ≡ [] → ⊥) → Dec (k < n) → k + 1 ≤ n
            some f (yes l) = omega arith
            some f (no l) = absurd (f (ap next_date (hour_lines_over file n k (omega arith))))
