-- The walk over the 200 lines, one line further: what is left from here is what the whole is, and the hours rise.
use Rattle.std.specs.Prelude.{Ok, Err}
use Prim.Native.Nat.{ℕ, suc, ◌+◌, ◌≤◌, ◌<◌}
use mathlib.Core.Path.{◌≡◌, refl, sym, ap, ◌∙◌}
use mathlib.Core.List.{List, [], ◌∷◌, ◌++◌}
use mathlib.Core.Bool.{true, false}
use native.Mathlib.Omega.{arith}
use native.Mathlib.Numerals.{add-one}
use lib.ListN.{length, drop, length-drop}
use Rattle.calendar.specs.Calendar.{most_hours}
use Rattle.layout.specs.Layout.{length_of}
use Rattle.layout.specs.declared.RecordType.TheVariants.{Facility, So2Concentration}
use Rattle.lines.specs.Lines.{first_line, lines}
use Rattle.lines.proofs.LineLaws.{lines_at_lem, line_at, line_part}
use Rattle.lines.specs.LineFaults.{type_is, hour_in, hour_fault, hour_line}
use Rattle.lines.proofs.FaultLaws.{shape_length, hour_shape, hour_from, hour_inside, hour_said_lem}
use Rattle.calendar.specs.Calendar.{Period}
use Rattle.lines.specs.LineFaults.{HourLine}
use Rattle.reading.specs.Reading.{stopped_at, walk_later, walk_hours}
use Rattle.reading.specs.Places.{facility_of, hour_line_in, hour_lines_in, Counted, hour_start}
use Rattle.reading.specs.Reading.{Reading}
use Rattle.reading.proofs.Walking.{no_lines, FewHours}

-- what the lines behind n 200 lines come to
abbrev pub later_whole : List ℕ → Period → ℕ → Reading
later_whole file period n = walk_later (facility_of file) period (2 + n) (hour_lines_in file n) (lines (drop (hour_start n) file))

-- what the lines behind the facility line come to
abbrev pub hours_whole : List ℕ → Period → Reading
hours_whole file period = walk_hours (facility_of file) period 2 0 [] (lines (drop (hour_start 0) file))

-- n 200 lines are read, the next is at `at` and has at least the hour `from`
pub record Rising (file : List ℕ) (period : Period) (n from at : ℕ) : Type 0 where
  pub start : at ≡ hour_start n
  pub room : hour_start n ≤ length file + 1
  pub rise : n ≤ from
  pub most : from ≤ most_hours
  pub left : walk_hours (facility_of file) period (2 + n) from (hour_lines_in file n) (lines (drop at file)) ≡ hours_whole file period

pub rising_start : (file : List ℕ) (period : Period) → length_of Facility ≤ length file → Rising file period 0 0 (hour_start 0)
unfolding hour_lines_in
rising_start file period h = record { start = refl; room = omega arith; rise = omega arith; most = omega arith; left = refl }

module _ (file : List ℕ) (period : Period) (n from at : ℕ) (w : Rising file period n from at) where
  pub rising_counted : Counted file n
  rising_counted = record { most = omega arith; room = w.room }

  later : walk_hours (facility_of file) period (2 + n) from (hour_lines_in file n) (lines (drop at file))
      ≡ walk_later (facility_of file) period (2 + n) (hour_lines_in file n) (lines (drop at file)) →
      later_whole file period n ≡ hours_whole file period
  later e = rw (← w.start) (sym e ∙ w.left)

  pub rising_end : length file ≤ at → later_whole file period n ≡ hours_whole file period
  unfolding walk_hours
  rising_end h = later (rw (no_lines file at h))

  module _ (h : at < length file) where
    whole : walk_hours (facility_of file) period (2 + n) from (hour_lines_in file n) (lines (drop at file))
        ≡ walk_hours (facility_of file) period (2 + n) from (hour_lines_in file n)
        (first_line (drop at file) ∷ lines (drop (at + (length (first_line (drop at file)) + 1)) file))
    whole = ap (walk_hours (facility_of file) period (2 + n) from (hour_lines_in file n)) (lines_at_lem file at h)

    pub rising_other : type_is So2Concentration (first_line (drop at file)) ≡ false →
        later_whole file period n ≡ hours_whole file period
    unfolding walk_hours
    rising_other t = later (rw (lines_at_lem file at h, t, walk_hours))

    module _ (t : type_is So2Concentration (first_line (drop at file)) ≡ true) where
      -- what a 200 line decides
      abbrev after : HourLine → Reading
      after h = elim h [
        | Ok hour ↦
            walk_hours (facility_of file) period (2 + n + 1) (hour + 1) (hour_lines_in file n ++ (first_line (drop at file) ∷ []))
            (lines (drop (at + (length (first_line (drop at file)) + 1)) file))
        | Err number ↦ stopped_at number (2 + n)
      ]

      judged : walk_hours (facility_of file) period (2 + n) from (hour_lines_in file n) (lines (drop at file))
          ≡ after (hour_line (facility_of file) period from (first_line (drop at file)))
      unfolding walk_hours
      judged = whole ∙ rw (t, walk_hours)

      pub rising_found : (number : ℕ) → hour_line (facility_of file) period from (first_line (drop at file)) ≡ Err number →
          stopped_at number (2 + n) ≡ hours_whole file period
      rising_found number e = sym (judged ∙ ap after e) ∙ w.left

      module _ (hour : ℕ) (e : hour_line (facility_of file) period from (first_line (drop at file)) ≡ Ok hour) where
        said : (hour_fault (facility_of file) period from (first_line (drop at file)) ≡ 0) × (hour_in period So2Concentration (first_line (drop at file)) ≡ hour)
        said = hour_said_lem (facility_of file) period from (first_line (drop at file)) hour e

        long : length (first_line (drop at file)) ≡ length_of So2Concentration
        long = shape_length So2Concentration (first_line (drop at file)) (hour_shape (facility_of file) period from (first_line (drop at file)) said.0)

        pub rising_room : at + length_of So2Concentration ≤ length file
        rising_room = omega (arith, long, line_part (drop at file), length-drop at file)

        pub rising_below : FewHours period → (from ≤ hour) × (hour < most_hours)
        rising_below few =
            let l = first_line (drop at file) in (
              rw said.1 at (hour_from (facility_of file) period from l said.0),
              omega (arith, hour_inside (facility_of file) period from l said.0, said.1, few),
            )

        -- the 200 line of rank n is where it is looked for later
        line_there : first_line (drop at file) ≡ hour_line_in file n
        line_there = line_at file at (length_of So2Concentration) long ∙ rw w.start

        pub rising_next : FewHours period → Rising file period (n + 1) (hour + 1) (at + (length_of So2Concentration + 1))
        unfolding hour_lines_in
        rising_next few =
            let b = rising_below few in
            let s : 2 + n + 1 ≡ 2 + suc n = omega arith in
            record {
              start = omega (arith, w.start);
              room = omega (arith, rising_room, w.start);
              rise = omega (arith, w.rise);
              most = omega arith;
              left = rw (add-one n) (sym (judged ∙ ap after e ∙ rw (long, line_there, s)) ∙ w.left);
            }
