-- The start of a reading: the last byte of the file and its facility line.
use Rattle.std.specs.Prelude.{Ok, Err}
use Prim.Native.Nat.{ℕ, suc, ◌+◌, ◌-◌, ◌≤◌, ◌<◌}
use mathlib.Core.Path.{◌≡◌, refl, sym, ap, subst, ◌∙◌}
use mathlib.Core.List.{List, [], ◌∷◌}
use native.Mathlib.Omega.{arith}
use lib.ListN.{length, drop, get_or}
use borrow.Author.Tests.{ne_eqb}
use Rattle.calendar.specs.Calendar.{IsQuarter}
use Rattle.layout.specs.Layout.{length_of}
use Rattle.layout.specs.Values.{quarter_digit, Within}
use Rattle.layout.specs.declared.RecordType.TheVariants.{Facility}
use Rattle.stamp.specs.StampLaws.{is_quarter_lem}
use Rattle.lines.specs.Lines.{first_line, lines, last}
use Rattle.lines.proofs.LineLaws.{lines_at_lem, line_at, line_part}
use Rattle.lines.specs.LineFaults.{period_on, facility_fault, facility_line}
use Rattle.lines.proofs.FaultLaws.{shape_length, facility_shape, facility_quarter, facility_said}
use Rattle.calendar.specs.Calendar.{Period}
use Rattle.lines.specs.LineFaults.{FacilityLine}
use Rattle.reading.specs.CleanLaws.{ended_walked}
use Rattle.reading.specs.Reading.{stopped_at, walk_hours, walk, read_of}
use Rattle.reading.specs.Places.{facility_of, hour_start}
use Rattle.reading.specs.Reading.{Reading}

last_at : (l : List ℕ) → 0 < length l → last l ≡ get_or l (length l - 1) 0
unfolding last
last_at [] h = absurd (omega arith)
last_at (b ∷ []) h = refl
last_at (b ∷ c ∷ bs) h =
    let e : length (b ∷ c ∷ bs) - 1 ≡ suc (length (c ∷ bs) - 1) = omega arith in
    rw e (last_at (c ∷ bs) (omega arith))

pub read_empty : (l : List ℕ) → length l ≡ 0 → read_of l ≡ stopped_at 1 0
unfolding read_of last
read_empty [] h = refl
read_empty (b ∷ bs) h = absurd (omega arith)

module _ (l : List ℕ) (h : 0 < length l) where
  pub read_open : (get_or l (length l - 1) 0 ≡ 10 → ⊥) → read_of l ≡ stopped_at 1 0
  unfolding read_of
  read_open n = rw (last_at l h, ne_eqb (get_or l (length l - 1) 0) 10 n, read_of)

  pub read_ended : get_or l (length l - 1) 0 ≡ 10 → read_of l ≡ walk (lines l)
  read_ended e = ended_walked l (last_at l h ∙ e)

  -- what line 100 decides
  abbrev after : FacilityLine → Reading
  after f = elim f [ Ok period ↦ walk_hours (first_line l) period 2 0 [] (lines (drop (0 + (length (first_line l) + 1)) l)) | Err number ↦ stopped_at number 1 ]

  started : walk (lines l) ≡ after (facility_line (first_line l))
  unfolding walk
  started = ap walk (lines_at_lem l 0 h)

  pub walk_found : (number : ℕ) → facility_line (first_line l) ≡ Err number → stopped_at number 1 ≡ walk (lines l)
  walk_found number e = sym (started ∙ ap after e)

  module _ (period : Period) (e : facility_line (first_line l) ≡ Ok period) where
    said : (facility_fault (first_line l) ≡ 0) × (period_on (first_line l) ≡ period)
    said = facility_said (first_line l) period e

    long : length (first_line l) ≡ length_of Facility
    long = shape_length Facility (first_line l) (facility_shape (first_line l) said.0)

    pub facility_room : length_of Facility ≤ length l
    facility_room = omega (arith, long, line_part l)

    pub walk_passed : walk_hours (facility_of l) period 2 0 [] (lines (drop (hour_start 0) l)) ≡ walk (lines l)
    walk_passed =
        let k : first_line l ≡ facility_of l = line_at l 0 (length_of Facility) long in
        sym (started ∙ ap after e
        ∙ ap (λ (m : ℕ). walk_hours (first_line l) period 2 0 [] (lines (drop (0 + (m + 1)) l))) long
        ∙ ap (λ (line : List ℕ). walk_hours line period 2 0 [] (lines (drop (hour_start 0) l))) k)

    pub quarter_named : IsQuarter period.quarter
    quarter_named = is_quarter_lem _ (subst (λ (p : Period). Within quarter_digit p.quarter) said.1 (facility_quarter (first_line l) said.0))
