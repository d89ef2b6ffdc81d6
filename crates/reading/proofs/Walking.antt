-- The walk over the lines that are due, one line further: what is left from here is what the whole is.
use Rattle.std.specs.Prelude.{Ok}
use Prim.Native.Nat.{ℕ, zero, suc, ◌+◌, ◌≤◌, ◌<◌}
use mathlib.Core.Path.{◌≡◌, refl, sym, ap, ◌∙◌}
use mathlib.Core.List.{List, [], ◌∷◌, ◌++◌}
use native.Mathlib.Omega.{arith}
use lib.ListN.{length, take, drop, length-drop, drop_of_length-le}
use Rattle.calendar.specs.Calendar.{Period, most_hours, hours_in_quarter}
use Rattle.layout.specs.Layout.{length_of, order, type_at, count_of, shape}
use Rattle.layout.specs.declared.RecordType.{RecordType}
use Rattle.lines.specs.Lines.{first_line, lines}
use Rattle.lines.proofs.LineLaws.{lines_at_lem, line_part}
use Rattle.lines.specs.LineFaults.{Due, due_of, due_fault}
use Rattle.lines.proofs.FaultLaws.{shape_length, due_shape}
use Rattle.reading.specs.Reading.{stopped_at, run_of, runs_of, After, walk_due, walk_end}
use Rattle.reading.specs.Places.{facility_of, hour_lines_in, hour_due}
use Rattle.reading.specs.Passages.{Here, PassesRuns, led, on_at, halted_at}
use Rattle.reading.specs.declared.walk.Cursor.{Cursor}
use Rattle.reading.specs.Passages.{Passage}
use Rattle.reading.specs.declared.Report.{Report}
use Rattle.reading.specs.Reading.{Reading}
use Rattle.reading.proofs.Runs.{run_one, run_end, runs_one}

pub no_lines : (file : List ℕ) (at : ℕ) → length file ≤ at → lines (drop at file) ≡ []
unfolding lines
no_lines file at h = rw (drop_of_length-le file h)

-- a period has no more hours than the longest quarter
abbrev pub FewHours : Period → Type 0
FewHours period = hours_in_quarter period.year period.quarter ≤ most_hours

-- what a line's fault decides
module _ (f g line : ℕ) (next : Reading) (e : f ≡ g) where
  pub found : (f ≡ 0 → ⊥) → elim g [ zero ↦ next | suc c ↦ stopped_at (suc c) line ] ≡ stopped_at f line
  found n = rw (← e) (go f n)
    where
      go : (k : ℕ) → (k ≡ 0 → ⊥) → elim k [ zero ↦ next | suc c ↦ stopped_at (suc c) line ] ≡ stopped_at k line
      go zero m = absurd (m refl)
      go (suc c) m = refl

  pub passed : f ≡ 0 → elim g [ zero ↦ next | suc c ↦ stopped_at (suc c) line ] ≡ next
  passed z = rw (← e, z)

-- against what is due

module _ (facility : List ℕ) (line : ℕ) (file : List ℕ) (at : ℕ) (after : After) where
  pub due_missing : (d : Due) (ds : List Due) → length file ≤ at → walk_due facility line (d ∷ ds) (lines (drop at file)) after ≡ stopped_at 10 line
  unfolding walk_due
  due_missing d ds h = rw (no_lines file at h)

  module _ (h : at < length file) (d : Due) (ds : List Due) (f : ℕ) (e : f ≡ due_fault facility d (first_line (drop at file))) where
    abbrev walked_by : List (List ℕ) → Reading
    walked_by ls = walk_due facility line (d ∷ ds) ls after

    pub due_found : (f ≡ 0 → ⊥) → walk_due facility line (d ∷ ds) (lines (drop at file)) after ≡ stopped_at f line
    unfolding walk_due
    due_found n = ap walked_by (lines_at_lem file at h) ∙ found f _ line _ e n

    due_long : f ≡ 0 → length (first_line (drop at file)) ≡ length_of d.type
    due_long z = shape_length d.type (first_line (drop at file)) (due_shape facility d (first_line (drop at file)) (sym e ∙ z))

    pub due_next : f ≡ 0 → (long : ℕ) → long ≡ length_of d.type →
        walk_due facility (line + 1) ds (lines (drop (at + (long + 1)) file)) after ≡ walk_due facility line (d ∷ ds) (lines (drop at file)) after
    unfolding walk_due
    due_next z long l =
        sym (ap walked_by (lines_at_lem file at h) ∙ passed f _ line _ e z
        ∙ ap (λ (m : ℕ). walk_due facility (line + 1) ds (lines (drop (at + (m + 1)) file)) after) (due_long z ∙ sym l))

    pub due_room : f ≡ 0 → at + length_of d.type ≤ length file
    due_room z = omega (arith, due_long z, line_part (drop at file), length-drop at file)

module _ (file : List ℕ) (n : ℕ) (start : Cursor) (all : List Due) where
  -- what the lines that are due come to from here, and from the start
  abbrev pub left_from : ℕ → ℕ → List Due → After → Reading
  left_from at line due after = walk_due (facility_of file) line due (lines (drop at file)) after

  abbrev pub all_from : After → Reading
  all_from after = left_from start.at start.line all after

  -- the walk stands at `at`, on line `line`, with these lines still due
  pub record Walked (at line : ℕ) (due : List Due) : Type 0 where
    pub room : at ≤ length file + 1
    pub most : line ≤ at
    pub left : (after : After) → left_from at line due after ≡ all_from after

  pub walked_start : Here file start → Walked start.at start.line all
  walked_start h = record { room = h.room; most = h.most; left = λ after. refl }

  module _ (at line : ℕ) where
    pub walked_over : Walked at line [] → (after : After) → after line (lines (drop at file)) ≡ all_from after
    unfolding walk_due
    walked_over w after = w.left after

    module _ (t : RecordType) (k : ℕ) (ds : List Due) (w : Walked at line (drop k (run_of t (hour_lines_in file n)) ++ ds)) where
      pub walked_run : count_of (shape n) t ≤ k → Walked at line ds
      walked_run h = rw (run_end file n t k h) at w

      -- the line of rank k is due
      next : k < count_of (shape n) t → Walked at line (due_of t (hour_due file t k) ∷ (drop (k + 1) (run_of t (hour_lines_in file n)) ++ ds))
      next h = rw (run_one file n t k h) at w

      pub walked_missing : k < count_of (shape n) t → length file ≤ at → (after : After) → stopped_at 10 line ≡ all_from after
      walked_missing h p after = sym (due_missing (facility_of file) line file at after _ _ p) ∙ (next h).left after

      module _ (h : k < count_of (shape n) t) (p : at < length file) (f : ℕ)
          (e : f ≡ due_fault (facility_of file) (due_of t (hour_due file t k)) (first_line (drop at file))) where
        pub walked_found : (f ≡ 0 → ⊥) → (after : After) → stopped_at f line ≡ all_from after
        walked_found m after = sym (due_found (facility_of file) line file at after p _ _ f e m) ∙ (next h).left after

        pub walked_room : f ≡ 0 → at + length_of t ≤ length file
        walked_room z = due_room (facility_of file) line file at (λ line ls. stopped_at 0 line) p (due_of t (hour_due file t k)) [] f e z

        pub walked_next : f ≡ 0 → (long : ℕ) → long ≡ length_of t → Walked (at + (long + 1)) (line + 1) (drop (k + 1) (run_of t (hour_lines_in file n)) ++ ds)
        walked_next z long l =
            let b = walked_room z in
            record {
              room = omega arith;
              most = omega (arith, w.most);
              left = λ after. due_next (facility_of file) line file at after p _ _ f e z long l ∙ (next h).left after;
            }

-- from one place to a second, and from there to a third
pub walked_join : (file : List ℕ) (n : ℕ) (start : Cursor) (all mid due : List Due) (at₁ line₁ at line : ℕ) → Walked file n start all at₁ line₁ mid →
    Walked file n (record { line = line₁; at = at₁ }) mid at line due → Walked file n start all at line due
walked_join file n start all mid due at₁ line₁ at line v w =
    record { room = w.room; most = w.most; left = λ after. w.left after ∙ v.left after }

-- what a passage of runs has come to
module _ (file : List ℕ) (n first end : ℕ) (start : Cursor) (r : Passage) where
  abbrev pub due_in : ℕ → List Due
  due_in place = runs_of (drop place (take end order)) (hour_lines_in file n)

  pub runs_halted : (number line : ℕ) → r ≡ halted_at number line → ((after : After) → stopped_at number line ≡ all_from file n start (due_in first) after) →
      PassesRuns file n first end start r
  runs_halted number line e f = rw e (record { reads = f; here = tt })

  pub runs_on : (line at : ℕ) → r ≡ on_at line at → Walked file n start (due_in first) at line [] → PassesRuns file n first end start r
  runs_on line at e w =
      rw e (record { reads = walked_over file n start (due_in first) at line w; here = record { room = w.room; most = w.most } })

-- the type at a place is next
pub walked_type : (file : List ℕ) (n : ℕ) (start : Cursor) (all : List Due) (at line place end : ℕ) (t : RecordType) → place < end → end ≤ length order →
    t ≡ type_at place →
    Walked file n start all at line (runs_of (drop place (take end order)) (hour_lines_in file n)) →
    Walked file n start all at line (drop 0 (run_of t (hour_lines_in file n)) ++ runs_of (drop (place + 1) (take end order)) (hour_lines_in file n))
walked_type file n start all at line place end t h b e w = rw (e, ← runs_one place end (hour_lines_in file n) b h) w

-- where a passage has led, what follows is read
pub leads : (file : List ℕ) {r x : Passage} (whole : After → Reading) → ((after : After) → led file r after ≡ whole after) → r ≡ x → (after : After) →
    led file x after ≡ whole after
leads file whole reads e after = ap (λ r. led file r after) (sym e) ∙ reads after

-- behind the last line that is due
module _ (report : Report) (line : ℕ) (file : List ℕ) (at : ℕ) where
  pub end_over : at < length file → walk_end report line (lines (drop at file)) ≡ stopped_at 2 line
  unfolding walk_end
  end_over h = rw (lines_at_lem file at h)

  pub end_done : length file ≤ at → walk_end report line (lines (drop at file)) ≡ Ok report
  unfolding walk_end
  end_done h = rw (no_lines file at h)
