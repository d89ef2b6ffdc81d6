-- The two answers of the writer: a refusal, and the report's length.
use Rattle.std.specs.Prelude.{Ok, Err}
use Prim.Native.Nat.{ℕ, zero, suc, ◌+◌, ◌-◌, ◌≤◌}
use mathlib.Core.Path.{◌≡◌, refl, sym, ◌∙◌}
use mathlib.Core.List.{List}
use native.Mathlib.Omega.{arith}
use lib.ListN.{length}
use Rattle.columns.specs.Columns.{put}
use Rattle.layout.specs.Layout.{stack_width, report_length, Held}
use Rattle.layout.specs.declared.Shape.{Shape}
use Rattle.sheet.specs.Sheet.{shape_of, sheet_hours}
use Rattle.writer.specs.Recorded.{report_hours}
use Rattle.writer.specs.Refusals.{refusal_of}
use Rattle.writer.specs.Written.{report, answered, buffered, buffered_in, answered_in}
use Rattle.writer.specs.Writable.{Fits}
use Rattle.writer.proofs.TableLaws.{not_refused}
use Rattle.writer.proofs.ReportLaws.{report_shape, report_bytes}
use Rattle.refusals.specs.Refusals.{write_number}
use Rattle.refusals.specs.declared.WriteRefusal.{WriteRefusal}
use Rattle.refusals.proofs.Numbers.{write_positive}

module _ (year quarter : ℕ) (name sheet : List ℕ) (room : ℕ) where
  pub refused_by : (r : ℕ) → r ≡ refusal_of year quarter name sheet room → 1 ≤ r → answered year quarter name sheet room ≡ Err r
  unfolding answered_in
  refused_by zero e h = absurd (omega arith)
  refused_by (suc r) e h = rw (← e, answered_in)

  pub refused_answer : (e : WriteRefusal) → write_number e ≡ refusal_of year quarter name sheet room →
      answered year quarter name sheet room ≡ Err (write_number e)
  refused_answer e told = refused_by (write_number e) told (write_positive e)

  pub taken_answer : 0 ≡ refusal_of year quarter name sheet room → answered year quarter name sheet room ≡ Ok (report_length (shape_of sheet))
  unfolding answered_in
  taken_answer e = rw (← e, answered_in)

  pub taken_held : 0 ≡ refusal_of year quarter name sheet room → Held (shape_of sheet)
  taken_held e = (not_refused year quarter name sheet room (sym e)).0.held

module _ (year quarter : ℕ) (name sheet buffer : List ℕ) where
  pub refused_buffer : 1 ≤ refusal_of year quarter name sheet (length buffer) → buffer ≡ buffered year quarter name sheet buffer
  unfolding buffered_in
  refused_buffer h = go (refusal_of year quarter name sheet (length buffer)) refl h
    where
      go : (r : ℕ) → refusal_of year quarter name sheet (length buffer) ≡ r → 1 ≤ r → buffer ≡ buffered year quarter name sheet buffer
      go zero e h = absurd (omega arith)
      go (suc r) e h = rw (e, buffered_in)

  -- where nothing is refused, the report can be written, and is
  pub taken_fits : 0 ≡ refusal_of year quarter name sheet (length buffer) → length name ≡ stack_width → Fits year quarter name sheet buffer
  taken_fits e named =
      let fine = not_refused year quarter name sheet (length buffer) (sym e) in
      record { writable = fine.0; named = named; room = fine.1 }

  pub taken_buffer : 0 ≡ refusal_of year quarter name sheet (length buffer) → length name ≡ stack_width →
      buffered year quarter name sheet buffer ≡ put 1 (report year quarter name (report_hours (sheet_hours sheet))) buffer
  unfolding buffered_in put
  taken_buffer e named =
      let n : 1 - 1 + length (report year quarter name (report_hours (sheet_hours sheet))) ≡ report_length (shape_of sheet) =
      omega (arith, report_bytes year quarter name (report_hours (sheet_hours sheet)) named (shape_of sheet) (report_shape sheet)) in
      rw (← e, buffered_in, n)

-- the same, of the number that was found
module _ (year quarter : ℕ) (name sheet buffer : List ℕ) (r : ℕ) (told : r ≡ refusal_of year quarter name sheet (length buffer)) (none : r ≡ 0) where
  pub room_for : length name ≡ stack_width → Fits year quarter name sheet buffer
  room_for = taken_fits year quarter name sheet buffer (sym none ∙ told)

  pub held_shape : (s : Shape) → s ≡ shape_of sheet → Held s
  held_shape s e = rw e (taken_held year quarter name sheet (length buffer) (sym none ∙ told))

  pub written : length name ≡ stack_width → (s : Shape) → s ≡ shape_of sheet → (size : ℕ) → size ≡ report_length s → (after : List ℕ) →
      after ≡ put 1 (report year quarter name (report_hours (sheet_hours sheet))) buffer →
      (Ok size ≡ answered year quarter name sheet (length buffer)) × (after ≡ buffered year quarter name sheet buffer)
  written named s e size sized after put_there =
      let taken = sym none ∙ told in (
        rw (sized, e) (sym (taken_answer year quarter name sheet (length buffer) taken)),
        put_there ∙ sym (taken_buffer year quarter name sheet buffer taken named),
      )

pub ruleset answering = (write_positive, refused_answer, refused_buffer, taken_answer, taken_held, taken_fits, taken_buffer)
