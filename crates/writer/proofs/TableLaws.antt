-- Every answer of the writer is of a row of its table, and the table has one number. Table.antt has the rows. What is not refused can be
-- written, and an answer's number tells a length from a refusal.
use Prim.Native.Nat.{ℕ, zero, suc, ◌+◌, ◌*◌, ◌≤◌}
use Rattle.std.specs.Prelude.{◌≡◌, List, Bool, leb, Ok, Err}
use Rattle.std.proofs.Math.Path.{refl}
use Rattle.std.proofs.Math.Bool.{true, false}
use borrow.Author.Tests.{leb-true}
use native.Mathlib.Omega.{arith}
use Rattle.exact.specs.Faults.{◌or_else◌, unless, or_zero, unless_zero}
use Rattle.exact.specs.Clauses.{Hold}
use Rattle.exact.proofs.ClauseLaws.{Told, hold_none, first_determined}
use Rattle.layout.specs.Layout.{shape, report_length}
use Rattle.layout.specs.LayoutLaws.{report_length_lem}
use Rattle.sheet.specs.Sheet.{shape_of, sheet_hours}
use Rattle.sheet.specs.SheetTests.{every, sheet_holds, readings_hold}
use Rattle.writer.specs.Refusals.{figures_fit, refusal_of, refusal_in}
use Rattle.writer.specs.Written.{Written, written_number, shortest_report, answered, answered_in}
use Rattle.writer.specs.Writable.{Writable}
use Rattle.writer.proofs.RefusalLaws.{writable}
use Rattle.writer.specs.WriterClauses.{writer_clauses}
use Rattle.writer.proofs.WriterClauseLaws.{own_length, refusal_told}
use Rattle.writer.specs.Table.{InWriterTable}
use Rattle.writer.specs.Table.InWriterTable.{report_written, refused}

module _ (year quarter : ℕ) (name sheet : List ℕ) (room : ℕ) where
  -- every answer is of a row
  pub answer_in_table : InWriterTable year quarter name sheet room (written_number (answered year quarter name sheet room))
  unfolding answered_in
  answer_in_table = go (refusal_of year quarter name sheet room) (refusal_told year quarter name sheet room)
    where
      go : (f : ℕ) → Told f (writer_clauses year quarter name sheet room) →
          InWriterTable year quarter name sheet room (written_number (elim f [ zero ↦ Ok (report_length (shape_of sheet)) | suc c ↦ Err (suc c) ]))
      go zero t = written (t.right refl)
        where
          written : Hold (writer_clauses year quarter name sheet room) → InWriterTable year quarter name sheet room (report_length (shape_of sheet))
          written h =
              let n = h.1.1.1.1.0 in
              let e : report_length (shape_of sheet) ≡ 75 + 318 * n.0 = omega (arith, own_length sheet, n.1) in
              rw e (report_written n.0 n.1 h)
      go (suc c) t = refused (suc c) (t.wrong c refl)

  -- and there is one: each number is given under its cause and at no other time
  pub table_determined : (a b : ℕ) → InWriterTable year quarter name sheet room a → InWriterTable year quarter name sheet room b → a ≡ b
  table_determined a b (report_written n e h) (report_written m f k) = omega arith
  table_determined a b (report_written n e h) (refused m f) = absurd (hold_none (writer_clauses year quarter name sheet room) m h f)
  table_determined a b (refused n e) (report_written m f k) = absurd (hold_none (writer_clauses year quarter name sheet room) n k e)
  table_determined a b (refused n e) (refused m f) = first_determined (writer_clauses year quarter name sheet room) n m e f

  pub table_answers : (a : ℕ) → InWriterTable year quarter name sheet room a → written_number (answered year quarter name sheet room) ≡ a
  table_answers a r = table_determined (written_number (answered year quarter name sheet room)) a answer_in_table r

  -- what is not refused can be written, and the buffer has room for it
  pub not_refused : refusal_of year quarter name sheet room ≡ 0 → Writable year quarter name sheet × (report_length (shape_of sheet) ≤ room)
  unfolding refusal_in
  not_refused e =
      let a = or_zero (unless (sheet_holds year quarter name sheet) 31) _ e in
      let b = or_zero (unless (every readings_hold (sheet_hours sheet)) 32) _ a.1 in
      let c = or_zero (unless (every figures_fit (sheet_hours sheet)) 33) _ b.1 in (
        writable year quarter name sheet (unless_zero _ 30 a.0) (unless_zero _ 31 b.0) (unless_zero _ 32 c.0),
        leb-true _ _ (unless_zero (leb (report_length (shape_of sheet)) room) 33 c.1),
      )

  refusal_small : refusal_of year quarter name sheet room ≤ 34
  unfolding refusal_in
  refusal_small =
      go (sheet_holds year quarter name sheet) (every readings_hold (sheet_hours sheet)) (every figures_fit (sheet_hours sheet))
      (leb (report_length (shape_of sheet)) room)
    where
      go : (a b c d : Bool) → (unless a 31 or_else unless b 32 or_else unless c 33 or_else unless d 34) ≤ 34
      go false b c d = omega arith
      go true false c d = omega arith
      go true true false d = omega arith
      go true true true false = omega arith
      go true true true true = omega arith

  pub number_tells : shortest_report ≤ written_number (answered year quarter name sheet room) →
      answered year quarter name sheet room ≡ Ok (report_length (shape_of sheet))
  unfolding answered_in
  number_tells h = go (refusal_of year quarter name sheet room) refusal_small h
    where
      go : (f : ℕ) → f ≤ 34
          → shortest_report ≤ written_number (elim f [ zero ↦ Ok (report_length (shape_of sheet)) | suc c ↦ Err (suc c) ])
          → ◌≡◌ {A = Written} (elim f [ zero ↦ Ok (report_length (shape_of sheet)) | suc c ↦ Err (suc c) ]) (Ok (report_length (shape_of sheet)))
      go zero s h = refl
      go (suc c) s h = absurd (omega (arith, report_length_lem (shape 0)))
