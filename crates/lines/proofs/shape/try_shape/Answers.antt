-- The faults of a line's shape, in their order; a line that is at once seen to be right has none.
use Rattle.std.proofs.Common.{◌≡◌, ℕ, List, sym, ap, ◌∙◌, Bool, true, false, arith, length, take}
use lib.Seq.{length-take-le}
use Rattle.columns.specs.Bytes.{is_printable, all}
use Rattle.lines.specs.Lines.{first_line}
use Rattle.lines.proofs.LineLaws.{first_take, line_part}
use Rattle.lines.proofs.Shapes.{fault_bytes, line_alone}
use Rattle.lines.proofs.shape.try_shape.Goals as goal

-- the bytes before the line's end are the line
bytes : (rest : List ℕ) {end : ℕ} → end ≡ length (first_line rest) → (b : Bool) → all is_printable (take end rest) ≡ b →
    all is_printable (first_line rest) ≡ b
bytes rest e b p = ap (all is_printable) (first_take rest ∙ ap (λ (n : ℕ). take n rest) (sym e)) ∙ p

pub returns-then-is_line : goal.returns-then-is_line
returns-then-is_line c =
    sym (line_alone _ _ (sym c.if-is_line.ensures) _ (sym c.if-not-type_is.ensures) c.line_length-long.ensures.0)

pub slice_bounds-all_printable-end : goal.slice_bounds-all_printable-end
slice_bounds-all_printable-end c = sym (length-take-le _ _ (omega (arith, line_part c.args.rest.now)))

pub returns-then-not-all_printable : goal.returns-then-not-all_printable
returns-then-not-all_printable c =
    sym (fault_bytes _ _ (sym c.if-not-type_is.ensures) (omega arith) false (bytes _ c.line_end-end.ensures false (sym c.if-not-all_printable.ensures)))

pub returns : goal.returns
returns c =
    sym (fault_bytes _ _ (sym c.if-not-type_is.ensures) (omega arith) true (bytes _ c.line_end-end.ensures true (sym c.if-not-all_printable.ensures)))
