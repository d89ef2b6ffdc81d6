-- The stack name of a line, compared with that of the facility line.
use Rattle.std.proofs.Common.{◌≡◌, ℕ, List, Bool, sym, ◌∙◌}
use Rattle.exact.specs.Faults.{unless}
use Rattle.columns.specs.Bytes.{same}
use Rattle.columns.specs.Columns.{columns}
use Rattle.layout.specs.Layout.{stack_start, stack_width}
use Rattle.lines.specs.LineFaults.{stack_fault}
use Rattle.lines.proofs.faults.try_stack.Goals as goal

stack_compared : (facility line : List ℕ) {b : Bool} → b ≡ same (columns stack_start stack_width line) (columns stack_start stack_width facility) →
    stack_fault facility line ≡ unless b 5
unfolding stack_fault
stack_compared facility line e = rw e

pub returns-then-same_bytes : goal.returns-then-same_bytes
unfolding columns
returns-then-same_bytes c = sym (stack_compared _ _ c.same_bytes.ensures ∙ rw c.if-same_bytes.true)

pub returns : goal.returns
unfolding columns
returns c = sym (stack_compared _ _ c.same_bytes.ensures ∙ rw c.if-same_bytes.false)
