-- The edits before the i-th are done.
use Rattle.std.proofs.Common.{◌≡◌}
use Rattle.outside.specs.Cases.{edited_by}
use Rattle.outside.proofs.edit.Given as goal

abbrev pub invariant-loop-i : goal.invariant-loop-i
invariant-loop-i l = l.report ≡ edited_by l.i l.edits l.fn.report
