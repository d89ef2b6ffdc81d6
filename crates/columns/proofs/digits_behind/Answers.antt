use Rattle.std.proofs.Common.{arith}
use Rattle.columns.proofs.Digits.{left_stop, left_next}
use Rattle.columns.proofs.digits_behind.Goals as goal

pub returns-then-digit-gt9 : goal.returns-then-digit-gt9
returns-then-digit-gt9 c = left_stop _ _ _ _ c.loop-b.invariant c.loop-b-test.true (omega (arith, c.type_inv.bytes c.loop-b.b-index)) c.if-digit-gt9.true

pub loop-b-preserved : goal.loop-b-preserved
loop-b-preserved c = left_next _ _ _ _ c.loop-b.invariant c.loop-b-test.true _ (omega (arith, c.type_inv.bytes c.loop-b.b-index)) c.from.ensures (omega arith)
