use Rattle.std.proofs.Common.{arith, refl}
use Rattle.totals.proofs.Sums.{sum_bound, grown_first, grown_next, grown, grown_room}
use Rattle.totals.proofs.Totals.with_hour.Goals as goal

pub loop-i-init : goal.loop-i-init
loop-i-init c = (grown_first _ _, refl)

pub overflow_add-self : goal.overflow_add-self
overflow_add-self c =
    let i = c.loop-i.i in
    omega (arith, c.loop-i.invariant.0.left i, sum_bound c.args.self i c.requires.0, c.share_of-share.ensures.1.each i)

pub loop-i-preserved : goal.loop-i-preserved
loop-i-preserved c = (grown_next _ _ _ _ c.loop-i.invariant.0 (omega (arith, c.requires.0.count)), c.loop-i.invariant.1)

pub returns : goal.returns
returns c =
    let g = c.loop-i.invariant.0 in
    let r = c.requires.0 in
    let share = c.share_of-share.ensures in
    rw c.loop-i.invariant.1 (
      grown c.args.self c.args.figures c.args.time _ _ _ g (omega (arith, r.count)) r.count share.0,
      grown_room c.args.self _ _ _ g r share.1 c.requires.1,
    )
