-- None of the totals before it differs: the last one's fault is that of all.
use Rattle.std.proofs.Common.{refl, sym, ◌∙◌}
use Rattle.exact.specs.Faults.{first_failing, or_none}
use Rattle.refusals.proofs.Numbers.{next_said}
use Rattle.judging.proofs.try_totals.Goals as goal

pub returns : goal.returns
unfolding first_failing
returns c =
    c.try_total-5.ensures
    ∙ sym
    (next_said _ _ c.in_ok-try_total.ensures ∙ next_said _ _ c.in_ok-try_total-2.ensures ∙ next_said _ _ c.in_ok-try_total-3.ensures
    ∙ next_said _ _ c.in_ok-try_total-4.ensures ∙ or_none _ 0 refl)
