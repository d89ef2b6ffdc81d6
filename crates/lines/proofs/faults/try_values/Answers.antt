use Rattle.std.proofs.Common.{refl, sym, ◌∙◌, arith}
use Rattle.std.proofs.lemmas.Result.{err_from_is_err_and}
use Rattle.refusals.proofs.Numbers.{fault_positive}
use Rattle.lines.proofs.Values.{first_fault_lem, next_fault, values_end}
use Rattle.lines.proofs.faults.try_values.Goals as goal

pub returns-in_err-try_value : goal.returns-in_err-try_value
returns-in_err-try_value c =
    let p = err_from_is_err_and c.from_residual.result c.from_residual.ensures.1 in
    let some = fault_positive c.in_err-try_value.field-0.0 in
    rw (p.1, p.2)
    (first_fault_lem c.args.t c.args.line.now c.loop-i.i _ _ (omega (arith, c.value_count-i-end.ensures)) c.value_at.ensures c.in_err-try_value.ensures (λ e. omega arith)
    ∙ c.loop-i.invariant)

pub loop-i-preserved : goal.loop-i-preserved
loop-i-preserved c =
    next_fault c.args.t c.args.line.now c.loop-i.i _ _ (omega (arith, c.value_count-i-end.ensures)) c.value_at.ensures c.in_ok-try_value.ensures refl
    ∙ c.loop-i.invariant

pub returns : goal.returns
returns c = sym (values_end c.args.t c.args.line.now c.loop-i.i (omega arith)) ∙ c.loop-i.invariant
