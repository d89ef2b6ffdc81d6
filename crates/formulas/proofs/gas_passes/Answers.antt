use Rattle.std.proofs.Common.{◌∙◌, arith}
use Rattle.exact.proofs.MeetsLaws.{meets_at}
use Rattle.formulas.proofs.ReducedLaws.{reduced_gas}
use Rattle.formulas.proofs.gas_passes.Goals as goal

pub returns : goal.returns
returns c = c.meets.ensures ∙ meets_at (omega arith) (omega arith) (omega arith) (omega arith) ∙ reduced_gas c.args.f
