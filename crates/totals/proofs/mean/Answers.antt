use Rattle.std.proofs.Common.{◌∙◌, arith}
use Rattle.totals.proofs.Sums.{mean_none, mean_some}
use Rattle.totals.proofs.mean.Goals as goal

pub returns-then-n-eq0 : goal.returns-then-n-eq0
returns-then-n-eq0 c = mean_none _ _ c.if-n-eq0.true

pub returns : goal.returns
returns c = c.half_up.ensures ∙ mean_some _ _ (omega arith)
