use Rattle.totals.proofs.Sums.{quarter_at}
use Rattle.totals.proofs.Totals.quarter.Goals as goal

pub returns : goal.returns
returns c = quarter_at c.args.self c.half_up.ensures c.half_up-2.ensures c.half_up-3.ensures c.mean.ensures c.half_up-4.ensures
