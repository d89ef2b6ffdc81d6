use Rattle.std.proofs.Common.{arith}
use Rattle.outside.proofs.Laws.{answer_fits}
use Rattle.outside.proofs.write_sheet.Goals as goal

pub returns : goal.returns
returns c = let fits = answer_fits _ _ _ _ _ _ c.write.ensures.0 in omega arith
