use Rattle.std.proofs.Common.{◌∙◌}
use Rattle.columns.proofs.WorthLaws.{worth_number}
use Rattle.recorded.proofs.Line.value.Goals as goal

pub returns : goal.returns
returns c = rw c.value_at-v.ensures at c.worth.ensures ∙ worth_number _ _ (c.args.self.formed c.args.i c.requires)
