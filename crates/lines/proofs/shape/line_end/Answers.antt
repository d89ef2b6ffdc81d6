use Rattle.std.proofs.Common.{◌∙◌}
use Rattle.lines.proofs.Ends.{line_position}
use Rattle.lines.proofs.shape.line_end.Goals as goal

pub returns : goal.returns
returns c = c.unwrap_or.ensures ∙ rw c.first_end.ensures (line_position c.args.rest.now)
