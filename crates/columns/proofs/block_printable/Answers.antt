use Rattle.std.proofs.Common.{◌∙◌}
use Rattle.columns.specs.Bytes.{is_printable}
use Rattle.columns.proofs.Reading.{found_one, found_end, all_end}
use Rattle.columns.proofs.block_printable.Goals as goal

pub loop-b-preserved : goal.loop-b-preserved
loop-b-preserved c = found_one _ _ c.loop-b-test.true is_printable _ ∙ c.loop-b.invariant

pub returns : goal.returns
returns c = found_end _ _ (all_end _ _ c.loop-b-test.false is_printable) ∙ c.loop-b.invariant
