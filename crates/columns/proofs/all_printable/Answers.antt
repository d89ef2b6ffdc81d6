use Rattle.std.proofs.Common.{length, ◌-◌, ◌*◌, refl, ap, ◌∙◌, arith}
use Rattle.columns.specs.Bytes.{is_printable, all}
use Rattle.columns.proofs.ColumnsLaws.{part_end}
use Rattle.columns.proofs.Blocks.{block_next, block_fails, last_decides}
use Rattle.columns.proofs.all_printable.Goals as goal

pub loop-k-init : goal.loop-k-init
unfolding all
loop-k-init c = refl

pub returns-then-not-block_printable : goal.returns-then-not-block_printable
returns-then-not-block_printable c = block_fails is_printable _ 16 _ c.if-not-block_printable.ensures

pub loop-k-preserved : goal.loop-k-preserved
loop-k-preserved c = block_next is_printable _ 16 _ c.loop-k.invariant c.if-not-block_printable.ensures

pub returns : goal.returns
returns c =
    c.block_printable-2.ensures
    ∙ ap (all is_printable) (part_end (length c.args.bytes.now - 16) c.args.bytes.now)
    ∙ last_decides is_printable (length c.args.bytes.now - 16) (c.loop-k.k * 16) c.args.bytes.now (omega arith) c.loop-k.invariant
