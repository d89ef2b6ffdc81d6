use Rattle.std.proofs.Common.{sym, ◌∙◌, arith}
use Rattle.records.proofs.Lines.{values_more, values_end}
use Rattle.records.proofs.write_values.Goals as goal

pub loop-i-preserved : goal.loop-i-preserved
loop-i-preserved c =
    let l = c.loop-i in (
      c.write_number.auto.line ∙ l.invariant.0,
      rw (c.write_number.ensures, c.value_at-v.ensures)
          (values_more c.args.t c.args.values.now l.i l.line (omega (arith, c.loop-i-test.true, c.requires.1)) c.requires.1 ∙ l.invariant.1),
    )

pub returns : goal.returns
returns c =
    let l = c.loop-i in
    sym (values_end c.args.t c.args.values.now l.i l.line (omega (arith, c.loop-i-test.false, c.requires.1))) ∙ l.invariant.1
