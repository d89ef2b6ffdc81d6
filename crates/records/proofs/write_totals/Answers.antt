use Rattle.std.proofs.Common.{arith}
use Rattle.layout.specs.Layout.{length_of}
use Rattle.layout.specs.declared.RecordType.TheVariants.{QuarterTotals}
use Rattle.records.specs.Records.{totals_record}
use Rattle.records.proofs.Lines.{line_put}
use Rattle.records.specs.RecordLaws.{totals_length}
use Rattle.records.proofs.write_totals.Goals as goal

pub returns : goal.returns
returns c =
    rw (c.totals_record.ensures, c.line_length.ensures.0)
    (line_put c.args.at (length_of QuarterTotals) c.args.buffer.now (totals_record c.args.name.now c.args.q)
    (totals_length c.args.name.now c.told-name c.args.q) (omega arith))
