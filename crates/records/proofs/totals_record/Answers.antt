use Rattle.records.specs.Records.{totals_record}
use Rattle.records.proofs.totals_record.Goals as goal

pub returns : goal.returns
unfolding totals_record
returns c = rw (c.write_values.ensures, c.write_heading.ensures)
