use Rattle.records.specs.Records.{facility_record}
use Rattle.records.proofs.facility_record.Goals as goal

pub returns : goal.returns
unfolding facility_record
returns c = rw (c.write_digits-2.ensures, c.write_digits.ensures, c.write_heading.ensures)
