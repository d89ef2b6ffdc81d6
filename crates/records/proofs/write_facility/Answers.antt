use Rattle.std.proofs.Common.{arith}
use Rattle.layout.specs.Layout.{length_of}
use Rattle.layout.specs.declared.RecordType.TheVariants.{Facility}
use Rattle.records.specs.Records.{facility_record}
use Rattle.records.proofs.Lines.{line_put}
use Rattle.records.specs.RecordLaws.{facility_length}
use Rattle.records.proofs.write_facility.Goals as goal

pub returns : goal.returns
returns c =
    rw (c.facility_record.ensures, c.line_length-end.ensures.0)
    (line_put 0 (length_of Facility) c.args.buffer.now (facility_record c.args.year c.args.quarter c.args.name.now)
    (facility_length c.args.name.now c.told-name c.args.year c.args.quarter) (omega arith))
