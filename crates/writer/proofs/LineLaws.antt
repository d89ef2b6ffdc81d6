-- The records of a report's hours: each has the length of its type, and all its bytes are printable.
use Rattle.std.specs.Prelude.{◌≡◌, true, List, ℕ, length}
use Rattle.columns.specs.Bytes.{all, is_printable}
use Rattle.layout.specs.Layout.{length_of, stack_width}
use Rattle.layout.specs.declared.RecordType.{RecordType}
use Rattle.stamp.specs.Stamp.{stamp_of}
use Rattle.stamp.specs.StampLaws.{stamp_length, stamp_printable}
use Rattle.records.specs.RecordLaws.{dated_length, dated_printable}
use Rattle.writer.specs.Recorded.{ReportHour}
use Rattle.writer.specs.Written.{hour_record}

pub hour_length : (name : List ℕ) → length name ≡ stack_width → (year quarter : ℕ) (t : RecordType) (h : ReportHour) →
    length (hour_record year quarter name t h) ≡ length_of t
unfolding hour_record
hour_length name named year quarter t h = dated_length name named t (stamp_of year quarter h.hour) h.recorded (stamp_length year quarter h.hour)

pub hour_printable : (name : List ℕ) → all is_printable name ≡ true → (year quarter : ℕ) (t : RecordType) (h : ReportHour) →
    all is_printable (hour_record year quarter name t h) ≡ true
unfolding hour_record
hour_printable name printable year quarter t h =
    dated_printable name printable t (stamp_of year quarter h.hour) h.recorded (stamp_printable year quarter h.hour)
