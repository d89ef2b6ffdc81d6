-- The lines of one hour among those of the others: how a report is written in one pass over the sheet.
use Rattle.std.specs.Prelude.{ℕ, suc, ◌+◌, List, [], ◌∷◌}
use Rattle.columns.specs.Columns.{put}
use Rattle.layout.specs.Layout.{order, hourly, offset_of}
use Rattle.stamp.specs.Stamp.{stamp_of}
use Rattle.formulas.specs.declared.hour.Hour.{Hour}
use Rattle.layout.specs.declared.RecordType.{RecordType}
use Rattle.layout.specs.declared.Shape.{Shape}
use Rattle.writer.specs.Recorded.{ReportHour}
use Rattle.records.specs.Records.{ended, dated_record}

-- the lines of hour k, one of each of these types, put at their offsets
unfoldable pub hour_lines : List ℕ → Shape → ℕ → List ℕ → Hour → List RecordType → List ℕ → List ℕ
hour_lines name s k date h [] buffer = buffer
hour_lines name s k date h (t ∷ ts) buffer = hour_lines name s k date h ts (put (offset_of s t k + 1) (ended (dated_record name t date h)) buffer)

-- those of some hours, from hour k on
unfoldable pub hours_lines : ℕ → ℕ → List ℕ → Shape → ℕ → List ReportHour → List ℕ → List ℕ
hours_lines year quarter name s k [] buffer = buffer
hours_lines year quarter name s k (h ∷ hs) buffer =
    hours_lines year quarter name s (suc k) hs (hour_lines name s k (stamp_of year quarter h.hour) h.recorded (hourly order) buffer)
