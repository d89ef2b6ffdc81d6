-- A record and its byte 10.
use Rattle.std.proofs.Common.{◌≡◌, sym, ap, ◌∙◌, ℕ, List, ◌+◌, ◌<◌, ◌≤◌, length, arith}
use Rattle.columns.specs.Columns.{put}
use Rattle.columns.specs.Written.{digits_of}
use Rattle.columns.proofs.WrittenLaws.{digits_length}
use Rattle.layout.specs.Layout.{length_of, offset_of, date_column, date_width}
use Rattle.layout.specs.declared.Shape.{Shape}
use Rattle.layout.specs.declared.RecordType.{RecordType}
use Rattle.records.specs.Room.{HourFits}
use Rattle.layout.proofs.PlaceLaws.{line_inside}
use Rattle.layout.proofs.RunLaws.{dated_below}
use Rattle.records.specs.Records.{ended, dated_record}
use Rattle.records.specs.RecordLaws.{dated_length}
use Rattle.records.proofs.Lines.{line_put}
use Rattle.records.proofs.write_hour.Goals as goal

-- where the line ends
ends : (s : Shape) (t : RecordType) (k : ℕ) {name buffer : List ℕ} {at long : ℕ} → HourFits s k name buffer → 1 ≤ date_column t →
    at ≡ offset_of s t k → long ≡ length_of t → at + long < length buffer
ends s t k f d o l = omega (arith, o, l, line_inside s t k (dated_below t d s k f.rank f.listed), f.room)

pub slice_bounds-hour_record-end : goal.slice_bounds-hour_record-end
slice_bounds-hour_record-end c = omega (arith, ends c.args.s c.args.t c.args.k c.requires.0 c.requires.1 c.offset_of-at.ensures c.line_length.ensures.0)

pub bounds-buffer-end : goal.bounds-buffer-end
bounds-buffer-end c =
    let e = ends c.args.s c.args.t c.args.k c.requires.0 c.requires.1 c.offset_of-at.ensures c.line_length.ensures.0 in
    omega (arith, e, c.hour_record.auto.line)

pub returns : goal.returns
returns c =
    let x = c.args in
    let e = ends x.s x.t x.k c.requires.0 c.requires.1 c.offset_of-at.ensures c.line_length.ensures.0 in
    let date = digits_of date_width x.date in
    let record-of-hour = dated_record x.name.now x.t date x.h in
    let long = dated_length x.name.now c.told-name x.t date x.h (digits_length date_width x.date) in
    rw c.hour_record.ensures
    (line_put c.offset_of-at.result c.line_length.result x.buffer.now record-of-hour (long ∙ sym c.line_length.ensures.0) e
    ∙ ap (λ (at : ℕ). put (at + 1) (ended record-of-hour) x.buffer.now) c.offset_of-at.ensures)
