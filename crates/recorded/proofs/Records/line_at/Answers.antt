use Rattle.std.proofs.Common.{arith}
use Rattle.reading.specs.RecordLaws.{room_for}
use Rattle.recorded.proofs.Records.line_at.Goals as goal

pub slice_bounds-result-end : goal.slice_bounds-result-end
slice_bounds-result-end c =
    let r = c.args.self in
    omega (arith, c.offset_of-from.ensures, c.line_length.ensures.0, (room_for r.file.now r.shape r.standing c.args.t c.args.p c.requires).0)
