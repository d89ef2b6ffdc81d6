-- A filled array has the length that it was made with.
use Rattle.outside.proofs.Laws.{zeros}
use Rattle.outside.proofs.report_room.Statement.{statement}
use Rattle.outside.proofs.report_room.Tie as tie

returns : tie.Need-returns
returns c = zeros 703000

pub report_room_spec : {M : Type 1} → statement M
report_room_spec = tie.close (tie.spec returns)
