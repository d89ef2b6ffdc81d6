use Rattle.std.proofs.Common.{sym, ◌∙◌}
use Rattle.sheet.proofs.TestLaws.{readings_true}
use Rattle.writer.proofs.checks.try_hour.Goals as goal

pub rounded_figures-requires : goal.rounded_figures-requires
rounded_figures-requires c = rw c.recorded_readings.ensures (readings_true c.args.h (sym c.readings_hold.ensures ∙ c.if-not-readings_hold.false)).2
