-- The hours from hour k on, with what was found before, give what all give.
use Rattle.std.proofs.Common.{◌≡◌, ◌-◌}
use Rattle.refusals.specs.Refusals.{fault_in, write_number}
use Rattle.sheet.specs.Sheet.{sheet_hour_count}
use Rattle.writer.specs.OnePass.{refusal_from}
use Rattle.writer.proofs.checks.try_hours.Given as goal

abbrev pub invariant-loop-k : goal.invariant-loop-k
invariant-loop-k l =
    refusal_from l.below l.sheet l.k (sheet_hour_count l.sheet - l.k) l.from (fault_in write_number l.found)
    ≡ refusal_from l.below l.sheet 0 (sheet_hour_count l.sheet) 0 0
