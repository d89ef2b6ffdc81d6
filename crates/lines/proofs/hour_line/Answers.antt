-- A 200 line: its hour of the quarter, and behind it its value.
use Rattle.std.proofs.Common.{refl, sym, ◌∙◌}
use Rattle.layout.specs.declared.RecordType.TheVariants.{So2Concentration}
use Rattle.lines.proofs.Answers.{Dated, dated_known, hour_undated, hour_valued}
use Rattle.lines.proofs.Told.{exit_told, hour_told}
use Rattle.lines.proofs.hour_line.Goals as goal

-- the line, once its hour is known
dated : (c : goal.In_ok-hour) → Dated c.args.facility.now c.args.period So2Concentration c.args.from c.args.rest.now c.in_ok-hour.hour
dated c = dated_known _ _ _ _ _ _ c.in_ok-hour.ensures

pub returns-in_err-hour : goal.returns-in_err-hour
returns-in_err-hour c = rw (exit_told _ _ c.from_residual.ensures.1) (hour_undated _ _ _ _ _ c.in_err-hour.ensures)

pub slice_bounds-try_so2-end : goal.slice_bounds-try_so2-end
slice_bounds-try_so2-end c = sym (dated c).long

pub try_so2-requires : goal.try_so2-requires
try_so2-requires c = (dated c).long

pub returns-in_err-try_so2 : goal.returns-in_err-try_so2
returns-in_err-try_so2 c =
    rw (exit_told _ _ c.from_residual-in_err-try_so2.ensures.1)
    (hour_told _ _ c.in_ok-hour.hour refl ∙ hour_valued _ _ _ _ _ (dated_known _ _ _ _ _ _ c.in_ok-hour.ensures) _ c.in_err-try_so2.ensures)

pub returns : goal.returns
returns c = hour_valued _ _ _ _ _ (dated_known _ _ _ _ _ _ c.in_ok-hour.ensures) 0 c.in_ok-try_so2.ensures
