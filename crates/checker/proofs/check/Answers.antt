-- The answer is the definition's, and the promise holds of that.
use Rattle.std.specs.Prelude.{Ok}
use Rattle.std.proofs.Common.{◌≡◌, List, ℕ, sym, ap, ◌∙◌}
use Rattle.reading.specs.Reading.{read_of}
use Rattle.reading.specs.RightFileLaws.{read_right}
use Rattle.reading.specs.declared.Report.{Report}
use Rattle.refusals.proofs.There.{exit_there}
use Rattle.checker.specs.Checked.{Answer, after_reading, checked}
use Rattle.checker.specs.Judging.{Judgeable}
use Rattle.checker.specs.Promise.{Promise}
use Rattle.checker.proofs.JudgingLaws.{right_judgeable}
use Rattle.checker.proofs.PromiseLaws.{promise}
use Rattle.checker.proofs.check.Goals as goal

kept : (file : List ℕ) (r : Answer) → r ≡ checked file → (r ≡ checked file) × Promise file r
kept file r e = (e, rw e (promise file))

pub returns-in_err-shape : goal.returns-in_err-shape
unfolding after_reading checked
returns-in_err-shape c =
    let file = c.args.file.now in
    rw (exit_there c.from_residual.result c.in_err-shape.field-0.0 c.from_residual.ensures.1)
    (kept file _ (ap (after_reading file) c.in_err-shape.ensures))

read_judgeable : (file : List ℕ) (report : Report) → Ok report ≡ read_of file → Judgeable file report.shape
read_judgeable file report e = right_judgeable file report (read_right file report (sym e))

pub invariant_of-judge : goal.invariant_of-judge
invariant_of-judge c = record { standing = (read_judgeable c.args.file.now _ c.in_ok-shape.ensures).standing }

pub judge-requires : goal.judge-requires
judge-requires c = read_judgeable c.args.file.now _ c.in_ok-shape.ensures

pub returns : goal.returns
unfolding after_reading checked
returns c =
    let file = c.args.file.now in
    kept file _ (c.judge.ensures ∙ ap (after_reading file) c.in_ok-shape.ensures)
