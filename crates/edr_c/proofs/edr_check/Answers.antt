-- The numbers of the answer stand at the front.
use Rattle.std.proofs.Common.{ℕ, sym, ap, ◌∙◌}
use Rattle.checker.specs.Checked.{refusal}
use Rattle.edr_c.proofs.Filling.{short, accepted, refused}
use Rattle.edr_c.proofs.edr_check.Goals as goal

pub returns-then-answer-lt-ANSWER_LENGTH : goal.returns-then-answer-lt-ANSWER_LENGTH
returns-then-answer-lt-ANSWER_LENGTH c = short c.args.file.now c.args.answer.now c.if-answer-lt-ANSWER_LENGTH.true

pub returns-in-Ok : goal.returns-in-Ok
returns-in-Ok c =
    accepted c.args.file.now c.args.answer.now _ (sym c.in-Ok.ensures.0) c.if-answer-lt-ANSWER_LENGTH.false
    _ c.copy_from_slice.ensures.after

pub returns-in-Err : goal.returns-in-Err
returns-in-Err c =
    refused c.args.file.now c.args.answer.now _ (sym c.in-Err.ensures.0) c.if-answer-lt-ANSWER_LENGTH.false
    _ (c.copy_from_slice-in-Err.ensures.after ∙ ap (λ (n : ℕ). refusal n c.in-Err.refusal.line) c.number.ensures)
