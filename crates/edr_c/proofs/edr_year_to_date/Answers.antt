-- A year's record, or the refusal, at the front.
use Rattle.std.proofs.Common.{sym, ⊎_elim}
use Rattle.edr_c.proofs.Years.{short_previous, short_answer, short_record, joined, refused}
use Rattle.edr_c.proofs.edr_year_to_date.Goals as goal

pub returns-then-previous-lt-YEAR_LENGTH : goal.returns-then-previous-lt-YEAR_LENGTH
returns-then-previous-lt-YEAR_LENGTH c =
    ⊎_elim (λ h. short_previous _ _ _ _ _ h) (λ r. ⊎_elim (λ h. short_answer _ _ _ _ _ h.1) (λ h. short_record _ _ _ _ _ h.2) r)
    c.then-previous-lt-YEAR_LENGTH.either

pub returns-in-Ok : goal.returns-in-Ok
returns-in-Ok c =
    let k = rw (c.year_in.ensures, c.quarter_in.ensures) at c.in-Ok.ensures in
    joined _ _ _ _ _ c.if-previous-lt-YEAR_LENGTH.false c.if-answer-lt-ANSWER_LENGTH.false c.if-record-lt-YEAR_LENGTH.false _ (sym k)
    _ c.copy_from_slice.ensures.after

pub returns-in-Err : goal.returns-in-Err
returns-in-Err c =
    let k = rw (c.year_in.ensures, c.quarter_in.ensures) at c.in-Err.ensures in
    rw c.number.ensures
    (refused _ _ _ _ _ c.if-previous-lt-YEAR_LENGTH.false c.if-answer-lt-ANSWER_LENGTH.false c.if-record-lt-YEAR_LENGTH.false _ (sym k))
