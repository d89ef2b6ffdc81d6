-- The words and the count, or the refusal's number, at the front.
use Rattle.std.proofs.Common.{sym, ap, ◌∙◌, ⊎_elim}
use Rattle.recorder.specs.Recording.{recorded_of}
use Rattle.edr_c.proofs.RecorderCall.{same_hour, wrong_states, wrong_readings, wrong_room, wrong_state, words, refused}
use Rattle.edr_c.proofs.edr_recorder_words.Goals as goal

pub returns-then-states-ne-READINGS : goal.returns-then-states-ne-READINGS
returns-then-states-ne-READINGS c =
    ⊎_elim (λ h. wrong_states _ _ _ h) (λ r. ⊎_elim (λ h. wrong_readings _ _ _ h.1) (λ h. wrong_room _ _ _ h.2) r)
    c.then-states-ne-READINGS.either

pub returns-then-not-known : goal.returns-then-not-known
returns-then-not-known c =
    wrong_state _ _ _ c.if-states-ne-READINGS.false c.if-readings-ne-READINGS.false c.if-answer-lt-WORDS_LENGTH.false c.if-not-known.true

pub returns-in-Ok : goal.returns-in-Ok
returns-in-Ok c =
    let hour = same_hour c.reading_in.ensures c.reading_in-2.ensures c.reading_in-3.ensures c.reading_in-4.ensures in
    words _ _ _ c.if-states-ne-READINGS.false c.if-readings-ne-READINGS.false c.if-answer-lt-WORDS_LENGTH.false c.if-not-known.false
    c.in-Ok.words (sym (c.in-Ok.ensures.0 ∙ ap recorded_of hour)) _ c.copy_from_slice.ensures.after

pub returns-in-Err : goal.returns-in-Err
returns-in-Err c =
    let hour = same_hour c.reading_in.ensures c.reading_in-2.ensures c.reading_in-3.ensures c.reading_in-4.ensures in
    rw c.number.ensures
    (refused _ _ _ c.if-states-ne-READINGS.false c.if-readings-ne-READINGS.false c.if-answer-lt-WORDS_LENGTH.false c.if-not-known.false
    _ (sym (c.in-Err.ensures.0 ∙ ap recorded_of hour)))
