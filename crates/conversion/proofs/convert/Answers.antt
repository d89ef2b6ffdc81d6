-- The refusal first, and then the words.
use Rattle.std.proofs.lemmas.Result.{err_from_is_err_and}
use Rattle.conversion.proofs.Answer.{refused, done}
use Rattle.conversion.proofs.convert.Goals as goal

pub returns-in_err-try_sheet : goal.returns-in_err-try_sheet
returns-in_err-try_sheet c =
    let p = err_from_is_err_and c.from_residual.result c.from_residual.ensures.1 in
    rw (p.1, p.2) (refused _ _ c.in_err-try_sheet.ensures)

pub returns : goal.returns
returns c = done _ _ c.in_ok-try_sheet.ensures c.recode.ensures
