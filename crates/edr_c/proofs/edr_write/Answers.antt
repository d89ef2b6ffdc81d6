-- Six bytes are handed on as the name.
use Rattle.std.proofs.Common.{ap, ◌∙◌}
use Rattle.writer.specs.Written.{written_number}
use Rattle.edr_c.proofs.Filling.{no_name, named}
use Rattle.edr_c.proofs.edr_write.Goals as goal

pub returns-in_default : goal.returns-in_default
returns-in_default c = rw c.number.ensures (no_name _ _ _ _ _ c.in_default.ensures.1)

pub returns-in-Ok-write : goal.returns-in-Ok-write
returns-in-Ok-write c =
    let name = c.in-Ok.ensures.1 in
    let k = c.in-Ok-write.ensures in
    named _ _ _ _ _ c.in-Ok.letters _ _ name.same name.long (ap written_number k.0) k.1

pub returns-in-Err : goal.returns-in-Err
returns-in-Err c =
    let name = c.in-Ok.ensures.1 in
    let k = c.in-Err.ensures in
    named _ _ _ _ _ c.in-Ok.letters _ _ name.same name.long (c.number-in-Err.ensures ∙ ap written_number k.0) k.1
