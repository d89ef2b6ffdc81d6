-- No digit is left: a blank.
use Rattle.filling.proofs.Fields.{blank_byte, digit_byte}
use Rattle.filling.proofs.digit_or_blank.Goals as goal

pub returns-then-value-eq0 : goal.returns-then-value-eq0
returns-then-value-eq0 c = blank_byte c.args.value c.if-value-eq0.true
