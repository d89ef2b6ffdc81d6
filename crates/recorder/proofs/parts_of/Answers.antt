-- Sign, exponent field and digits of the pattern are the float's value.
use Rattle.std.proofs.Common.{sym, subst, arith, T}
use Rattle.recorder.proofs.FloatLaws.{unlike_parts, like_itself, negative_unusable, top_unusable, low_usable, high_usable}
use Rattle.recorder.proofs.parts_of.Goals as goal

pub returns-then-x : goal.returns-then-x
returns-then-x c = unlike_parts c.args.x c.if-x.true

pub float_to_bits-bits : goal.float_to_bits-bits
float_to_bits-bits c = like_itself c.args.x c.if-x.false

-- the format holds the float
pub returns-then-bits-gt-SIGN : goal.returns-then-bits-gt-SIGN
returns-then-bits-gt-SIGN c = negative_unusable c.args.x (subst T (sym c.well_formed.0.1) tt) c.if-bits-gt-SIGN.true

pub returns-in-2047 : goal.returns-in-2047
returns-in-2047 c = top_unusable c.args.x (subst T (sym c.well_formed.0.1) tt) c.in-2047.is

pub returns-in-0 : goal.returns-in-0
returns-in-0 c = low_usable c.args.x (subst T (sym c.well_formed.0.1) tt) c.if-bits-gt-SIGN.false c.in-0.is

pub returns-in_default-2 : goal.returns-in_default-2
returns-in_default-2 c =
    high_usable c.args.x (subst T (sym c.well_formed.0.1) tt) c.if-bits-gt-SIGN.false (λ z. omega arith) (λ z. omega arith)
