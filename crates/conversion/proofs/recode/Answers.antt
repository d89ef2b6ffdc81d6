use Rattle.std.proofs.Common.{◌<◌, length, ◌∙◌, arith}
use Rattle.conversion.proofs.ConversionLaws.{recode_more, recode_end}
use Rattle.conversion.proofs.recode.Goals as goal

pub loop-i-preserved : goal.loop-i-preserved
loop-i-preserved c =
    let l = c.loop-i in
    let inside : l.i < length l.sheet = omega arith in
    rw c.recoded_word.ensures (recode_more l.sheet l.i inside ∙ l.invariant)

pub returns : goal.returns
returns c = let l = c.loop-i in recode_end l.sheet l.i (omega arith) ∙ l.invariant
