-- The kind of the word that is looked at is that of the sheet's, at its place in the hour.
use Rattle.std.proofs.Common.{sym, ap, ◌∙◌}
use Rattle.sheet.specs.declared.Word.{Word}
use Rattle.sheet.proofs.Words.{kinds_more, kinds_stop}
use Rattle.sheet.proofs.kinds_hold.Goals as goal

pub returns-then-word_apart-j : goal.returns-then-word_apart-j
returns-then-word_apart-j c =
    let kind = ap (λ (w : Word). w.kind) c.word_apart.ensures in
    kinds_stop c.args.sheet.now c.args.k c.loop-j.j c.loop-j-test.true (λ e. c.if-word_apart-j.true (kind ∙ e)) ∙ c.loop-j.invariant

pub loop-j-preserved : goal.loop-j-preserved
loop-j-preserved c =
    let kind = ap (λ (w : Word). w.kind) c.word_apart.ensures in
    kinds_more c.args.sheet.now c.args.k c.loop-j.j c.loop-j-test.true (sym kind ∙ c.if-word_apart-j.false) ∙ c.loop-j.invariant
