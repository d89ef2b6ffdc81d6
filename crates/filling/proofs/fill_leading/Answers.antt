use Rattle.std.proofs.Common.{suc, ◌≡◌, ◌-◌, ◌++◌, drop, ap, ◌∙◌, arith}
use Rattle.columns.specs.Written.{leading}
use Rattle.filling.proofs.Fields.{leading_one}
use Rattle.filling.proofs.fill_leading.Goals as goal

pub loop-place-preserved : goal.loop-place-preserved
loop-place-preserved c =
    let l = c.loop-place in
    let e : suc (l.place - 1) ≡ l.place = omega arith in
    rw c.digit_or_blank.ensures
    (leading_one l.field (l.place - 1) l.rest (omega arith) ∙ ap (λ n. leading n l.rest ++ drop n l.field) e ∙ l.invariant)

pub returns : goal.returns
unfolding leading
returns c =
    let l = c.loop-place in
    let e : l.place ≡ 0 = omega arith in
    rw e at l.invariant
