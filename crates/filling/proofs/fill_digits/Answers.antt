use Rattle.std.proofs.Common.{suc, ◌≡◌, ◌-◌, ◌/◌, ◌^◌, ◌++◌, drop, sym, ap, ◌∙◌, arith}
use native.Mathlib.Nat.{div-one}
use Rattle.columns.specs.Written.{digits_of}
use Rattle.filling.proofs.Fields.{digits_one, rest_one}
use Rattle.filling.proofs.fill_digits.Goals as goal

pub loop-place-preserved : goal.loop-place-preserved
loop-place-preserved c =
    let l = c.loop-place in
    let e : suc (l.place - 1) ≡ l.place = omega arith in (
      digits_one l.field (l.place - 1) l.rest (omega arith) ∙ ap (λ n. digits_of n l.rest ++ drop n l.field) e ∙ l.invariant.0,
      rest_one (l.place - 1) l.rest ∙ ap (λ n. l.rest / 10 ^ n) e ∙ l.invariant.1,
    )

pub returns : goal.returns
unfolding digits_of
returns c =
    let l = c.loop-place in
    let e : l.place ≡ 0 = omega arith in
    (rw e at l.invariant.0, sym (div-one l.rest) ∙ rw e at l.invariant.1)
