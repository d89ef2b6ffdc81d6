use Rattle.std.proofs.Common.{◌≡◌, ℕ, ◌+◌, ◌-◌, length, take, drop, ap, ◌∙◌, arith, length-drop, length-take-le}
use lib.ListN.{length-take}
use Rattle.columns.specs.Number.{point_in}
use Rattle.columns.specs.Worth.{low_from, fixed_worth}
use Rattle.columns.proofs.ColumnsLaws.{part_end}
use Rattle.columns.proofs.Lows.{low_none, low_behind}
use Rattle.columns.proofs.fixed_worth.Goals as goal

pub low_digits-whole-requires : goal.low_digits-whole-requires
low_digits-whole-requires c = low_none _ (rw length-take (omega arith))

pub low_digits-requires : goal.low_digits-requires
low_digits-requires c =
    let l = c.args.bytes.now in
    let d = c.args.decimals in
    let p = point_in l d in
    let e : length (take p l) ≡ p = length-take-le p l (omega arith) in
    let n : length (take (length l - (p + 1)) (drop (p + 1) l)) ≡ d = rw (part_end (p + 1) l, length-drop) (omega arith) in
    rw n (low_behind c.low_digits-whole.result p d (rw e at c.low_digits-whole.ensures.1) (omega arith))

pub returns : goal.returns
unfolding fixed_worth
returns c =
    let l = c.args.bytes.now in
    let p = point_in l c.args.decimals in
    c.low_digits.ensures.0
    ∙ ap (low_from c.low_digits-whole.result) (part_end (p + 1) l)
    ∙ ap (λ (v : ℕ). low_from v (drop (p + 1) l)) c.low_digits-whole.ensures.0
