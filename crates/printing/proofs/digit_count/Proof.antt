-- Digits are counted from the right: those counted and those of what is left are those of the whole, with the last one counted twice.
use Prim.Native.Nat.{suc, ◌+◌, ◌-◌, ◌≤◌}
use mathlib.Core.Path.{◌≡◌}
use native.Mathlib.Omega.{arith}
use Rattle.printing.specs.Printed.{digit_count_in, digit_count}
use Rattle.printing.specs.PrintedLaws.{count_one, count_more, digit_count_most}
use Rattle.printing.proofs.digit_count.Statement.{statement}
use Rattle.printing.proofs.digit_count.Tie as tie

abbrev invariant-loop : tie.invariant-loop-rest
invariant-loop value count₀ rest₀ count rest =
    (1 ≤ count) × ((count + rest ≤ value + 1) × (count + digit_count_in (value + 1 - count) rest ≡ digit_count value + 1))

abbrev decreases-loop : tie.decreases-loop-rest
decreases-loop value count₀ rest₀ count rest = rest

loop-holds : tie.Need-loop-rest-init invariant-loop decreases-loop
loop-holds c =
    let v = c.args.value in
    let e : v + 1 - 1 ≡ v = omega arith in
    (omega arith, (omega arith, rw e (omega arith)))

add-count : tie.Need-overflow_add-count invariant-loop decreases-loop
add-count c = omega arith

loop-less : tie.Need-loop-rest-smaller invariant-loop decreases-loop
loop-less c = omega arith

loop-again : tie.Need-loop-rest-preserved invariant-loop decreases-loop
loop-again c =
    let v = c.before.before.args.value in
    let l = c.before.loop-rest in
    let steps = v + 1 - (l.count + 1) in
    let e : v + 1 - l.count ≡ suc steps = omega arith in
    let i : l.count + digit_count_in (suc steps) l.rest ≡ digit_count v + 1 = rw e at l.invariant.1.1 in
    (omega arith, (omega arith, omega (arith, i, count_more steps l.rest (omega arith))))

returns : tie.Need-returns invariant-loop decreases-loop
returns c =
    let v = c.before.before.args.value in
    let l = c.before.loop-rest in
    let e : digit_count_in (v + 1 - l.count) l.rest ≡ 1 = count_one (v + 1 - l.count) l.rest (omega arith) in
    (omega arith, omega (arith, digit_count_most 19 v v (omega arith)))

pub digit_count_spec : {M : Type 1} → statement M
digit_count_spec =
    tie.close (tie.spec invariant-loop decreases-loop loop-holds add-count loop-less loop-again returns)
