-- Half up over a power of two, and 0 where there are too many binary places.
use Prim.Native.Nat.{ℕ, ◌-◌, ◌*◌, ◌≤◌, ◌<◌, ◌^◌}
use mathlib.Core.Path.{◌≡◌, sym, ap, ◌∙◌}
use native.Mathlib.Nat.{mul-le-mul, mul-pos, le_of_lt}
use native.Mathlib.Omega.{arith}
use borrow.Author.Rules.{rules}
use lib.Pow.{pow_pos}
use Rattle.exact.specs.Rounding.{nearest}
use Rattle.recorder.specs.Parts.{float_scale, UnitRoom}
use Rattle.recorder.proofs.CountLaws.{count_shifted, count_gone, units_most, divisor_room, divisor_whole}
use Rattle.recorder.specs.declared.Parts.{Parts}
use Rattle.recorder.specs.declared.RecordingUnit.{RecordingUnit}
use Rattle.recorder.proofs.count_at.Statement.{statement}
use Rattle.recorder.proofs.count_at.Tie as tie

-- the place where the significand has fewer than `gone` binary places
abbrev few : tie.After-struct_known-5-1 → tie.Else-places-u
few c = c.before.before.before

abbrev start : tie.Else-places-u → tie.Start
start c = c.before.before.before

abbrev p : tie.Start → Parts
p c = c.args.p

abbrev u : tie.Start → RecordingUnit
u c = c.args.u

abbrev places : tie.Start → ℕ
places c = float_scale - (p c).exponent

short : (c : tie.Start) → (p c).significand < 2 ^ 53
short c = c.requires.0

below : (c : tie.Start) → (p c).exponent < float_scale
below c = c.requires.1

room : (c : tie.Start) → UnitRoom (u c)
room c = c.requires.2

shifted : (c : tie.Start) → nearest ((u c).den * (p c).significand) ((u c).num * 2 ^ places c)
    ≡ nearest ((p c).significand * 2 ^ (p c).exponent * (u c).den) ((u c).num * 2 ^ float_scale)
shifted c = count_shifted (p c).significand (p c).exponent float_scale (u c).num (u c).den (le_of_lt (below c))

upper_room : (c : tie.Start) → (u c).den * (p c).significand ≤ 10 * 2 ^ 53
upper_room c = mul-le-mul (room c).den_most (le_of_lt (short c))

lower_room : (c : tie.Else-places-u) → 2 * ((u (start c)).num * 2 ^ places (start c)) ≤ 2 ^ 63
lower_room c = let s = start c in divisor_room (places s) (u s).gone (u s).num (room s).fits c.if-places-u.false

divisor_least : (c : tie.Start) → 0 < (u c).num * 2 ^ places c
divisor_least c = mul-pos (room c).num_least (pow_pos (places c))

sub-places : tie.Need-overflow_sub-places
sub-places c = search rules

returns : tie.Need-returns-then-places-u
returns c =
    let s = c.before.before.before in (
      sym (count_gone (p s).significand (places s) (u s).gone (u s).num (u s).den (room s).den_least (short s) (room s).vanishes c.if-places-u.true)
          ∙ shifted s,
      omega arith,
    )

mul-half-up : tie.Need-overflow_mul-u
mul-half-up c = omega (arith, upper_room (start c.before.before))

shl-half-up : tie.Need-overflow_shl-u
shl-half-up c = search rules

half-up-requires : tie.Need-half_up-requires
half-up-requires c κs =
    let s = start (few c) in
    let whole = divisor_whole (places s) (u s).num (lower_room (few c)) in
    rw whole (divisor_least s, omega (arith, upper_room s, lower_room (few c)))

returns-2 : tie.Need-returns
returns-2 c =
    let e = few c.before in
    let s = start e in
    let n = c.half_up.ensures ∙ ap (λ (d : ℕ). nearest ((u s).den * (p s).significand) d) (divisor_whole (places s) (u s).num (lower_room e)) in (
      n ∙ shifted s,
      rw n (units_most (p s).significand (u s).den ((u s).num * 2 ^ places s) (divisor_least s) (room s).den_least (short s)),
    )

pub count_at_spec : {M : Type 1} → statement M
count_at_spec = tie.close (tie.spec sub-places returns mul-half-up shl-half-up half-up-requires returns-2)
