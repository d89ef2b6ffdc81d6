-- A float is usable where 0.0 <= x and x < infinity, as floats compare, and a finite one has the value that is taken for it.
use Rattle.std.specs.Prelude.{ℕ, zero, suc, ◌*◌, ◌≡◌, refl, Bool, true, false, ◌&&◌, ◌||◌, ℤ, pos, eqb, ltb, Float}
use Rattle.std.proofs.Common.{sym, ◌∙◌, arith, lt-ltb, le-ltb, eq-eqb, ne_eqb}
use Rattle.std.proofs.Math.Bool.{and-true}
use Rattle.std.specs.Float.{nan, inf, fin}
use Rattle.std.specs.Float.Ieee.{up, down, lt, eq, le}
use Rattle.std.specs.Float.Ieee.Fits.{up_pos}
use Rattle.std.specs.Float.Ieee.Exact.{HasValue}
use Rattle.recorder.specs.Recording.{exact_of, usable}

-- the float 0.0, and plus infinity

abbrev pub float_zero : Float
float_zero = fin false 0 (pos 0)

abbrev pub infinity : Float
infinity = inf false

-- 0 is at most any number, and equal to 0 only
from_zero_up : (a n : ℕ) → a ≡ 0 → (ltb a n || (eqb a n && true)) ≡ true
from_zero_up a zero z = rw (le-ltb a 0 (omega arith), eq-eqb a 0 z)
from_zero_up a (suc n) z = rw (lt-ltb a (suc n) (omega arith))

at_zero : (a m : ℕ) (e : ℤ) → a ≡ 0 → eqb m 0 ≡ eqb a (m * up e * 1)
at_zero a zero e z = eq-eqb 0 0 refl ∙ sym (eq-eqb a (0 * up e * 1) (omega arith))
at_zero a (suc m) e z =
    let p = up_pos e in
    ne_eqb (suc m) 0 (λ (f : suc m ≡ 0). omega arith) ∙ sym (ne_eqb a (suc m * up e * 1) (λ (f : a ≡ suc m * up e * 1). omega arith))

pub usable_compared : (x : Float) → usable x ≡ (le float_zero x && lt x infinity)
unfolding le lt eq
usable_compared nan = refl
usable_compared (inf true) = refl
usable_compared (inf false) = refl
usable_compared (fin false m e) =
    let z : 0 * down e ≡ 0 = omega arith in
    rw (from_zero_up (0 * down e) (m * up e * 1) z)
usable_compared (fin true m e) =
    let z : 0 * down e ≡ 0 = omega arith in
    rw (at_zero (0 * down e) m e z, eq-eqb (0 * down e) 0 z, and-true, and-true)

-- the size of a finite float, whatever its sign
pub exact_value_lem : (s : Bool) (m : ℕ) (e : ℤ) → HasValue (fin s m e) s (exact_of (fin s m e)).num (exact_of (fin s m e)).den
exact_value_lem s m e = (refl, refl)
