-- Laws of decimal numbers: they are read back, and have no needless zero in front.
use Rattle.std.specs.Prelude.{ℕ, zero, suc, ◌*◌, ◌/◌, ◌≤◌, ◌<◌, ◌^◌, ◌≡◌, refl}
use Rattle.std.proofs.Common.{arith, pow-suc, lt-ltb, le-ltb}
use Rattle.std.proofs.Math.Decide.{dec_lt}
use Rattle.columns.specs.Number.{digits_only}
use Rattle.columns.proofs.WrittenLaws.{read_digits_written}
use Rattle.columns.specs.declared.Field.TheVariants.{Number}
use Rattle.printing.specs.Printed.{digit_count_in, digit_count, decimal_of}

pub count_one : (steps v : ℕ) → v < 10 → digit_count_in steps v ≡ 1
unfolding digit_count_in
count_one zero v h = refl
count_one (suc steps) v h = rw (lt-ltb v 10 h, digit_count_in)

pub count_more : (steps v : ℕ) → 10 ≤ v → digit_count_in (suc steps) v ≡ suc (digit_count_in steps (v / 10))
unfolding digit_count_in
count_more steps v h = rw (le-ltb v 10 h, digit_count_in)

-- a number below 10^(k + 1) has at most k + 1 digits
pub digit_count_most : (k steps v : ℕ) → v < 10 ^ suc k → digit_count_in steps v ≤ suc k
unfolding digit_count_in
digit_count_most k zero v h = omega arith
digit_count_most zero (suc steps) v h = omega (arith, count_one (suc steps) v (omega (arith, pow-suc 10 0)))
digit_count_most (suc k) (suc steps) v h = go (digit_count_most k steps (v / 10) (omega (arith, pow-suc 10 (suc k)))) (dec_lt v 10)
  where
    go : digit_count_in steps (v / 10) ≤ suc k → Dec (v < 10) → digit_count_in (suc steps) v ≤ suc (suc k)
    go ih (yes small) = omega (arith, count_one (suc steps) v small)
    go ih (no large) = omega (arith, count_more steps v (omega arith))

-- the digits hold the number
count_holds : (steps v : ℕ) → v ≤ steps → v < 10 ^ digit_count_in steps v
unfolding digit_count_in
count_holds zero v h = omega arith
count_holds (suc steps) v h = go (dec_lt v 10) (count_holds steps (v / 10))
  where
    go : Dec (v < 10) → (v / 10 ≤ steps → v / 10 < 10 ^ digit_count_in steps (v / 10)) → v < 10 ^ digit_count_in (suc steps) v
    go (yes small) ih = rw (count_one (suc steps) v small) small
    go (no large) ih = rw (count_more steps v (omega arith)) (omega (arith, pow-suc 10 (digit_count_in steps (v / 10)), ih (omega arith)))

pub decimal_back : (v : ℕ) → digits_only (decimal_of v) ≡ Number v
decimal_back v = read_digits_written (digit_count v) v (count_holds v v (omega arith))

-- one digit fewer does not hold the number
fewest : (steps v : ℕ) → 10 ≤ v → v ≤ steps → 10 ^ digit_count_in steps v ≤ v * 10
fewest zero v m h = absurd (omega arith)
fewest (suc steps) v m h =
    rw (count_more steps v m) (omega (arith, pow-suc 10 (digit_count_in steps (v / 10)), go (dec_lt (v / 10) 10) (fewest steps (v / 10))))
  where
    go : Dec (v / 10 < 10) → (10 ≤ v / 10 → v / 10 ≤ steps → 10 ^ digit_count_in steps (v / 10) ≤ v / 10 * 10) → 10 ^ digit_count_in steps (v / 10) ≤ v
    go (yes small) ih = rw (count_one steps (v / 10) small) m
    go (no large) ih = omega (arith, ih (omega arith) (omega arith))

pub no_needless_zero : (v : ℕ) → 10 ≤ v → 10 ^ digit_count v ≤ v * 10
no_needless_zero v m = fewest v v m (omega arith)
