-- A year's record, or the refusal, in long enough slices.
use Rattle.std.specs.Prelude.{Ok, Err}
use Prim.Native.Nat.{ℕ, ◌≤◌, ◌<◌}
use mathlib.Core.Path.{◌≡◌}
use mathlib.Core.List.{List, ◌++◌}
use mathlib.Core.Bool.{true, false, ◌||◌}
use Rattle.std.proofs.Math.Bool.{or-true}
use lib.Dec.{ltb}
use native.Mathlib.Omega.{arith}
use lib.ListN.{length, drop, set}
use borrow.Author.Tests.{lt-ltb, le-ltb}
use Rattle.annual.specs.Joined.{joined_of, year_numbers}
use Rattle.annual.specs.declared.YearToDate.{YearToDate}
use Rattle.edr_c.specs.Boundary.{answer_length, year_length, quarter_in, year_in, too_short, year_code, year_filled}
use Rattle.edr_c.proofs.Filling.{set_front}

module _ (previous answer : List ℕ) (year quarter : ℕ) (buffer : List ℕ) where
  short : too_short previous answer buffer ≡ true →
      (2 ≡ year_code previous answer year quarter buffer) × (buffer ≡ year_filled previous answer year quarter buffer)
  unfolding year_code year_filled
  short e = (rw (e, year_code), rw (e, year_filled))

  pub short_previous : length previous < year_length →
      (2 ≡ year_code previous answer year quarter buffer) × (buffer ≡ year_filled previous answer year quarter buffer)
  short_previous h = short (rw (lt-ltb (length previous) year_length h))

  pub short_answer : length answer < answer_length →
      (2 ≡ year_code previous answer year quarter buffer) × (buffer ≡ year_filled previous answer year quarter buffer)
  short_answer h = short (rw (lt-ltb (length answer) answer_length h, or-true (ltb (length previous) year_length)))

  pub short_record : length buffer < year_length →
      (2 ≡ year_code previous answer year quarter buffer) × (buffer ≡ year_filled previous answer year quarter buffer)
  short_record h =
      short (rw (lt-ltb (length buffer) year_length h) (or-true (ltb (length previous) year_length || ltb (length answer) answer_length)))

  module _ (p : year_length ≤ length previous) (a : answer_length ≤ length answer) (b : year_length ≤ length buffer) where
    long : too_short previous answer buffer ≡ false
    long = rw (le-ltb (length previous) year_length p, le-ltb (length answer) answer_length a, le-ltb (length buffer) year_length b)

    pub joined : (y : YearToDate) → joined_of (year_in previous) year quarter (quarter_in answer) ≡ Ok y →
        (front : List ℕ) → front ≡ year_numbers (Ok y) →
        (1 ≡ year_code previous answer year quarter buffer) × (front ++ drop year_length buffer ≡ year_filled previous answer year quarter buffer)
    unfolding year_code year_filled
    joined y e front f = (rw (long, year_code, e), rw (long, year_filled, e, f))

    pub refused : (number : ℕ) → joined_of (year_in previous) year quarter (quarter_in answer) ≡ Err number →
        (0 ≡ year_code previous answer year quarter buffer) × (set buffer 0 number ≡ year_filled previous answer year quarter buffer)
    unfolding year_code year_filled
    refused number e = (rw (long, year_code, e), rw (long, year_filled, e) (set_front number buffer (omega arith)))
