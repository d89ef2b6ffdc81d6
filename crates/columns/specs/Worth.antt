-- What the columns of a field are worth, each byte by its low four bits: the number in a field that holds one, and 0 in a blank one.
use Rattle.std.specs.Prelude.{ℕ, zero, suc, ◌+◌, ◌*◌, ◌%◌, List, [], ◌∷◌, take, drop}
use Rattle.columns.specs.Number.{point_in}

-- bytes as digits, behind digits worth `before`; a blank counts as 0
unfoldable pub low_from : ℕ → List ℕ → ℕ
low_from before [] = before
low_from before (b ∷ bs) = low_from (before * 10 + b % 16) bs

-- with d decimals: the point is passed over
unfoldable pub fixed_worth : ℕ → List ℕ → ℕ
fixed_worth d bs = low_from (low_from 0 (take (point_in bs d) bs)) (drop (point_in bs d + 1) bs)

-- of a field with d decimals
unfoldable pub worth_of : ℕ → List ℕ → ℕ
worth_of zero bs = low_from 0 bs
worth_of (suc d) bs = fixed_worth (suc d) bs
