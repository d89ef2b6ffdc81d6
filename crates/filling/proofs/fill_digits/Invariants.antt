use Rattle.std.proofs.Common.{◌≡◌, ◌/◌, ◌^◌, ◌++◌, length, drop}
use Rattle.columns.specs.Written.{digits_of}
use Rattle.filling.proofs.fill_digits.Given as goal

abbrev pub invariant-loop-place : goal.invariant-loop-place
invariant-loop-place l =
    (digits_of l.place l.rest ++ drop l.place l.field ≡ digits_of (length l.fn.field) l.value) × (l.rest / 10 ^ l.place ≡ l.value / 10 ^ length l.fn.field)
