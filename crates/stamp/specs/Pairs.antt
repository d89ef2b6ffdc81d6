-- Two columns of a stamp, YY, MM, DD or HH, as the code reads them.
use Rattle.std.specs.Prelude.{ℕ, cond, nat_lt}
use Rattle.columns.specs.declared.Field.{Field}
use Rattle.columns.specs.declared.Field.TheVariants.{Malformed, Number}

abbrev pub pair_width : ℕ
pair_width = 2

-- what two columns hold that a number was read in: 100 or more tells that they are not digits
abbrev pub pair_field : ℕ → Field
pair_field k = cond (nat_lt k 100) (Number k) Malformed
