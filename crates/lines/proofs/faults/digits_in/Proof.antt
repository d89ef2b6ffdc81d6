-- Columns that are digits only, as a number.
use mathlib.Core.Path.{ap, ◌∙◌}
use Rattle.columns.specs.Number.{number_of}
use Rattle.lines.specs.LineFaults.{digits_in}
use borrow.Author.Rules.{rules}
use Rattle.lines.proofs.faults.digits_in.Statement.{statement}
use Rattle.lines.proofs.faults.digits_in.Tie as tie

read-digits-requires : tie.Need-read_digits-requires
read-digits-requires c κs = search rules

number-of-requires : tie.Need-number_of-requires
number-of-requires c κs = search rules

returns : tie.Need-returns
unfolding digits_in
returns c = c.number_of.ensures ∙ ap number_of c.before.read_digits.ensures.0

pub digits_in_spec : {M : Type 1} → statement M
digits_in_spec = tie.close (tie.spec read-digits-requires number-of-requires returns)
