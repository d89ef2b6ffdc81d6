-- NOx by mass, Equation F-24: of each operating hour its recorded NOx rate × heat input × time, in pounds; their sum, in tons.
use Rattle.std.specs.Prelude.{List}
use Rattle.std.proofs.Common.{lit<}
use Rattle.exact.specs.Fraction.{Fraction, ◌⊗◌, ◌÷◌, fraction, whole, sum_of}
use Rattle.exact.specs.Rounding.{recorded}
use Rattle.formulas.specs.Hour.{tenth, thousandth}
use Rattle.formulas.specs.declared.hour.Hour.{Hour}
use Rattle.totals.specs.Totals.{pounds_per_ton}

abbrev pub mass_pounds : Hour → Fraction
mass_pounds h = recorded thousandth h.figures.nox ⊗ recorded tenth h.figures.heat ⊗ fraction h.time 100 (lit< tt)

abbrev pub mass_tons : List Hour → Fraction
mass_tons hs = sum_of mass_pounds hs ÷ whole pounds_per_ton
