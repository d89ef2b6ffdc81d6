use Rattle.std.proofs.Common.{refl, arith, lit<}
use Rattle.formulas.proofs.FormulaLaws.{heat_factor}
use Rattle.formulas.proofs.Equations.{told}
use Rattle.formulas.proofs.Formula.of.Goals as goal

-- each arm has its equation's numbers, reduced by what its units and its factor have in common
pub returns-in-Heat : goal.returns-in-Heat
returns-in-Heat c =
    let h = heat_factor c.args.r c.requires in
    told c.args.r c.in-Heat.is (
      record {
        form = refl;
        left = refl;
        right = refl;
        common = 1000;
        above = lit< tt;
        upper = rw h.0 (omega arith);
        lower = rw h.1 (omega arith);
      },
      omega arith,
    )

pub returns-in-So2 : goal.returns-in-So2
returns-in-So2 c =
    told c.args.r c.in-So2.is (
      record { form = refl; left = refl; right = refl; common = 10_000; above = lit< tt; upper = omega arith; lower = omega arith },
      omega arith,
    )

pub returns-in-Nox : goal.returns-in-Nox
returns-in-Nox c =
    told c.args.r c.in-Nox.is (
      record { form = refl; left = refl; right = refl; common = 1_000_000; above = lit< tt; upper = omega arith; lower = omega arith },
      omega arith,
    )

pub returns-in-Co2 : goal.returns-in-Co2
returns-in-Co2 c =
    told c.args.r c.in-Co2.is (
      record { form = refl; left = refl; right = refl; common = 10_000; above = lit< tt; upper = omega arith; lower = omega arith },
      omega arith,
    )
