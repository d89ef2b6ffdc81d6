use Rattle.std.proofs.Common.{◌∙◌}
use Rattle.formulas.proofs.Equations.{rounds}
use Rattle.formulas.proofs.rounded_value.Goals as goal

pub returns-in-Product : goal.returns-in-Product
returns-in-Product c = c.half_up.ensures ∙ rounds _ _ _ _ c.requires c.of-f.ensures.0 c.in-Product.is

pub returns-in-Quotient : goal.returns-in-Quotient
returns-in-Quotient c = c.half_up-in-Quotient.ensures ∙ rounds _ _ _ _ c.requires c.of-f.ensures.0 c.in-Quotient.is
