use Rattle.formulas.specs.Formulas.{rounded_figures}
use Rattle.formulas.proofs.rounded_figures.Goals as goal

pub returns : goal.returns
unfolding rounded_figures
returns c = cc
