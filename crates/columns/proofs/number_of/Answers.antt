use Rattle.columns.specs.Number.{number_of}
use Rattle.std.proofs.Common.{rules, inl, inr}
use Rattle.columns.proofs.number_of.Goals as goal

pub returns-in-Number : goal.returns-in-Number
unfolding number_of
returns-in-Number c = search rules

pub returns-in-Malformed : goal.returns-in-Malformed
unfolding number_of
returns-in-Malformed c = elim c.in-Malformed.is [ inl e ↦ rw e | inr e ↦ rw e ]
