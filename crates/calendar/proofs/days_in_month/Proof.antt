-- `calendar::days_in_month` is `days_in_month`.
use borrow.Author.Rules.{rules}
use borrow.Author.Tests.{eq-eqb, ne_eqb}
use mathlib.Core.Path.{sym, ◌∙◌}
use mathlib.Core.Logic.{inl, inr, ⊎_elim}
use Rattle.calendar.specs.Calendar.{days_in_month}
use Rattle.calendar.proofs.days_in_month.Statement.{statement}
use Rattle.calendar.proofs.days_in_month.Tie as tie

is-leap-requires : tie.Need-is_leap-requires
is-leap-requires c κs = search rules

returns : tie.Need-returns-then-is_leap
unfolding days_in_month
returns c = simp (eq-eqb _ 2 c.before.before.in-2.is, sym c.before.is_leap.ensures ∙ c.if-is_leap.true)

returns-2 : tie.Need-returns-else-is_leap
unfolding days_in_month
returns-2 c = simp (eq-eqb _ 2 c.before.before.in-2.is, sym c.before.is_leap.ensures ∙ c.if-is_leap.false)

returns-3 : tie.Need-returns-in-4
unfolding days_in_month
returns-3 c = ⊎_elim (λ e. rw e) (⊎_elim (λ e. rw e) (⊎_elim (λ e. rw e) (λ e. rw e))) c.in-4.is

returns-4 : tie.Need-returns-in_default
unfolding days_in_month
returns-4 c =
    simp (
      ne_eqb c.before.args.month 2 c.in_default.in_default-own.rest.0.1,
      ne_eqb c.before.args.month 4 (λ e. c.in_default.in_default-own.rest.1 (inl e)),
      ne_eqb c.before.args.month 6 (λ e. c.in_default.in_default-own.rest.1 (inr (inl e))),
      ne_eqb c.before.args.month 9 (λ e. c.in_default.in_default-own.rest.1 (inr (inr (inl e)))),
      ne_eqb c.before.args.month 11 (λ e. c.in_default.in_default-own.rest.1 (inr (inr (inr e)))),
    )

pub days_in_month_spec : {M : Type 1} → statement M
days_in_month_spec = tie.close (tie.spec is-leap-requires returns returns-2 returns-3 returns-4)
