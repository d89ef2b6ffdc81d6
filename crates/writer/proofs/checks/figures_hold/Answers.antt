-- Where the figures before it fit their columns, the last one decides.
use Rattle.std.proofs.Common.{◌≡◌, true, sym, ◌∙◌}
use Rattle.std.proofs.lemmas.Bool.{false≢true}
use Rattle.layout.specs.Values.{heat_rate, so2_rate, nox_rate, co2_rate, within}
use Rattle.formulas.specs.declared.hour.Figures.{Figures}
use Rattle.writer.specs.Refusals.{figures_hold}
use Rattle.writer.proofs.checks.figures_hold.Goals as goal
use Rattle.writer.proofs.checks.figures_hold.Goals.{then-within, else-within, then-within-2, else-within-2}

last_figure : (f : Figures) → within heat_rate f.heat ≡ true → within so2_rate f.so2 ≡ true → within nox_rate f.nox ≡ true →
    within co2_rate f.co2 ≡ figures_hold f
unfolding figures_hold
last_figure f h s n = rw (h, s, n)

pub returns-then-within-3 : goal.returns-then-within-3
returns-then-within-3 c =
    let f = c.args.f in
    c.within-then-within-3.ensures
    ∙ elim c.if-within-2.branch [
      | then-within-2 w ↦
          elim c.if-within.branch [
            | then-within v ↦
                last_figure f
                (sym c.within.ensures ∙ v.if-within.true)
                (sym v.within-then-within.ensures ∙ sym v.value-is ∙ w.if-within-2.true)
                (sym w.within-then-within-2.ensures ∙ sym w.value-is ∙ c.if-within-3.true)
            | else-within v ↦ absurd (false≢true (sym v.if-within.false ∙ sym v.value-is ∙ w.if-within-2.true))
          ]
      | else-within-2 w ↦ absurd (false≢true (sym w.if-within-2.false ∙ sym w.value-is ∙ c.if-within-3.true))
    ]
