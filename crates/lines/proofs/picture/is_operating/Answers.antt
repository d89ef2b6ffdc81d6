-- A 300 line of its date that fits its picture and has a time above 0.
use Rattle.std.proofs.Common.{sym, ◌∙◌}
use Rattle.lines.proofs.Pictures.{fitting_operation}
use Rattle.lines.proofs.Told.{none_told}
use Rattle.lines.proofs.picture.is_operating.Goals as goal
use Rattle.lines.proofs.picture.is_operating.Goals.{then-is_ok, else-is_ok}
use Rattle.std.proofs.lemmas.Bool.{false≢true}

pub returns-then-is_pictured : goal.returns-then-is_pictured
returns-then-is_pictured c e =
    elim c.if-is_ok.branch [
      | then-is_ok w ↦
          fitting_operation _ _ _ (w.is_pictured.ensures (sym w.value-is ∙ c.if-is_pictured.true))
          (none_told _ _ c.try_date.ensures (sym c.is_ok.ensures.value ∙ w.if-is_ok.true)) (sym c.ranged.ensures ∙ e)
      | else-is_ok w ↦ absurd (false≢true (sym w.if-is_ok.false ∙ sym w.value-is ∙ c.if-is_pictured.true))
    ]
