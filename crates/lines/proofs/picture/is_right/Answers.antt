-- A line that fits its type's picture, has the date and GAS of its 200 line and numbers of their ranges has no fault.
use Rattle.std.proofs.Common.{sym, ◌∙◌}
use Rattle.lines.proofs.RightLines.{line_cut, line_long, date_room, gas_room, right_line}
use Rattle.lines.proofs.Told.{none_told}
use Rattle.lines.proofs.picture.is_right.Goals as goal
use Rattle.lines.proofs.picture.is_right.Goals.{then-is_ok, else-is_ok}
use Rattle.std.proofs.lemmas.Bool.{false≢true}

pub slice_bounds-line-end : goal.slice_bounds-line-end
slice_bounds-line-end c = line_cut _ _ _ _ c.requires.known.rowed (c.is_pictured.ensures c.if-not-is_pictured.false)

pub try_ranked_date-requires : goal.try_ranked_date-requires
try_ranked_date-requires c =
    date_room _ _ _ _ c.requires.known.rowed (c.is_pictured.ensures c.if-not-is_pictured.false) _ c.requires.length_of_in_bounds.1

pub try_gas-requires : goal.try_gas-requires
try_gas-requires c =
    gas_room _ _ _ _ c.requires.known.rowed (c.is_pictured.ensures c.if-not-is_pictured.false) _ c.requires.length_of_in_bounds.1

pub in_ranges-requires : goal.in_ranges-requires
in_ranges-requires c = line_long _ _ _ _ c.requires.known.rowed (c.is_pictured.ensures c.if-not-is_pictured.false)

pub returns-then-is_ok-2 : goal.returns-then-is_ok-2
returns-then-is_ok-2 c e =
    elim c.if-is_ok.branch [
      | then-is_ok w ↦
          right_line _ _ _ _ c.requires.known.rowed (c.is_pictured.ensures c.if-not-is_pictured.false) _ c.requires.length_of_in_bounds.1
          (none_told _ _ c.try_ranked_date.ensures (sym c.is_ok.ensures.value ∙ w.if-is_ok.true))
          (none_told _ _ w.try_gas.ensures (sym w.is_ok-then-is_ok.ensures.value ∙ sym w.value-is ∙ c.if-is_ok-2.true))
          (sym c.in_ranges.ensures ∙ e)
      | else-is_ok w ↦ absurd (false≢true (sym w.if-is_ok.false ∙ sym w.value-is ∙ c.if-is_ok-2.true))
    ]
