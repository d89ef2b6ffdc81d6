-- The refusals 31 to 33 as one pass over the hours finds them. Only contracts inside the writer name these; proofs/FirstRefusal.antt
-- proves that the pass gives what refusal_of says.
use Rattle.std.specs.Prelude.{ℕ, zero, suc, min, List, Bool, true, false}
use Rattle.exact.specs.Logic.{ranked}
use Rattle.sheet.specs.Sheet.{sheet_hour}
use Rattle.sheet.specs.SheetTests.{every, kinds_hold, hours_rise, readings_hold}
use Rattle.writer.specs.Refusals.{figures_fit}
use Rattle.sheet.specs.declared.SheetHour.{SheetHour}

-- 32 or 33 where the readings or the figures do not hold; 0 is none
abbrev pub values_refusal : Bool → Bool → ℕ
values_refusal readings figures = elim readings [ false ↦ 32 | true ↦ elim figures [ false ↦ 33 | true ↦ 0 ] ]

unfoldable pub hour_refusal : SheetHour → ℕ
hour_refusal h = values_refusal (readings_hold h) (figures_fit h)

unfoldable pub hours_refusal : List SheetHour → ℕ
hours_refusal hs = values_refusal (every readings_hold hs) (every figures_fit hs)

-- the one of two refusals that is tried first
unfoldable pub first_tried : ℕ → ℕ → ℕ
first_tried zero b = b
first_tried (suc a) zero = suc a
first_tried (suc a) (suc b) = suc (min a b)

-- 31 where the kinds or the hours are wrong, and else the refusal of the values
unfoldable pub in_order : Bool → Bool → ℕ → ℕ
in_order kinds rises values = elim kinds [ false ↦ 31 | true ↦ elim rises [ false ↦ 31 | true ↦ values ] ]

-- of so many hours, from hour k on: the hours before it leave those from `from` on, and gave the refusal `found`
unfoldable pub refusal_from : ℕ → List ℕ → ℕ → ℕ → ℕ → ℕ → ℕ
refusal_from below sheet k left from found =
    let hours = ranked (sheet_hour sheet) k left in in_order (kinds_hold sheet k left) (hours_rise below from hours) (first_tried found (hours_refusal hours))
