use Rattle.std.proofs.Common.{◌∙◌, sym, rules, tests, arith, length-drop}
use Rattle.std.proofs.lemmas.Iterator.{YieldsList-from_slice}
use Rattle.std.proofs.lemmas.Iterator.Search.{position_from_yields_List}
use Rattle.columns.proofs.ColumnsLaws.{part_end}
use Rattle.columns.proofs.Reading.{other, whole_at, whole_none, room_none}
use Rattle.columns.proofs.whole_number.Goals as goal

pub digits_behind-requires : goal.digits_behind-requires
digits_behind-requires c = rw part_end (room_none _ (rw length-drop (omega arith)))

pub returns-in-Some : goal.returns-in-Some
returns-in-Some c =
    let bytes = YieldsList-from_slice c.args.bytes.now (cc) in
    let e = position_from_yields_List other _ _ c.position.result c.position.ensures.ran bytes (λ x b q k. search (rules, tests)) in
    c.digits_behind.ensures ∙ whole_at _ _ (sym e ∙ c.in-Some.is)

pub returns-in-None : goal.returns-in-None
returns-in-None c =
    let bytes = YieldsList-from_slice c.args.bytes.now (cc) in
    let e = position_from_yields_List other _ _ c.position.result c.position.ensures.ran bytes (λ x b q k. search (rules, tests)) in
    whole_none _ (sym e ∙ c.in-None.is)
