use Rattle.std.proofs.Common.{◌<◌, sym, ap, ◌∙◌, arith}
use Rattle.layout.specs.declared.Shape.{Shape}
use Rattle.sheet.specs.Sheet.{sheet_hour_count}
use Rattle.sheet.proofs.TestLaws.{hour_true}
use Rattle.writer.proofs.OnePass.{pass_whole, pass_kinds, pass_hour, pass_more, pass_end}
use Rattle.writer.proofs.checks.try_hours.Goals as goal

pub loop-k-init : goal.loop-k-init
loop-k-init c = pass_whole _ _ _

pub returns-then-not-kinds_hold : goal.returns-then-not-kinds_hold
returns-then-not-kinds_hold c =
    let n = ap (λ (s : Shape). s.hours) c.shape_of-k-end.ensures in
    let l = c.loop-k in
    let inside : l.k < sheet_hour_count c.args.sheet.now = omega (arith, n) in
    pass_kinds _ _ _ l.k l.from _ inside (sym c.kinds_hold.ensures ∙ c.if-not-kinds_hold.true) ∙ l.invariant

pub returns-then-not-hour_holds : goal.returns-then-not-hour_holds
returns-then-not-hour_holds c =
    let n = ap (λ (s : Shape). s.hours) c.shape_of-k-end.ensures in
    let l = c.loop-k in
    let inside : l.k < sheet_hour_count c.args.sheet.now = omega (arith, n) in
    pass_hour _ _ _ l.k l.from _ c.hour_at-h.ensures inside (sym c.hour_holds.ensures ∙ c.if-not-hour_holds.true) ∙ l.invariant

pub overflow_add-from : goal.overflow_add-from
overflow_add-from c = omega (arith, hour_true c.args.below c.loop-k.from c.hour_at-h.result (sym c.hour_holds.ensures ∙ c.if-not-hour_holds.false))

pub loop-k-preserved : goal.loop-k-preserved
loop-k-preserved c =
    let n = ap (λ (s : Shape). s.hours) c.shape_of-k-end.ensures in
    let l = c.loop-k in
    let inside : l.k < sheet_hour_count c.args.sheet.now = omega (arith, n) in
    let kinds = sym c.kinds_hold.ensures ∙ c.if-not-kinds_hold.false in
    let held = sym c.hour_holds.ensures ∙ c.if-not-hour_holds.false in
    rw (c.first_tried-found.ensures, c.try_hour.ensures) (pass_more _ _ _ l.k l.from _ c.hour_at-h.ensures inside kinds held ∙ l.invariant)

pub returns : goal.returns
returns c =
    let n = ap (λ (s : Shape). s.hours) c.shape_of-k-end.ensures in
    let l = c.loop-k in
    pass_end _ _ (sheet_hour_count c.args.sheet.now) l.k l.from _ (omega (arith, n)) ∙ l.invariant
