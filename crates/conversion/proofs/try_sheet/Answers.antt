use Rattle.std.proofs.Common.{refl, sym, ◌∙◌, eq-eqb, ne_eqb}
use Rattle.std.proofs.lemmas.Bool.{le-leb, lt-leb}
use Rattle.conversion.specs.Conversion.{kind_right, flow_right}
use Rattle.conversion.proofs.ConversionLaws.{each_end}
use Rattle.conversion.proofs.Words.{told, tried_wrong, tried_right, tried_with, flows_ended}
use Rattle.conversion.proofs.try_sheet.Goals as goal
use Rattle.conversion.proofs.try_sheet.Goals.{then-sheet-ne0-via-then-sheet-ne0, then-sheet-ne0-via-else-sheet-ne0+then-sheet-gt-MOST_HOURS}

pub returns-then-sheet-ne0 : goal.returns-then-sheet-ne0
returns-then-sheet-ne0 c =
    elim c.then-sheet-ne0.branch [
      | then-sheet-ne0-via-then-sheet-ne0 w ↦ told _ (ne_eqb _ 0 w.if-sheet-ne0.true) refl refl refl
      | then-sheet-ne0-via-else-sheet-ne0+then-sheet-gt-MOST_HOURS w ↦
          told _ (eq-eqb _ 0 w.if-sheet-ne0.false) (lt-leb _ _ w.if-sheet-gt-MOST_HOURS.true) refl refl
    ]

pub loop-i-init : goal.loop-i-init
loop-i-init c = record { kinds = refl; thousands = refl }

pub returns-then-not-kind_right : goal.returns-then-not-kind_right
returns-then-not-kind_right c =
    let wrong = tried_wrong kind_right _ c.loop-i.i c.loop-i-test.true (sym c.kind_right.ensures ∙ c.if-not-kind_right.true) in
    told _ (eq-eqb _ 0 c.if-sheet-ne0.false) (le-leb _ _ c.if-sheet-gt-MOST_HOURS.false) (sym c.loop-i.invariant.kinds ∙ wrong) refl

pub loop-i-preserved : goal.loop-i-preserved
loop-i-preserved c =
    let l = c.loop-i in
    let right = tried_right kind_right _ l.i c.loop-i-test.true (sym c.kind_right.ensures ∙ c.if-not-kind_right.false) in
    record {
      kinds = right ∙ l.invariant.kinds;
      thousands = rw c.flow_right-flows.ensures (tried_with flow_right _ l.i c.loop-i-test.true l.flows ∙ l.invariant.thousands);
    }

pub returns-then-not-flows : goal.returns-then-not-flows
returns-then-not-flows c =
    let l = c.loop-i in
    told _ (eq-eqb _ 0 c.if-sheet-ne0.false) (le-leb _ _ c.if-sheet-gt-MOST_HOURS.false)
    (sym l.invariant.kinds ∙ each_end kind_right _ l.i c.loop-i-test.false)
    (flows_ended _ l.i c.loop-i-test.false l.flows l.invariant.thousands ∙ c.if-not-flows.true)

pub returns : goal.returns
returns c =
    let l = c.loop-i in
    told _ (eq-eqb _ 0 c.if-sheet-ne0.false) (le-leb _ _ c.if-sheet-gt-MOST_HOURS.false)
    (sym l.invariant.kinds ∙ each_end kind_right _ l.i c.loop-i-test.false)
    (flows_ended _ l.i c.loop-i-test.false l.flows l.invariant.thousands ∙ c.if-not-flows.false)
