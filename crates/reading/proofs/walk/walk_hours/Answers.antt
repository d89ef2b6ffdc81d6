-- The 200 lines, one further with each.
use Rattle.std.specs.Prelude.{Err}
use Rattle.std.proofs.Common.{◌≡◌, ◌+◌, ℕ, List, Bool, sym, ap, ◌∙◌, arith}
use Rattle.columns.proofs.ColumnsLaws.{part_end}
use Rattle.layout.specs.declared.RecordType.TheVariants.{So2Concentration}
use Rattle.refusals.specs.Refusals.{told, fault_in, fault_number}
use Rattle.refusals.proofs.There.{refused_there, faulty_there, passed_there, exit_there}
use Rattle.lines.specs.Lines.{first_line}
use Rattle.lines.specs.LineFaults.{type_is, hour_line, HourLine}
use Rattle.calendar.specs.Calendar.{Period}
use Rattle.reading.specs.Places.{facility_of}
use Rattle.reading.proofs.Walking.{FewHours}
use Rattle.reading.proofs.Rising.{rising_start, rising_end, rising_other, rising_found, rising_below, rising_next}
use Rattle.reading.proofs.walk.walk_hours.Goals as goal

-- what is left begins with a 200 line, or not
typed : {rest rest' : List ℕ} {b t : Bool} → b ≡ type_is So2Concentration (first_line rest') → rest' ≡ rest → b ≡ t →
    type_is So2Concentration (first_line rest) ≡ t
typed e r h = ap (λ (l : List ℕ). type_is So2Concentration (first_line l)) (sym r) ∙ sym e ∙ h

-- what the line says, from the rest that was looked at
said : (facility : List ℕ) (period : Period) (from : ℕ) {rest rest' : List ℕ} {s o : HourLine} →
    s ≡ hour_line facility period from (first_line rest') → rest' ≡ rest → s ≡ o →
    hour_line facility period from (first_line rest) ≡ o
said facility period from e r h = ap (λ (r : List ℕ). hour_line facility period from (first_line r)) (sym r) ∙ sym e ∙ h

pub loop-at-init : goal.loop-at-init
loop-at-init c = rising_start c.args.file.now c.args.period c.requires

pub returns-then-not-type_is : goal.returns-then-not-type_is
returns-then-not-type_is c =
    let l = c.loop-at in
    c.walk_later.ensures
    ∙ rising_other c.args.file.now c.args.period l.n l.from l.at l.invariant c.loop-at-test.true
    (typed c.type_is.ensures (part_end l.at c.args.file.now) c.if-not-type_is.true)

pub returns-in_err-hour : goal.returns-in_err-hour
returns-in_err-hour c =
    let l = c.loop-at in
    let r = c.hour_line.result in
    let e = c.in_err-hour.field-0.0 in
    let f = c.args.file.now in
    rw (exit_there c.from_residual.result e c.from_residual.ensures.1)
    (ap Err (refused_there r (2 + l.n) e c.in_err-hour.ensures)
    ∙ rising_found f c.args.period l.n l.from l.at l.invariant c.loop-at-test.true
    (typed c.type_is.ensures (part_end l.at f) c.if-not-type_is.false) (fault_in fault_number r)
    (said (facility_of f) c.args.period l.from c.hour_line.ensures (part_end l.at f) (faulty_there r (2 + l.n) e c.in_err-hour.ensures)))

pub overflow_add-from : goal.overflow_add-from
overflow_add-from c =
    let l = c.loop-at in
    let r = c.hour_line.result in
    let f = c.args.file.now in
    let few : FewHours c.args.period = omega (arith, c.hours.ensures.hours, c.hours.ensures.most) in
    let passed = ap (told fault_number) (passed_there r (2 + l.n) c.in_ok-hour.hour c.in_ok-hour.ensures) in
    let b = rising_below f c.args.period l.n l.from l.at l.invariant c.loop-at-test.true (typed c.type_is.ensures (part_end l.at f) c.if-not-type_is.false) c.in_ok-hour.hour
    (said (facility_of f) c.args.period l.from c.hour_line.ensures (part_end l.at f) passed) few
    in
    omega (arith, b.1)

pub loop-at-preserved : goal.loop-at-preserved
loop-at-preserved c =
    let l = c.loop-at in
    let r = c.hour_line.result in
    let f = c.args.file.now in
    let few : FewHours c.args.period = omega (arith, c.hours.ensures.hours, c.hours.ensures.most) in
    let passed = ap (told fault_number) (passed_there r (2 + l.n) c.in_ok-hour.hour c.in_ok-hour.ensures) in
    rising_next f c.args.period l.n l.from l.at l.invariant c.loop-at-test.true (typed c.type_is.ensures (part_end l.at f) c.if-not-type_is.false) c.in_ok-hour.hour
    (said (facility_of f) c.args.period l.from c.hour_line.ensures (part_end l.at f) passed) few

pub returns : goal.returns
returns c =
    let l = c.loop-at in
    c.walk_later-2.ensures ∙ rising_end c.args.file.now c.args.period l.n l.from l.at l.invariant c.loop-at-test.false
