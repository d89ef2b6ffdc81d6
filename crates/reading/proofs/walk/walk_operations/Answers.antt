-- The 300 lines, one further with each, whether its hour operates or is idle.
use Rattle.std.specs.Prelude.{Ok, Err}
use Rattle.std.proofs.Common.{◌≡◌, refl, ℕ, List, ◌+◌, Bool, sym, ap, ◌∙◌, arith}
use mathlib.Core.Path.{ap₂, subst₂}
use Rattle.columns.proofs.ColumnsLaws.{part_end}
use Rattle.layout.specs.Layout.{length_of}
use Rattle.layout.specs.declared.RecordType.TheVariants.{Operation}
use Rattle.refusals.specs.Refusals.{told, fault_in, fault_number}
use Rattle.refusals.proofs.There.{refused_there, faulty_there, passed_there, exit_there}
use Rattle.lines.specs.Lines.{first_line}
use Rattle.lines.specs.LineFaults.{type_is, operation_line, OperationSaid}
use Rattle.calendar.specs.Calendar.{Period}
use Rattle.lines.specs.declared.operation.OperationLine.TheVariants.{Operating, Idle}
use Rattle.reading.specs.Places.{facility_of}
use Rattle.reading.proofs.walk.walk_operations.Goals.{in-Idle, in-Operating}
use Rattle.reading.proofs.Walking.{FewHours}
use Rattle.reading.proofs.Listing.{Listing, listing_other, listing_over, listing_found, listing_idle, listing_operating}
use Rattle.reading.proofs.walk.walk_operations.Goals as goal

-- what is left begins with a 300 line, or not
typed : {rest rest' : List ℕ} {b t : Bool} → b ≡ type_is Operation (first_line rest') → rest' ≡ rest → b ≡ t → type_is Operation (first_line rest) ≡ t
typed e r h = ap (λ (l : List ℕ). type_is Operation (first_line l)) (sym r) ∙ sym e ∙ h

-- what the line says, from the date and the rest that were looked at
said : (facility : List ℕ) (period : Period) (from : ℕ) {date date' rest rest' : List ℕ} {s o : OperationSaid} →
    s ≡ operation_line facility period from date' (first_line rest') → date' ≡ date → rest' ≡ rest → s ≡ o →
    operation_line facility period from date (first_line rest) ≡ o
said facility period from e d r h = ap₂ (λ (d r : List ℕ). operation_line facility period from d (first_line r)) (sym d) (sym r) ∙ sym e ∙ h

pub returns-then-not-type_is : goal.returns-then-not-type_is
returns-then-not-type_is c =
    listing_other _ _ _ _ _ _ _ _ c.loop-at.invariant c.loop-at-test.true _ c.end_operations.ensures
    (typed c.type_is.ensures (part_end c.loop-at.at c.args.file.now) c.if-not-type_is.true)

pub returns-in_err-operation : goal.returns-in_err-operation
returns-in_err-operation c =
    let l = c.loop-at in
    let r = c.operation_line-said.result in
    let e = c.in_err-operation.field-0.0 in
    let rest = part_end l.at c.args.file.now in
    rw (exit_there c.from_residual.result e c.from_residual.ensures.1)
    (listing_found _ _ _ _ _ _ _ _ l.invariant c.loop-at-test.true (typed c.type_is.ensures rest c.if-not-type_is.false) (fault_in fault_number r) _
    (ap Err (refused_there r l.line e c.in_err-operation.ensures))
    (said (facility_of c.args.file.now) c.args.period l.from c.operation_line-said.ensures c.date_left.ensures rest
    (faulty_there r l.line e c.in_err-operation.ensures)))

pub overflow_add-from : goal.overflow_add-from
overflow_add-from c =
    let l = c.loop-at in
    let r = c.operation_line-said.result in
    let rest = part_end l.at c.args.file.now in
    let few : FewHours c.args.period = omega (arith, c.hours.ensures.hours, c.hours.ensures.most) in
    let says : told fault_number r ≡ Ok (Idle c.in-Idle.idle) =
    ap (told fault_number) (passed_there r l.line c.in_ok-operation.operation c.in_ok-operation.ensures) ∙ ap Ok c.in-Idle.is in
    let n =
    listing_idle _ _ _ _ _ _ _ _ l.invariant c.loop-at-test.true (typed c.type_is.ensures rest c.if-not-type_is.false) c.in-Idle.idle few
    (said (facility_of c.args.file.now) c.args.period l.from c.operation_line-said.ensures c.date_left.ensures rest says)
    in
    omega (arith, n.below)

pub overflow_add-from-in-Operating : goal.overflow_add-from-in-Operating
overflow_add-from-in-Operating c =
    let l = c.loop-at in
    let r = c.operation_line-said.result in
    let rest = part_end l.at c.args.file.now in
    let few : FewHours c.args.period = omega (arith, c.hours.ensures.hours, c.hours.ensures.most) in
    let says : told fault_number r ≡ Ok (Operating c.in-Operating.operating) =
    ap (told fault_number) (passed_there r l.line c.in_ok-operation.operation c.in_ok-operation.ensures) ∙ ap Ok c.in-Operating.is in
    let n =
    listing_operating _ _ _ _ _ _ _ _ l.invariant c.loop-at-test.true (typed c.type_is.ensures rest c.if-not-type_is.false) c.in-Operating.operating few
    (said (facility_of c.args.file.now) c.args.period l.from c.operation_line-said.ensures c.date_left.ensures rest says)
    in
    omega (arith, n.below)

pub loop-at-preserved : goal.loop-at-preserved
loop-at-preserved c =
    let l = c.loop-at in
    let r = c.operation_line-said.result in
    let rest = part_end l.at c.args.file.now in
    let t = typed c.type_is.ensures rest c.if-not-type_is.false in
    let passed = ap (told fault_number) (passed_there r l.line c.in_ok-operation.operation c.in_ok-operation.ensures) in
    let few : FewHours c.args.period = omega (arith, c.hours.ensures.hours, c.hours.ensures.most) in
    let says = said (facility_of c.args.file.now) c.args.period l.from c.operation_line-said.ensures c.date_left.ensures rest refl in
    let Next : ℕ → ℕ → Type 0 =
    λ from rank. Listing c.args.file.now c.args.period c.args.n c.args.start (l.at + (length_of Operation + 1)) (l.line + 1) from rank in
    elim c.match-operation.branch [
      | in-Idle w ↦
          subst₂ Next (sym w.from-is) (sym w.rank-is)
          (listing_idle _ _ _ _ _ _ _ _ l.invariant c.loop-at-test.true t w.in-Idle.idle few (says ∙ passed ∙ ap Ok w.in-Idle.is))
      | in-Operating w ↦
          subst₂ Next (sym w.from-is) (sym w.rank-is)
          (listing_operating _ _ _ _ _ _ _ _ l.invariant c.loop-at-test.true t w.in-Operating.operating few (says ∙ passed ∙ ap Ok w.in-Operating.is))
    ]

pub returns : goal.returns
returns c = listing_over _ _ _ _ _ _ _ _ c.loop-at.invariant _ c.end_operations-2.ensures (omega arith)
