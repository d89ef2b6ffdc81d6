use Rattle.std.proofs.Common.{◌≡◌, ℕ, ap, subst, arith}
use Rattle.layout.specs.declared.RecordType.TheVariants.{Operation}
use Rattle.reading.specs.Places.{Stands}
use Rattle.reading.specs.RankLaws.{ahead_first, ahead_some, ahead_stands, ahead_next}
use Rattle.recorded.specs.declared.ListedHour.{ListedHour}
use Rattle.recorded.proofs.Records.operating_place.Goals as goal

pub loop-init : goal.loop-init
loop-init c = let r = c.args.self in ahead_first r.file.now r.shape r.standing

pub operating_from-from-requires : goal.operating_from-from-requires
operating_from-from-requires c =
    let r = c.args.self in
    ahead_some r.file.now r.shape r.standing c.loop.counter c.loop.from c.loop.invariant (omega arith)

pub overflow_add-from : goal.overflow_add-from
overflow_add-from c =
    let r = c.args.self in
    let there = ap (λ (at : ListedHour). at.place) c.operating_from-from.ensures in
    let s = ahead_stands r.file.now r.shape r.standing c.loop.counter c.loop.from c.loop.invariant (omega arith) _ there in
    omega (arith, s.inside, r.standing.held.operations)

pub loop-preserved : goal.loop-preserved
loop-preserved c =
    let r = c.args.self in
    ahead_next r.file.now r.shape r.standing c.loop.counter c.loop.from c.loop.invariant (omega arith) _
    (ap (λ (at : ListedHour). at.place) c.operating_from-from.ensures)

pub operating_from-requires : goal.operating_from-requires
operating_from-requires c =
    let r = c.args.self in
    ahead_some r.file.now r.shape r.standing c.loop.counter c.loop.from c.loop.invariant (omega arith)

pub returns : goal.returns
returns c =
    let r = c.args.self in
    let there = ap (λ (at : ListedHour). at.place) c.operating_from.ensures in
    let all : c.loop.counter ≡ c.args.k = omega arith in
    subst (λ (m : ℕ). Stands r.file.now r.shape Operation m c.operating_from.result.place) all
    (ahead_stands r.file.now r.shape r.standing c.loop.counter c.loop.from c.loop.invariant (omega arith) _ there)
