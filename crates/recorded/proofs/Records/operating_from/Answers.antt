use Rattle.std.proofs.Common.{ℕ, length, ap, ◌∙◌, arith}
use Rattle.reading.specs.RankLaws.{place_here, place_idle, operating_none}
use Rattle.recorded.specs.ListedHours.{listed_hour}
use Rattle.recorded.proofs.LineLaws.{on_line}
use Rattle.recorded.proofs.Records.operating_from.Goals as goal

pub returns-then-time-ne0 : goal.returns-then-time-ne0
returns-then-time-ne0 c =
    let r = c.args.self in
    let file = r.file.now in
    let read = c.value-time.ensures ∙ on_line c.line_at.ensures 0 in
    let e = place_here file r.shape c.loop-place.place c.value-time.result read c.loop-place-test.true c.if-time-ne0.true in
    ap (λ (time : ℕ). record { place = c.loop-place.place; time = time }) read ∙ ap (listed_hour file r.shape) (e ∙ c.loop-place.invariant.same)

pub loop-place-preserved : goal.loop-place-preserved
loop-place-preserved c =
    let r = c.args.self in
    let read = c.value-time.ensures ∙ on_line c.line_at.ensures 0 in
    let i = place_idle r.file.now r.shape c.loop-place.place c.value-time.result read c.loop-place-test.true c.if-time-ne0.false in
    record { same = i.0 ∙ c.loop-place.invariant.same; left = i.1 ∙ c.loop-place.invariant.left }

pub unreachable-requires : goal.unreachable-requires
unreachable-requires c =
    let r = c.args.self in
    omega (arith, operating_none r.file.now r.shape c.loop-place.place (omega arith), ap length c.loop-place.invariant.left)
