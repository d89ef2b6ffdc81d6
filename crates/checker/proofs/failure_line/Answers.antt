-- The line of a failure: line 301, or the record of its hour.
use Rattle.std.proofs.Common.{◌≡◌, ◌<◌, refl, sym, ap, subst, ◌∙◌, ℕ, List, length, arith}
use Rattle.layout.specs.Layout.{shape, line_of}
use Rattle.layout.specs.LayoutLaws.{count_most}
use Rattle.reading.specs.RankLaws.{once_stands}
use Rattle.reading.specs.RecordLaws.{records_standing}
use Rattle.layout.specs.declared.Shape.{Shape}
use Rattle.layout.specs.declared.RecordType.{RecordType}
use Rattle.layout.specs.declared.RecordType.TheVariants.{QuarterTotals}
use Rattle.reading.specs.Recorded.{Line, records_of, record_at}
use Rattle.reading.specs.Places.{Stands}
use Rattle.judging.specs.Judged.{rank_told, type_named}
use Rattle.refusals.specs.Refusals.{fault_number}
use Rattle.checker.specs.Checked.{line_named}
use Rattle.checker.proofs.failure_line.Goals as goal

line_stands : {file : List ℕ} {s : Shape} {t : RecordType} {k p : ℕ} → Stands file s t k p → line_of s t p ≡ (record_at file t k).number
line_stands e = sym (ap (λ (l : Line). l.number) e.there)

pub place_of-place-requires : goal.place_of-place-requires
place_of-place-requires c =
    let file = c.args.records.file.now in
    let k = c.in-Some.k in
    let named = c.type_named-t.ensures ∙ ap type_named c.number.ensures in
    subst (λ (type : RecordType). k < length (records_of file type)) (sym named) (c.requires k (ap rank_told c.in-Some.is))

pub line_of-requires-in-Some : goal.line_of-requires-in-Some
line_of-requires-in-Some c =
    let file = c.args.records.file.now in
    let s = c.args.records.shape in
    let standing = c.args.records.standing in
    let type = c.type_named-t.result in
    -- where no line is idle, the place is the hour's rank, and that lies within too
    let named = c.type_named-t.ensures ∙ ap type_named c.number.ensures in
    let there : c.in-Some.k < length (records_of file type) =
    subst (λ (type : RecordType). c.in-Some.k < length (records_of file type)) (sym named) (c.requires c.in-Some.k (ap rank_told c.in-Some.is)) in
    let less = records_standing file s standing type in
    let most = count_most (shape s.hours) (record { hours = standing.held.hours; operations = standing.held.hours }) type in
    (standing.held, omega (arith, c.place_of-place.ensures.inside, count_most s standing.held type, there, less, most))

pub returns-in-None : goal.returns-in-None
returns-in-None c =
    let file = c.args.records.file.now in
    c.line_of.ensures ∙ line_stands (once_stands file c.args.records.shape c.args.records.standing QuarterTotals refl)
    ∙ sym (ap (λ h. line_named file (fault_number c.args.f.fault) (rank_told h)) c.in-None.is)

pub returns-in-Some : goal.returns-in-Some
returns-in-Some c =
    let file = c.args.records.file.now in
    let k = c.in-Some.k in
    let named = c.type_named-t.ensures ∙ ap type_named c.number.ensures in
    c.line_of-in-Some.ensures ∙ line_stands c.place_of-place.ensures
    ∙ ap (λ (type : RecordType). (record_at file type k).number) named
    ∙ sym (ap (λ h. line_named file (fault_number c.args.f.fault) (rank_told h)) c.in-Some.is)
