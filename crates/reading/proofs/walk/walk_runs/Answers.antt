-- With each line, what is left to do against what is due is what the whole was.
use Rattle.std.specs.Prelude.{Err}
use Rattle.std.proofs.Common.{◌≡◌, refl, ℕ, List, ◌≤◌, ◌<◌, length, take, ap, arith}
use lib.Seq.{length-take-le}
use Rattle.columns.proofs.ColumnsLaws.{part_end}
use Rattle.layout.specs.Layout.{length_of, order, type_at, count_of, shape}
use Rattle.layout.specs.declared.Row.{Row}
use Rattle.layout.specs.declared.RecordType.{RecordType}
use Rattle.layout.specs.declared.RecordType.TheVariants.{Facility}
use Rattle.refusals.specs.Refusals.{on_paper, fault_in, fault_number}
use Rattle.refusals.proofs.There.{refused_there, some_there, none_there, exit_there}
use Rattle.lines.specs.Lines.{first_line}
use Rattle.lines.specs.LineFaults.{due_of, due_fault}
use Rattle.reading.specs.Places.{facility_of, hour_lines_in, Counted}
use Rattle.reading.specs.declared.walk.Cursor.{Cursor}
use Rattle.reading.proofs.Runs.{runs_end, due_long}
use Rattle.reading.proofs.Walking.{Walked, walked_start, walked_join, walked_type, walked_run}
use Rattle.reading.proofs.Walking.{walked_missing, walked_found, walked_next, runs_halted, runs_on}
use Rattle.reading.proofs.walk.walk_runs.Invariants.{due_from, due_at}
use Rattle.reading.proofs.walk.walk_runs.Goals as goal

abbrev cursor : ℕ → ℕ → Cursor
cursor at line = record { line = line; at = at }

-- the whole, from the types before and from this one
whole : (file : List ℕ) (n first end : ℕ) (start : Cursor) {at₀ line₀ at line place : ℕ} {t : RecordType} (k : ℕ) → place < end → end ≤ length order →
    t ≡ type_at place → Walked file n start (due_from file n end first) at₀ line₀ (due_from file n end place) →
    Walked file n (cursor at₀ line₀) (due_at file n end place t 0) at line (due_at file n end place t k) →
    Walked file n start (due_from file n end first) at line (due_at file n end place t k)
whole file n first end start {at₀} {line₀} {at} {line} {place} {t} k h e own w v =
    walked_join file n start (due_from file n end first) (due_at file n end place t 0) (due_at file n end place t k) at₀ line₀ at line
    (walked_type file n start (due_from file n end first) at₀ line₀ place end t h e own w) v

-- the fault of a line, from the 200 line and the rest that were looked at
fault_of_lem : (facility : List ℕ) (t : RecordType) {hour hour' rest rest' : List ℕ} {f : ℕ} → f ≡ due_fault facility (due_of t hour') (first_line rest') →
    hour' ≡ hour → rest' ≡ rest →
    f ≡ due_fault facility (due_of t hour) (first_line rest)
fault_of_lem facility t e d r = rw (← d, ← r) e

-- the facility line is whole
long : (file : List ℕ) {n : ℕ} → Counted file n → length (take (length_of Facility) file) ≡ length_of Facility
long file w = length-take-le (length_of Facility) file (omega (arith, w.room))

pub loop-place-init : goal.loop-place-init
loop-place-init c = walked_start c.args.file.now c.args.n c.args.start (due_from c.args.file.now c.args.n c.args.end c.args.first) c.requires.1

pub loop-k-init : goal.loop-k-init
loop-k-init c =
    let l = c.loop-place in
    walked_start c.args.file.now c.args.n (cursor l.at l.line) _ (record { room = l.invariant.room; most = l.invariant.most })

pub returns-then-file-at : goal.returns-then-file-at
returns-then-file-at c =
    let x = c.args in
    let l = c.loop-k in
    let f = x.file.now in
    runs_halted f x.n x.first x.end x.start _ 10 l.line (ap (λ r. Err (on_paper r)) c.at.ensures)
    (walked_missing f x.n x.start (due_from f x.n x.end x.first) l.at l.line c.type_at-t.result l.k _
    (whole f x.n x.first x.end x.start l.k c.loop-place-test.true c.requires.3 c.type_at-t.ensures c.loop-place.invariant l.invariant)
    (omega (arith, c.loop-k-test.true, c.count_of-count.ensures)) c.if-file-at.true)

pub try_due-due-requires-clause-length_of_in_bounds : goal.try_due-due-requires-clause-length_of_in_bounds
try_due-due-requires-clause-length_of_in_bounds c =
    let x = c.args in
    let inside : c.loop-k.k < count_of (shape x.n) c.type_at-t.result = omega (arith, c.loop-k-test.true, c.count_of-count.ensures) in (
      omega (arith, long x.file.now c.requires.0),
      (λ d. rw c.hour_due.ensures (due_long x.file.now x.n c.loop-k.k c.requires.0 c.type_at-t.result inside d)),
    )

pub returns-in_err-at_line : goal.returns-in_err-at_line
returns-in_err-at_line c =
    let x = c.args in
    let l = c.loop-k in
    let f = x.file.now in
    let r = c.try_due-due.result in
    let e = c.in_err-at_line.field-0.0 in
    let told = fault_of_lem (facility_of f) c.type_at-t.result c.try_due-due.ensures c.hour_due.ensures (part_end l.at f) in
    rw (exit_there c.from_residual.result e c.from_residual.ensures.1)
    (runs_halted f x.n x.first x.end x.start _ (fault_in fault_number r) l.line (ap Err (refused_there r l.line e c.in_err-at_line.ensures))
    (walked_found f x.n x.start (due_from f x.n x.end x.first) l.at l.line c.type_at-t.result l.k _
    (whole f x.n x.first x.end x.start l.k c.loop-place-test.true c.requires.3 c.type_at-t.ensures c.loop-place.invariant l.invariant)
    (omega (arith, c.loop-k-test.true, c.count_of-count.ensures)) c.if-file-at.false (fault_in fault_number r) told
    (some_there r l.line e c.in_err-at_line.ensures)))

pub loop-k-preserved : goal.loop-k-preserved
loop-k-preserved c =
    let x = c.args in
    let l = c.loop-k in
    let f = x.file.now in
    let r = c.try_due-due.result in
    let told = fault_of_lem (facility_of f) c.type_at-t.result c.try_due-due.ensures c.hour_due.ensures (part_end l.at f) in
    walked_next f x.n _ _ l.at l.line c.type_at-t.result l.k _ l.invariant (omega (arith, c.loop-k-test.true, c.count_of-count.ensures)) c.if-file-at.false
    (fault_in fault_number r) told (none_there r l.line c.in_ok-at_line.field-0 c.in_ok-at_line.ensures)
    c.row_of-row.result.length (ap (λ (r : Row). r.length) c.row_of-row.ensures)

pub loop-place-preserved : goal.loop-place-preserved
loop-place-preserved c =
    let x = c.args in
    let l = c.loop-k in
    let f = x.file.now in
    walked_run f x.n x.start (due_from f x.n x.end x.first) l.at l.line c.type_at-t.result l.k _
    (whole f x.n x.first x.end x.start l.k c.loop-place-test.true c.requires.3 c.type_at-t.ensures c.loop-place.invariant l.invariant)
    (omega (arith, c.loop-k-test.false, c.count_of-count.ensures))

pub returns : goal.returns
returns c =
    let x = c.args in
    let l = c.loop-place in
    runs_on x.file.now x.n x.first x.end x.start _ l.line l.at refl
    (rw (runs_end l.place x.end (hour_lines_in x.file.now x.n) c.requires.3 (omega (arith, c.loop-place-test.false))) at l.invariant)
