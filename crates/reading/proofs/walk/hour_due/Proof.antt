-- The 200 line of a rank, for a type that has a date.
use Prim.Native.Nat.{◌≤◌}
use mathlib.Core.Path.{◌≡◌, sym, ap, ◌∙◌}
use native.Mathlib.Omega.{arith}
use Rattle.layout.specs.Layout.{date_column}
use Rattle.layout.proofs.RunLaws.{dated_count}
use Rattle.layout.specs.declared.Row.{Row}
use Rattle.reading.proofs.Runs.{undated_due, dated_due}
use borrow.Author.Rules.{rules}
use Rattle.reading.proofs.walk.hour_due.Statement.{statement}
use Rattle.reading.proofs.walk.hour_due.Tie as tie

-- the places of the code, each from the next one below it
abbrev start : tie.After-row_of → tie.Start
start c = c.before.before

abbrev undated : tie.Then-row_of-eq0 → tie.After-row_of
undated c = c.before.before

abbrev dated : tie.Else-row_of-eq0 → tie.After-row_of
dated c = c.before.before

-- the column of the date, as the row has it
own_date : (c : tie.After-row_of) → c.row_of.result.date ≡ date_column (start c).args.t
own_date c = ap (λ (r : Row). r.date) c.row_of.ensures

has_date : (c : tie.Else-row_of-eq0) → 1 ≤ date_column (start (dated c)).args.t
has_date c = omega (arith, own_date (dated c), c.if-row_of-eq0.false)

row-of-requires : tie.Need-row_of-requires
row-of-requires c κs = search rules

slice-aggregate-result : tie.Need-slice_bounds-result-end
slice-aggregate-result c = search rules

hour-text-requires : tie.Need-hour_text-requires
hour-text-requires c κs =
    let x = start (dated c) in
    (x.requires.0, rw (dated_count x.args.t (has_date c) x.args.n) at x.requires.1)

returns : tie.Need-returns-then-row_of-eq0
returns c =
    let r = undated c in
    let x = (start r).args in
    sym (undated_due x.file.now x.t x.k (sym (own_date r) ∙ c.if-row_of-eq0.true))

returns-2 : tie.Need-returns-else-row_of-eq0
returns-2 c =
    let x = (start (dated c.before)).args in
    c.hour_text.ensures ∙ sym (dated_due x.file.now x.t x.k (has_date c.before))

pub hour_due_spec : {M : Type 1} → statement M
hour_due_spec =
    tie.close
    (tie.spec row-of-requires slice-aggregate-result hour-text-requires returns returns-2)
