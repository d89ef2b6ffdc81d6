-- So many printable bytes and byte 10.
use Prim.Native.Nat.{◌≤◌}
use mathlib.Core.Path.{sym, ◌∙◌}
use native.Mathlib.Omega.{arith}
use borrow.Author.Tests.{eq-eqb, ne_eqb}
use lib.ListN.{length, get_or-eq_default}
use lib.Seq.{length-take-le}
use Rattle.lines.specs.Beginning.{is_line}
use borrow.Author.Rules.{rules}
use Rattle.lines.proofs.shape.is_line.Statement.{statement}
use Rattle.lines.proofs.shape.is_line.Tie as tie

returns : tie.Need-returns-then-rest-long
unfolding is_line
returns c =
    let x = c.before.before.args in
    let h : length x.rest.now ≤ x.long = omega arith in
    rw (get_or-eq_default x.rest.now 0 h)

shared-slice-read-if2 : tie.Need-bounds-rest-long
shared-slice-read-if2 c = search rules

returns-2 : tie.Need-returns-then-rest-long-ne10
unfolding is_line
returns-2 c = rw (ne_eqb _ 10 c.if-rest-long-ne10.true)

slice-aggregate-all-printable : tie.Need-slice_bounds-all_printable-end
slice-aggregate-all-printable c = sym (length-take-le _ _ (omega arith))

all-printable-requires : tie.Need-all_printable-requires
all-printable-requires c κs = search rules

returns-3 : tie.Need-returns
unfolding is_line
returns-3 c = c.all_printable.ensures ∙ sym (rw (eq-eqb _ 10 c.before.if-rest-long-ne10.false))

pub is_line_spec : {M : Type 1} → statement M
is_line_spec =
    tie.close
    (tie.spec
    returns
    shared-slice-read-if2
    returns-2
    slice-aggregate-all-printable
    all-printable-requires
    returns-3)
