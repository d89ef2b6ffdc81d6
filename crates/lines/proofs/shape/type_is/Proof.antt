-- The first three bytes are those of the type; a shorter line has another.
use mathlib.Core.Path.{sym, ap, ◌∙◌}
use mathlib.Core.List.{List}
use Prim.Native.Nat.{ℕ}
use native.Mathlib.Omega.{arith}
use lib.ListN.{take}
use lib.Seq.{length-take-le}
use Rattle.layout.specs.Layout.{type_width}
use Rattle.columns.specs.Bytes.{same}
use Rattle.lines.proofs.Shapes.{type_bytes, type_short}
use borrow.Author.Rules.{rules}
use Rattle.lines.proofs.shape.type_is.Statement.{statement}
use Rattle.lines.proofs.shape.type_is.Tie as tie

-- the places of the code, each from the next one below it
abbrev start : tie.After-type_digits-digits → tie.Start
start c = c.before.before.before

abbrev typed : tie.After-same_bytes → tie.After-type_digits-digits
typed c = c.before.before

returns : tie.Need-returns-then-rest-lt-TYPE_WIDTH
returns c = sym (type_short _ _ (omega arith))

type-digits-requires : tie.Need-type_digits-digits-requires
type-digits-requires c κs = search rules

slice-aggregate-same-bytes : tie.Need-slice_bounds-same_bytes-end
slice-aggregate-same-bytes c = sym (length-take-le type_width (start c).args.rest.now (omega arith))

slice-aggregate-same-bytes-2 : tie.Need-slice_bounds-same_bytes-end-2
slice-aggregate-same-bytes-2 c = search rules

same-bytes-requires : tie.Need-same_bytes-requires
same-bytes-requires c κs = search rules

returns-2 : tie.Need-returns
returns-2 c =
    let k = typed c in
    let rest = (start k).args.rest.now in
    c.same_bytes.ensures ∙ ap (λ (ds : List ℕ). same (take type_width rest) ds) k.type_digits-digits.ensures ∙ sym (type_bytes _ rest)

pub type_is_spec : {M : Type 1} → statement M
type_is_spec =
    tie.close
    (tie.spec
    returns
    type-digits-requires
    slice-aggregate-same-bytes
    slice-aggregate-same-bytes-2
    same-bytes-requires
    returns-2)
