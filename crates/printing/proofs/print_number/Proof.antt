-- A space and digits stand beside each other.
use Prim.Native.Nat.{ℕ, ◌+◌}
use mathlib.Core.Path.{◌≡◌, ap, ◌∙◌}
use mathlib.Core.List.{[], ◌∷◌}
use native.Mathlib.Omega.{arith}
use borrow.Author.Rules.{rules}
use Rattle.columns.specs.Columns.{put}
use Rattle.columns.proofs.ColumnsLaws.{put_beside}
use Rattle.columns.specs.Written.{digits_of}
use Rattle.columns.proofs.WrittenLaws.{digits_length}
use Rattle.printing.specs.Printed.{digit_count, decimal_of}
use Rattle.printing.proofs.print_number.Statement.{statement}
use Rattle.printing.proofs.print_number.Tie as tie

-- the places of the code, each from the next one below it
abbrev start : tie.After-digit_count-count → tie.Start
start c = c.before.before

abbrev counted : tie.After-write_bytes → tie.After-digit_count-count
counted c = c.before.before.before.before

abbrev space : tie.After-write_digits → tie.After-write_bytes
space c = c.before.before.before.before

digit-count-requires : tie.Need-digit_count-count-requires
digit-count-requires c κs = search rules

write-bytes-requires : tie.Need-write_bytes-requires
write-bytes-requires c κs = search rules

add-write-digits : tie.Need-overflow_add-column
add-write-digits c = search rules

write-digits-requires : tie.Need-write_digits-requires
write-digits-requires c κs = search rules

add-result : tie.Need-overflow_add-result
add-result c = search rules

add-result-2 : tie.Need-overflow_add-result-2
add-result-2 c = search rules

same_length : tie.Need-shape_of-line
same_length c = search rules

returns : tie.Need-returns
returns c =
    let k = c.before.before in
    let s = space k in
    let x = (start (counted s)).args in
    let column = x.column in
    let value = x.value in
    let spaceOnly = put column (32 ∷ []) x.line.now in
    let e : k.write_digits.new.line ≡ put (column + 1) (decimal_of value) spaceOnly =
    k.write_digits.ensures
    ∙ ap (λ (n : ℕ). put (column + 1) (digits_of n value) s.write_bytes.new.line) (counted s).digit_count-count.ensures.0
    ∙ ap (put (column + 1) (decimal_of value)) s.write_bytes.ensures in
    let b = put_beside column (32 ∷ []) x.line.now (omega arith) (decimal_of value) (omega arith) in
    (omega (arith, digits_length (digit_count value) value), omega arith, e ∙ b)

pub print_number_spec : {M : Type 1} → statement M
print_number_spec =
    tie.close
    (tie.spec
    digit-count-requires
    write-bytes-requires
    add-write-digits
    write-digits-requires
    add-result
    add-result-2
    same_length
    returns)
