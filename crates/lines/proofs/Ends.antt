-- A first line ends where the first byte 10 stands, or with the last byte.
use Rattle.std.specs.Prelude.{ℕ, ◌≡◌, ◌+◌, List, [], ◌∷◌, Bool, true, false, cond, nat_eq, length}
use Rattle.std.proofs.Common.{refl, arith}
use Rattle.std.specs.List.{position, position_or_len}
use Rattle.std.specs.Option.{unwrap_or}
use Rattle.std.proofs.lemmas.List.Recursion.{is_position_or_len}
use Rattle.lines.proofs.LineLaws.{line_part}
use Rattle.lines.specs.Lines.{first_line}

none : length (first_line []) ≡ 0
unfolding first_line
none = refl

more : (b : ℕ) (bs : List ℕ) → length (first_line (b ∷ bs)) ≡ cond (nat_eq b 10) 0 (1 + length (first_line bs))
unfolding first_line
more b bs = go (nat_eq b 10)
  where
    go : (t : Bool) → length {A = ℕ} (elim t [ true ↦ [] | false ↦ b ∷ first_line bs ]) ≡ cond t 0 (1 + length (first_line bs))
    go true = refl
    go false = omega arith

line_position_or : (l : List ℕ) → length (first_line l) ≡ position_or_len (λ (b : ℕ). nat_eq b 10) l
line_position_or = is_position_or_len (λ l. length (first_line l)) (λ (b : ℕ). nat_eq b 10) none more

pub line_position : (l : List ℕ) → unwrap_or (position (λ (b : ℕ). nat_eq b 10) l) (length l) ≡ length (first_line l)
line_position l = grind (arith, line_position_or l, line_part l)
