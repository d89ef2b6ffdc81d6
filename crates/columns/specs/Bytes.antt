-- Bytes and lists of them: what a byte is, and whether every byte is such or two lists are the same.
use Rattle.std.specs.Prelude.{ℕ, Bool, true, false, ◌&&◌, List, [], ◌∷◌, ◌==◌, nat_le}

abbrev pub is_blank : ℕ → Bool
is_blank b = b == 32

abbrev pub is_digit : ℕ → Bool
is_digit b = nat_le 48 b && nat_le b 57

abbrev pub is_printable : ℕ → Bool
is_printable b = nat_le 32 b && nat_le b 126

unfoldable pub all : (ℕ → Bool) → List ℕ → Bool
all p [] = true
all p (b ∷ bs) = elim (p b) [ true ↦ all p bs | false ↦ false ]

unfoldable pub same : List ℕ → List ℕ → Bool
same [] [] = true
same [] (y ∷ ys) = false
same (x ∷ xs) [] = false
same (x ∷ xs) (y ∷ ys) = elim (x == y) [ true ↦ same xs ys | false ↦ false ]
