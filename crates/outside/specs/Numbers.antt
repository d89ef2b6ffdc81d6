-- Numbers in bytes, and the sum of a buffer. They compute.
use Rattle.std.specs.Prelude.{ℕ, zero, suc, ◌+◌, ◌*◌, ◌%◌, List, [], ◌∷◌, ◌++◌, get_or}

-- four bytes, the lowest first, each 0 beyond the end
abbrev pub number_at : List ℕ → ℕ → ℕ
number_at bytes at =
    get_or bytes at 0 + 256 * get_or bytes (at + 1) 0 + 65536 * (get_or bytes (at + 2) 0 + 256 * get_or bytes (at + 3) 0)

-- so many numbers one behind the other
unfoldable pub words_of : ℕ → List ℕ → List ℕ
words_of zero bytes = []
words_of (suc n) bytes = words_of n bytes ++ (number_at bytes (4 * n) ∷ [])

-- Adler-32 (RFC 1950), from the sums of the bytes before; of words too
unfoldable pub adler_of : ℕ → ℕ → List ℕ → ℕ
adler_of a b [] = b * 65536 + a
adler_of a b (byte ∷ bytes) = adler_of ((a + byte) % 65521) ((b + (a + byte) % 65521) % 65521) bytes
