-- Worked examples: the lines of the paper's worked hour, of an empty quarter and of a refusal, and decimal numbers at either side of a digit more.
use Rattle.std.specs.Prelude.{Ok}
use mathlib.Core.Path.{◌≡◌, refl}
use mathlib.Core.List.{[], ◌∷◌, map}
use Rattle.columns.specs.Written.{digits_of}
use Rattle.checker.specs.Checked.{refused_at}
use Rattle.printing.specs.Printed.{digit_count_in, decimal_of, all_spaced, printed_line, printed}

-- "accepted 1 2 684 6667 358 1"
worked_answer : printed (Ok (record { hours = 1; so2 = 2; co2 = 684; heat = 6667; nox = 358; nox_tons = 1 }))
    ≡ 97 ∷ 99 ∷ 99 ∷ 101 ∷ 112 ∷ 116 ∷ 101 ∷ 100 ∷ 32 ∷ 49 ∷ 32 ∷ 50 ∷ 32 ∷ 54 ∷ 56 ∷ 52 ∷ 32 ∷ 54 ∷ 54 ∷ 54 ∷ 55 ∷ 32 ∷ 51 ∷ 53 ∷ 56 ∷ 32 ∷ 49 ∷ 10 ∷ []
unfolding digits_of digit_count_in all_spaced printed_line
worked_answer = refl

-- "accepted 0 0 0 0 0 0"
empty_answer : printed (Ok (record { hours = 0; so2 = 0; co2 = 0; heat = 0; nox = 0; nox_tons = 0 }))
    ≡ 97 ∷ 99 ∷ 99 ∷ 101 ∷ 112 ∷ 116 ∷ 101 ∷ 100 ∷ 32 ∷ 48 ∷ 32 ∷ 48 ∷ 32 ∷ 48 ∷ 32 ∷ 48 ∷ 32 ∷ 48 ∷ 32 ∷ 48 ∷ 10 ∷ []
unfolding digits_of digit_count_in all_spaced printed_line
empty_answer = refl

-- "refused 12 7"
refusal_answer : printed (refused_at 12 7) ≡ 114 ∷ 101 ∷ 102 ∷ 117 ∷ 115 ∷ 101 ∷ 100 ∷ 32 ∷ 49 ∷ 50 ∷ 32 ∷ 55 ∷ 10 ∷ []
unfolding digits_of digit_count_in all_spaced printed_line
refusal_answer = refl

-- 9, 10, 99 and 100
decimals : map decimal_of (9 ∷ 10 ∷ 99 ∷ 100 ∷ []) ≡ (57 ∷ []) ∷ (49 ∷ 48 ∷ []) ∷ (57 ∷ 57 ∷ []) ∷ (49 ∷ 48 ∷ 48 ∷ []) ∷ []
unfolding digits_of digit_count_in
decimals = refl
