-- Calls of `edr_recorder_words`: what is returned, and what is left in the answer. Computed, in one table.
use Rattle.std.specs.Prelude.{◌≡◌, refl, List, [], ◌∷◌, map, ℕ, Float}
use Rattle.std.specs.Float.{nan, binary64}
use Rattle.std.specs.Float.Ieee.{of_bits}
use Rattle.exact.specs.Sums.{total_of}
use Rattle.columns.specs.Bytes.{all}
use Rattle.recorder.specs.Recording.{float_fault, recorded_of}
use Rattle.sheet.specs.Sheet.{word_of}
use Rattle.edr_c.specs.RecorderCall.{recorder_code, recorder_filled}

-- 1.0, 2.0, 4.0, 2,000.0

abbrev float_1 : Float
float_1 = of_bits binary64 0x3ff0_0000_0000_0000

abbrev float_2 : Float
float_2 = of_bits binary64 0x4000_0000_0000_0000

abbrev float_4 : Float
float_4 = of_bits binary64 0x4010_0000_0000_0000

abbrev float_2000 : Float
float_2000 = of_bits binary64 0x409f_4000_0000_0000

abbrev floats : List Float
floats = float_1 ∷ float_2 ∷ float_4 ∷ float_2000 ∷ []

abbrev lent : List ℕ
lent = 91 ∷ 92 ∷ 93 ∷ 94 ∷ 95 ∷ 96 ∷ []

abbrev absent_left : List ℕ
absent_left = 44 ∷ 92 ∷ 93 ∷ 94 ∷ 95 ∷ 96 ∷ []

pub record Call : Type 0 where
  pub states : List ℕ
  pub readings : List Float
  pub answer : List ℕ
  pub returned : ℕ
  pub left : List ℕ

abbrev call : List ℕ → List Float → (answer : List ℕ) → ℕ → List ℕ → Call
call states readings answer returned left = record { states = states; readings = readings; answer = answer; returned = returned; left = left }

pub calls : List Call
calls =
    call (0 ∷ 1 ∷ 0 ∷ 0 ∷ []) floats lent 1 (word_of 1 10 ∷ word_of 2 20 ∷ word_of 3 40 ∷ word_of 4 2 ∷ 1 ∷ 96 ∷ [])
    -- five elements are enough, four are not
    ∷ call (1 ∷ 0 ∷ 1 ∷ 1 ∷ []) floats (91 ∷ 92 ∷ 93 ∷ 94 ∷ 95 ∷ []) 1 (word_of 1 10 ∷ word_of 2 20 ∷ word_of 3 40 ∷ word_of 4 2 ∷ 3 ∷ [])
    ∷ call (0 ∷ 0 ∷ 0 ∷ 0 ∷ []) floats (91 ∷ 92 ∷ 93 ∷ 94 ∷ []) 2 (91 ∷ 92 ∷ 93 ∷ 94 ∷ [])
    ∷ call (2 ∷ 0 ∷ 0 ∷ 0 ∷ []) floats (91 ∷ 92 ∷ 93 ∷ 94 ∷ []) 2 (91 ∷ 92 ∷ 93 ∷ 94 ∷ [])
    -- absent, in each place, by its own state: its float is not looked at
    ∷ call (2 ∷ 0 ∷ 0 ∷ 0 ∷ []) (nan ∷ float_2 ∷ float_4 ∷ float_2000 ∷ []) lent 0 absent_left
    ∷ call (0 ∷ 2 ∷ 0 ∷ 0 ∷ []) (float_1 ∷ nan ∷ float_4 ∷ float_2000 ∷ []) lent 0 absent_left
    ∷ call (0 ∷ 0 ∷ 2 ∷ 0 ∷ []) (float_1 ∷ float_2 ∷ nan ∷ float_2000 ∷ []) lent 0 absent_left
    ∷ call (0 ∷ 0 ∷ 0 ∷ 2 ∷ []) (float_1 ∷ float_2 ∷ float_4 ∷ nan ∷ []) lent 0 absent_left
    -- a state that is none, in each place, and before any reading is tried
    ∷ call (255 ∷ 0 ∷ 0 ∷ 0 ∷ []) floats lent 2 lent
    ∷ call (2 ∷ 4 ∷ 0 ∷ 0 ∷ []) floats lent 2 lent
    ∷ call (0 ∷ 2 ∷ 128 ∷ 0 ∷ []) floats lent 2 lent
    ∷ call (2 ∷ 0 ∷ 0 ∷ 3 ∷ []) floats lent 2 lent
    -- one too few and one too many
    ∷ call (2 ∷ 0 ∷ 0 ∷ []) floats lent 2 lent
    ∷ call (0 ∷ 0 ∷ 0 ∷ 0 ∷ 0 ∷ []) floats lent 2 lent
    ∷ call (2 ∷ 0 ∷ 0 ∷ 0 ∷ []) (float_1 ∷ float_2 ∷ float_4 ∷ []) lent 2 lent
    ∷ call (0 ∷ 0 ∷ 0 ∷ 0 ∷ []) (float_1 ∷ float_2 ∷ float_4 ∷ float_2000 ∷ float_1 ∷ []) lent 2 lent
    ∷ []

pub calls_answered :
    (map (λ c. recorder_code c.states c.readings c.answer) calls ≡ map (λ c. c.returned) calls)
    × (map (λ c. recorder_filled c.states c.readings c.answer) calls ≡ map (λ c. c.left) calls)
unfolding calls of_bits all total_of float_fault recorded_of recorder_code recorder_filled
calls_answered = (refl, refl)
