-- What `edr_recorder_words` returns and leaves in the answer.
use Rattle.std.specs.Prelude.{ℕ, zero, suc, List, Bool, true, false, not, ◌||◌, eqb, leb, ltb, length, get_or, Float, Ok, Err}
use Rattle.std.specs.Float.{nan}
use Rattle.columns.specs.Bytes.{all}
use Rattle.recorder.specs.Recording.{Recorded, recorder_numbers, recorded_of}
use Rattle.recorder.specs.declared.RecorderReading.{RecorderReading}
use Rattle.recorder.specs.declared.RecorderReading.TheVariants.{Measured, Substituted, Absent}
use Rattle.recorder.specs.declared.RecorderHour.{RecorderHour}
use Rattle.edr_c.specs.Boundary.{filled}

-- an hour has four readings; an answer has four words and the count of substituted readings

abbrev pub reading_count : ℕ
reading_count = 4

abbrev pub words_length : ℕ
words_length = 5

-- 0 measured, 1 substituted, 2 absent

abbrev pub is_state : ℕ → Bool
is_state state = leb state 2

abbrev pub reading_in : (state : ℕ) → Float → RecorderReading
reading_in zero x = Measured x
reading_in (suc zero) x = Substituted x
reading_in (suc (suc state)) x = Absent

abbrev pub hour_in : List ℕ → List Float → RecorderHour
hour_in states readings = record {
  so2 = reading_in (get_or states 0 0) (get_or readings 0 nan);
  nox = reading_in (get_or states 1 0) (get_or readings 1 nan);
  co2 = reading_in (get_or states 2 0) (get_or readings 2 nan);
  flow = reading_in (get_or states 3 0) (get_or readings 3 nan);
}

-- not four of both, too short an answer, or another state
abbrev pub wrong_form : List ℕ → List Float → List ℕ → Bool
wrong_form states readings buffer =
    not (eqb (length states) reading_count) || not (eqb (length readings) reading_count) || ltb (length buffer) words_length || not (all is_state states)

abbrev pub recorded_code : Recorded → ℕ
recorded_code (Ok w) = 1
recorded_code (Err number) = 0

unfoldable pub recorder_code : List ℕ → List Float → List ℕ → ℕ
recorder_code states readings buffer =
    elim (wrong_form states readings buffer) [ true ↦ 2 | false ↦ recorded_code (recorded_of (hour_in states readings)) ]

unfoldable pub recorder_filled : List ℕ → List Float → List ℕ → List ℕ
recorder_filled states readings buffer =
    elim (wrong_form states readings buffer) [ true ↦ buffer | false ↦ filled (recorder_numbers (recorded_of (hour_in states readings))) buffer ]
