-- An hour as a recorder hands it over: which words it comes to, or which refusal. What is said of a float is said of its value.
use Rattle.std.specs.Prelude.{ℕ, zero, suc, ◌*◌, Bool, false, not, ◌||◌, List, [], ◌∷◌, eqb, Float, Result, Ok, Err}
use Rattle.std.specs.Float.{nan, inf, fin}
use Rattle.std.specs.Float.Ieee.Positive.{num, den, den_pos}
use Rattle.exact.specs.Faults.{◌or_else◌, unless}
use Rattle.exact.specs.Fraction.{Fraction, Positive, fraction}
use Rattle.exact.specs.Rounding.{half_up}
use Rattle.exact.specs.Sums.{total_of}
use Rattle.layout.specs.Values.{in_range, so2_ppm, nox_ppm, co2_percent, flow_scfh}
use Rattle.layout.specs.declared.values.Value.{Value}
use Rattle.formulas.specs.Hour.{tenth, flow_unit}
use Rattle.sheet.specs.Sheet.{word_of, so2_kind, nox_kind, co2_kind, flow_kind}
use Rattle.recorder.specs.declared.RecorderReading.{RecorderReading}
use Rattle.recorder.specs.declared.RecorderReading.TheVariants.{Measured, Substituted, Absent}
use Rattle.recorder.specs.declared.RecorderHour.{RecorderHour}
use Rattle.recorder.specs.declared.HourWords.{HourWords}
use Rattle.recorder.specs.declared.Channel.{Channel}
use Rattle.recorder.specs.declared.Channel.TheVariants.{So2, Nox, Co2, Flow}

-- a finite float's size, m × 2^e, as a fraction; 0 for the others, which are never usable
abbrev pub exact_of : Float → Fraction
exact_of x = fraction (num x) (den x) (den_pos x)

-- finite, and zero or not negative: minus zero is zero. UsableLaws.antt: it is 0.0 <= x < infinity, as floats compare.
abbrev pub usable : Float → Bool
usable nan = false
usable (inf negative) = false
usable (fin negative m e) = not negative || eqb m 0

-- so many units, rounded half up
abbrev pub units_in : Positive → Float → ℕ
units_in u x = half_up u (exact_of x)

-- the readings of an hour, in the order in which they are tried
abbrev pub channels : List Channel
channels = So2 ∷ Nox ∷ Co2 ∷ Flow ∷ []

-- the kind of a channel's word, its columns in the report, the unit in which it is recorded

abbrev pub kind_of : Channel → ℕ
kind_of So2 = so2_kind
kind_of Nox = nox_kind
kind_of Co2 = co2_kind
kind_of Flow = flow_kind

abbrev pub column_of : Channel → Value
column_of So2 = so2_ppm
column_of Nox = nox_ppm
column_of Co2 = co2_percent
column_of Flow = flow_scfh

abbrev pub recording_unit : Channel → Positive
recording_unit So2 = tenth
recording_unit Nox = tenth
recording_unit Co2 = tenth
recording_unit Flow = flow_unit

-- a channel's reading of an hour
abbrev pub reading_of : Channel → RecorderHour → RecorderReading
reading_of So2 h = h.so2
reading_of Nox h = h.nox
reading_of Co2 h = h.co2
reading_of Flow h = h.flow

-- the number that stands for a float in its columns, which 46 tries: as many of their steps as it has units
abbrev pub column_number : Channel → Float → ℕ
column_number c x = (column_of c).step * units_in (recording_unit c) x

-- what refuses a reading, or 0: 44, then 45, then 46

unfoldable pub float_fault : Channel → Float → ℕ
float_fault c x = unless (usable x) 45 or_else unless (in_range (column_of c) (column_number c x)) 46

abbrev pub fault_of : Channel → RecorderReading → ℕ
fault_of c (Measured x) = float_fault c x
fault_of c (Substituted x) = float_fault c x
fault_of c Absent = 44

-- reading by reading, in the order of the channels
abbrev pub first_fault : RecorderHour → List Channel → ℕ
first_fault h [] = 0
first_fault h (c ∷ cs) = fault_of c (reading_of c h) or_else first_fault h cs

-- a reading's word: so many units
abbrev pub word_for : Channel → RecorderReading → ℕ
word_for c (Measured x) = word_of (kind_of c) (units_in (recording_unit c) x)
word_for c (Substituted x) = word_of (kind_of c) (units_in (recording_unit c) x)
word_for c Absent = 0

abbrev pub substituted_in : RecorderReading → ℕ
substituted_in (Measured x) = 0
substituted_in (Substituted x) = 1
substituted_in Absent = 0

abbrev pub words_for : RecorderHour → HourWords
words_for h = record {
  so2 = word_for So2 h.so2;
  nox = word_for Nox h.nox;
  co2 = word_for Co2 h.co2;
  flow = word_for Flow h.flow;
  substituted = total_of (λ c. substituted_in (reading_of c h)) channels;
}

-- an hour recorded as the paper has it: the words, or the number of the refusal
abbrev pub Recorded : Type 0
Recorded = Result HourWords ℕ

unfoldable pub recorded_of : RecorderHour → Recorded
recorded_of h = elim (first_fault h channels) [ zero ↦ Ok (words_for h) | suc number ↦ Err (suc number) ]

-- what an answer says: the four words and the count, or the refusal's number
abbrev pub recorder_numbers : Recorded → List ℕ
recorder_numbers (Ok w) = w.so2 ∷ w.nox ∷ w.co2 ∷ w.flow ∷ w.substituted ∷ []
recorder_numbers (Err number) = number ∷ []
