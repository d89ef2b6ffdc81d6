-- What is promised of an hour's words: every reading is good; each float is an unrounded reading that records as its word; no word is
-- refused in a sheet; the substituted readings are counted; and a refusal names the first reading that is not good.
use Rattle.std.specs.Prelude.{ℕ, ◌+◌, ◌*◌, ◌≡◌, true, false, List, [], ◌∷◌, ◌++◌, length, get_or, Float, Ok, Err}
use Rattle.exact.specs.Logic.{All}
use Rattle.exact.specs.Fraction.{Fraction, whole}
use Rattle.exact.specs.Rounding.{Records}
use Rattle.layout.specs.Values.{Within, so2_ppm, nox_ppm, co2_percent, flow_scfh}
use Rattle.formulas.specs.Hour.{Monitored, set_of}
use Rattle.formulas.specs.Formulas.{entry_of, RoundsTo}
use Rattle.formulas.specs.declared.hour.Hour.{Hour}
use Rattle.formulas.specs.declared.hour.Quantity.{Quantity}
use Rattle.sheet.specs.Sheet.{hour_words, so2_kind, nox_kind, co2_kind, flow_kind, sheet_kind, sheet_hour, recorded_readings}
use Rattle.recorder.specs.Recording.{exact_of, usable, channels, column_of, recording_unit, reading_of, recorder_numbers}
use Rattle.recorder.specs.declared.RecorderReading.{RecorderReading}
use Rattle.recorder.specs.declared.RecorderReading.TheVariants.{Measured, Substituted, Absent}
use Rattle.recorder.specs.declared.RecorderHour.{RecorderHour}
use Rattle.recorder.specs.declared.HourWords.{HourWords}
use Rattle.recorder.specs.declared.Channel.{Channel}

-- the exact values of an hour's floats; an absent one never comes to words
abbrev pub unrounded_reading : RecorderReading → Fraction
unrounded_reading (Measured x) = exact_of x
unrounded_reading (Substituted x) = exact_of x
unrounded_reading Absent = whole 0

abbrev pub unrounded_of : RecorderHour → Monitored
unrounded_of h = record {
  so2 = unrounded_reading h.so2;
  nox = unrounded_reading h.nox;
  co2 = unrounded_reading h.co2;
  flow = unrounded_reading h.flow;
}

-- the words stand in a sheet, in its hour k
pub record StandIn (w : HourWords) (sheet : List ℕ) (k : ℕ) : Type 0 where
  pub so2 : get_or sheet (hour_words * k + so2_kind) 0 ≡ w.so2
  pub nox : get_or sheet (hour_words * k + nox_kind) 0 ≡ w.nox
  pub co2 : get_or sheet (hour_words * k + co2_kind) 0 ≡ w.co2
  pub flow : get_or sheet (hour_words * k + flow_kind) 0 ≡ w.flow

-- 31 and 32 take the four words of that hour: their kinds are those of their places, their values lie in the columns' ranges
pub record TakenIn (sheet : List ℕ) (k : ℕ) : Type 0 where
  pub so2_kind : sheet_kind sheet k so2_kind ≡ so2_kind
  pub nox_kind : sheet_kind sheet k nox_kind ≡ nox_kind
  pub co2_kind : sheet_kind sheet k co2_kind ≡ co2_kind
  pub flow_kind : sheet_kind sheet k flow_kind ≡ flow_kind
  pub so2 : Within so2_ppm (sheet_hour sheet k).so2
  pub nox : Within nox_ppm (sheet_hour sheet k).nox
  pub co2 : Within co2_percent (sheet_hour sheet k).co2
  pub flow : Within flow_scfh (sheet_hour sheet k).scfh

abbrev pub keep_substituted : RecorderReading → Channel → List Channel → List Channel
keep_substituted (Measured x) c cs = cs
keep_substituted (Substituted x) c cs = c ∷ cs
keep_substituted Absent c cs = cs

-- the channels whose readings are substituted
abbrev pub substituted_among : RecorderHour → List Channel → List Channel
substituted_among h [] = []
substituted_among h (c ∷ cs) = keep_substituted (reading_of c h) c (substituted_among h cs)

-- an hour of monitors that has what a sheet's hour k records
pub record HourOf (sheet : List ℕ) (k : ℕ) (hour : Hour) : Type 0 where
  pub monitored : hour.gas ≡ false
  pub readings : hour.readings ≡ recorded_readings (sheet_hour sheet k)

-- a reading has a float
abbrev pub Reads : RecorderReading → Float → Type 0
Reads (Measured y) x = y ≡ x
Reads (Substituted y) x = y ≡ x
Reads Absent x = ⊥

-- a float is recorded as so many units that stand in its columns
pub record RecordsIn (c : Channel) (x : Float) (units : ℕ) : Type 0 where
  pub records : Records (recording_unit c) (exact_of x) units
  pub within : Within (column_of c) ((column_of c).step * units)

-- a reading that comes to a word
pub record Good (c : Channel) (reading : RecorderReading) : Type 0 where
  pub float : Float
  pub reads : Reads reading float
  pub is_usable : usable float ≡ true
  pub units : ℕ
  pub recorded : RecordsIn c float units

-- what a refusal shows of a reading
pub data ReadingShows (c : Channel) (reading : RecorderReading) : ℕ → Type 0 where
  absent : reading ≡ Absent → ReadingShows c reading 44
  unusable : (x : Float) → Reads reading x → usable x ≡ false → ReadingShows c reading 45
  outside : (x : Float) → Reads reading x → usable x ≡ true → ((units : ℕ) → RecordsIn c x units → ⊥) → ReadingShows c reading 46

-- a refusal is that of the first channel whose reading is not good
pub record HourRefuses (h : RecorderHour) (number : ℕ) : Type 0 where
  pub before : List Channel
  pub channel : Channel
  pub after : List Channel
  pub place : channels ≡ before ++ channel ∷ after
  pub good : All (λ c. Good c (reading_of c h)) before
  pub shows : ReadingShows channel (reading_of channel h) number

-- what the promise is about: the numbers that an answer says
pub record RecorderPromise (h : RecorderHour) (said : List ℕ) : Type 0 where
  pub given : (w : HourWords) → said ≡ recorder_numbers (Ok w) → (c : Channel) → Good c (reading_of c h)
  pub rounds : (w : HourWords) → said ≡ recorder_numbers (Ok w) → (sheet : List ℕ) (k : ℕ) → StandIn w sheet k →
      (hour : Hour) → HourOf sheet k hour → (q : Quantity) → RoundsTo q hour (entry_of q (set_of (unrounded_of h)))
  pub taken : (w : HourWords) → said ≡ recorder_numbers (Ok w) → (sheet : List ℕ) (k : ℕ) → StandIn w sheet k → TakenIn sheet k
  pub counted : (w : HourWords) → said ≡ recorder_numbers (Ok w) → w.substituted ≡ length (substituted_among h channels)
  pub refused : (number : ℕ) → said ≡ recorder_numbers (Err number) → HourRefuses h number
