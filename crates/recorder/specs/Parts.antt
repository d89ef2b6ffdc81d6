-- What each step from a float to a word is to give: the float's parts, its count of units, the reading tried.
use Rattle.std.specs.Prelude.{ℕ, zero, suc, ◌+◌, ◌*◌, ◌≤◌, ◌<◌, ◌^◌, ◌≡◌, Bool, true, false, not, ◌&&◌, ◌||◌, cond, eqb, Float}
use Rattle.std.specs.Prelude.{Option, None, Some, Result, Ok, Err}
use Rattle.std.specs.Float.{binary64}
use Rattle.std.specs.Float.Ieee.{low}
use Rattle.std.specs.Float.Ieee.Positive.{num, den}
use Rattle.exact.specs.Rounding.{nearest}
use Rattle.refusals.specs.Refusals.{recorder_number}
use Rattle.refusals.specs.declared.RecorderRefusal.{RecorderRefusal}
use Rattle.sheet.specs.Sheet.{value_size, word_of}
use Rattle.recorder.specs.Recording.{usable, units_in, kind_of, column_of, recording_unit, float_fault, fault_of, word_for}
use Rattle.recorder.specs.declared.RecorderReading.{RecorderReading}
use Rattle.recorder.specs.declared.Channel.{Channel}
use Rattle.recorder.specs.declared.Channel.TheVariants.{So2, Nox, Co2, Flow}
use Rattle.recorder.specs.declared.Parts.{Parts}
use Rattle.recorder.specs.declared.RecordingUnit.{RecordingUnit}
use Rattle.recorder.specs.declared.ChannelRow.{ChannelRow}

-- floats are counted in 1 / 2^1074, the smallest
abbrev pub float_scale : ℕ
float_scale = low binary64

-- a significand and an exponent, where they may be a reading's
abbrev pub parts : (may : Bool) → (significand exponent : ℕ) → Option Parts
parts may significand exponent = cond may (Some (record { significand = significand; exponent = exponent })) None

-- the parts that a sign, an exponent field and the digits below it make. Field 0 has no leading one and counts as field 1; field 2047 has no value.
abbrev pub parts_in : (negative : Bool) → (field digits : ℕ) → Option Parts
parts_in negative zero digits = parts (not negative || eqb digits 0) digits 0
parts_in negative (suc exponent) digits = parts (not negative && not (eqb (suc exponent) 2047)) (2 ^ 52 + digits) exponent

-- a usable float's value is significand × 2^exponent / 2^1074; above the smallest exponent the significand has all its 53 digits
pub record UsableParts (x : Float) (p : Parts) : Type 0 where
  pub is_usable : usable x ≡ true
  pub short : p.significand < 2 ^ 53
  pub long : 0 < p.exponent → 2 ^ 52 ≤ p.significand
  pub exact : num x * 2 ^ float_scale ≡ p.significand * 2 ^ p.exponent * den x

-- what a float's parts are to it: one that is not usable has none
abbrev pub PartsOf : Float → Option Parts → Type 0
PartsOf x None = usable x ≡ false
PartsOf x (Some p) = UsableParts x p

-- that value over a unit, rounded half up
abbrev pub parts_count : Parts → RecordingUnit → ℕ
parts_count p u = nearest (p.significand * 2 ^ p.exponent * u.den) (u.num * 2 ^ float_scale)

-- with `gone` binary places even 53 digits are less than half a unit, and with fewer nothing overflows
pub record UnitRoom (u : RecordingUnit) : Type 0 where
  pub num_least : 0 < u.num
  pub den_least : 0 < u.den
  pub den_most : u.den ≤ 10
  pub gone_most : u.gone ≤ 58
  pub vanishes : 2 * (u.den * 2 ^ 53) ≤ u.num * 2 ^ u.gone
  pub fits : u.num * 2 ^ u.gone ≤ 2 ^ 63

-- a channel's row, as the code has it
abbrev pub gone_at : Channel → ℕ
gone_at So2 = 58
gone_at Nox = 58
gone_at Co2 = 58
gone_at Flow = 53

abbrev pub channel_row : Channel → ChannelRow
channel_row c = record { column = column_of c; unit = record { num = (recording_unit c).num; den = (recording_unit c).den; gone = gone_at c } }

-- a float tried, and a reading: its units, or why there are none

abbrev pub FloatUnits : Channel → Float → Result ℕ RecorderRefusal → Type 0
FloatUnits c x (Ok units) = (0 ≡ float_fault c x) × (units < value_size) × (units ≡ units_in (recording_unit c) x)
FloatUnits c x (Err e) = recorder_number e ≡ float_fault c x

abbrev pub ReadingUnits : Channel → RecorderReading → Result ℕ RecorderRefusal → Type 0
ReadingUnits c reading (Ok units) = (0 ≡ fault_of c reading) × (units < value_size) × (word_of (kind_of c) units ≡ word_for c reading)
ReadingUnits c reading (Err e) = recorder_number e ≡ fault_of c reading
