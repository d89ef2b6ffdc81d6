-- Floats recorded, and hours: computed from bit patterns, each table with one fact.
use Rattle.std.specs.Prelude.{◌≡◌, refl, List, [], ◌∷◌, ◌++◌, map, ℕ, zero, suc, ◌+◌, ◌*◌, ◌^◌, replicate, Float}
use Rattle.std.specs.Float.{binary64}
use Rattle.std.specs.Float.Ieee.{of_bits, mul}
use Rattle.exact.specs.Sums.{total_of}
use Rattle.recorder.specs.Recording.{units_in, channels, recording_unit, float_fault, recorder_numbers, recorded_of}
use Rattle.recorder.specs.declared.RecorderReading.{RecorderReading}
use Rattle.recorder.specs.declared.RecorderReading.TheVariants.{Measured, Substituted, Absent}
use Rattle.recorder.specs.declared.RecorderHour.{RecorderHour}
use Rattle.recorder.specs.declared.Channel.{Channel}
use Rattle.recorder.specs.declared.Channel.TheVariants.{So2, Nox, Co2, Flow}

abbrev float : ℕ → Float
float bits = of_bits binary64 bits

-- the floats nearest to 0.15 and to 100.05: both lie below
abbrev float_0_15 : ℕ
float_0_15 = 0x3fc3_3333_3333_3333

abbrev float_100_05 : ℕ
float_100_05 = 0x4059_0333_3333_3333

abbrev minus_zero : ℕ
minus_zero = 0x8000_0000_0000_0000

-- ten times them, in floats, is 1.5 and 1,000.5: it would round up
pub ten_times : (mul binary64 (float float_0_15) (float 0x4024_0000_0000_0000) ≡ float 0x3ff8_0000_0000_0000)
    × (mul binary64 (float float_100_05) (float 0x4024_0000_0000_0000) ≡ float 0x408f_4400_0000_0000)
unfolding of_bits mul
ten_times = (refl, refl)

-- a channel, a float's bits, and 0 with its units, tenths or thousands, or the refusal
pub record Row : Type 0 where
  pub channel : Channel
  pub bits : ℕ
  pub says : List ℕ

abbrev row : Channel → (bits : ℕ) → List ℕ → Row
row channel bits says = record { channel = channel; bits = bits; says = says }

abbrev said_of : Channel → Float → List ℕ
said_of c x = elim (float_fault c x) [ zero ↦ 0 ∷ units_in (recording_unit c) x ∷ [] | suc number ↦ suc number ∷ [] ]

pub rows : List Row
rows =
    row So2 float_0_15 (0 ∷ 1 ∷ [])
    -- 9,999.95, which lies above, and the float below it
    ∷ row So2 0x40c3_87f9_9999_999a (46 ∷ [])
    ∷ row So2 0x40c3_87f9_9999_9999 (0 ∷ 99_999 ∷ [])
    ∷ row Nox 0x40c3_87f9_9999_999a (46 ∷ [])
    ∷ row Nox 0x40c3_87f9_9999_9999 (0 ∷ 99_999 ∷ [])
    -- 0.05, which lies above, and the float below it
    ∷ row So2 0x3fa9_9999_9999_999a (0 ∷ 1 ∷ [])
    ∷ row So2 0x3fa9_9999_9999_9999 (0 ∷ 0 ∷ [])
    ∷ row Co2 0x3fa9_9999_9999_999a (0 ∷ 1 ∷ [])
    ∷ row Co2 0x3fa9_9999_9999_9999 (46 ∷ [])
    -- CO2: 100.05, the float above it
    ∷ row Co2 float_100_05 (0 ∷ 1000 ∷ [])
    ∷ row Co2 0x4059_0333_3333_3334 (46 ∷ [])
    -- flow: 500.0, 1,500.0 and 9,999,999,500.0, ties, and the floats below them; 500,000,500.0 is a tie like any other
    ∷ row Flow 0x407f_4000_0000_0000 (0 ∷ 1 ∷ [])
    ∷ row Flow 0x407f_3fff_ffff_ffff (0 ∷ 0 ∷ [])
    ∷ row Flow 0x4097_7000_0000_0000 (0 ∷ 2 ∷ [])
    ∷ row Flow 0x4097_6fff_ffff_ffff (0 ∷ 1 ∷ [])
    ∷ row Flow 0x41bd_cd66_f400_0000 (0 ∷ 500_001 ∷ [])
    ∷ row Flow 0x41bd_cd66_f3ff_ffff (0 ∷ 500_000 ∷ [])
    ∷ row Flow 0x4202_a05f_1060_0000 (46 ∷ [])
    ∷ row Flow 0x4202_a05f_105f_ffff (0 ∷ 9_999_999 ∷ [])
    ∷ []

-- the same floats to several channels

abbrev said_to : List Channel → List ℕ → List (List (List ℕ))
said_to cs floats = map (λ c. map (λ bits. said_of c (float bits)) floats) cs

pub floats_recorded : (map (λ r. said_of r.channel (float r.bits)) rows ≡ map (λ r. r.says) rows)
    -- 0.25 and 0.75, ties, and the floats below them
    × (said_to (So2 ∷ Nox ∷ Co2 ∷ []) (0x3fd0_0000_0000_0000 ∷ 0x3fcf_ffff_ffff_ffff ∷ 0x3fe8_0000_0000_0000 ∷ 0x3fe7_ffff_ffff_ffff ∷ [])
    ≡ replicate 3 ((0 ∷ 3 ∷ []) ∷ (0 ∷ 2 ∷ []) ∷ (0 ∷ 8 ∷ []) ∷ (0 ∷ 7 ∷ []) ∷ []))
    -- zero, minus zero, the smallest float, the largest without a leading one, the smallest with it: only CO2 may not be 0
    × (said_to (So2 ∷ Nox ∷ Flow ∷ []) (0 ∷ minus_zero ∷ 0x0000_0000_0000_0001 ∷ 0x000f_ffff_ffff_ffff ∷ 0x0010_0000_0000_0000 ∷ [])
    ≡ replicate 3 (replicate 5 (0 ∷ 0 ∷ [])))
    × (said_to (Co2 ∷ []) (0 ∷ minus_zero ∷ 0x0000_0000_0000_0001 ∷ 0x000f_ffff_ffff_ffff ∷ 0x0010_0000_0000_0000 ∷ []) ≡ replicate 1 (replicate 5 (46 ∷ [])))
    -- 10^10, the float below 2^52, 2^52, 2^64, the largest float
    × (said_to channels (0x4202_a05f_2000_0000 ∷ 0x432f_ffff_ffff_ffff ∷ 0x4330_0000_0000_0000 ∷ 0x43f0_0000_0000_0000 ∷ 0x7fef_ffff_ffff_ffff ∷ [])
    ≡ replicate 4 (replicate 5 (46 ∷ [])))
    -- the negative next to zero, -0.04, which would round to 0, -1.0, the most negative, the infinities, NaNs
    × (said_to channels (0x8000_0000_0000_0001 ∷ 0xbfa4_7ae1_47ae_147b ∷ 0xbff0_0000_0000_0000 ∷ 0xffef_ffff_ffff_ffff ∷ 0x7ff0_0000_0000_0000
    ∷ 0xfff0_0000_0000_0000 ∷ 0x7ff8_0000_0000_0000 ∷ 0x7ff0_0000_0000_0001 ∷ 0xfff0_0000_0000_0001 ∷ 0xffff_ffff_ffff_ffff ∷ [])
    ≡ replicate 4 (replicate 10 (45 ∷ [])))
unfolding rows of_bits float_fault
floats_recorded = (refl, refl, refl, refl, refl, refl)

-- hours

abbrev word : (kind value : ℕ) → ℕ
word kind value = kind * 2 ^ 29 + value

abbrev hour : (so2 nox co2 flow : RecorderReading) → RecorderHour
hour so2 nox co2 flow = record { so2 = so2; nox = nox; co2 = co2; flow = flow }

abbrev measured : ℕ → RecorderReading
measured bits = Measured (float bits)

abbrev substituted : ℕ → RecorderReading
substituted bits = Substituted (float bits)

-- 0.25, 500.0, the negative next to zero, 9,999,999,500.0
abbrev good : ℕ
good = 0x3fd0_0000_0000_0000

abbrev flow_500 : ℕ
flow_500 = 0x407f_4000_0000_0000

abbrev negative : ℕ
negative = 0x8000_0000_0000_0001

abbrev large : ℕ
large = 0x4202_a05f_1060_0000

-- an hour, and the numbers of its answer
pub record HourRow : Type 0 where
  pub reported : RecorderHour
  pub answer : List ℕ

abbrev at : RecorderHour → List ℕ → HourRow
at reported answer = record { reported = reported; answer = answer }

pub hours : List HourRow
hours =
    -- the paper's worked hour: 250.0, 200.0, 12.0, 20,000,000
    at (hour (measured 0x406f_4000_0000_0000) (measured 0x4069_0000_0000_0000) (measured 0x4028_0000_0000_0000) (measured 0x4173_12d0_0000_0000))
    (word 1 2500 ∷ word 2 2000 ∷ word 3 120 ∷ word 4 20_000 ∷ 0 ∷ [])
    ∷ at (hour (substituted minus_zero) (measured minus_zero) (substituted good) (substituted flow_500))
    (word 1 0 ∷ word 2 0 ∷ word 3 3 ∷ word 4 1 ∷ 3 ∷ [])
    -- one reading that is not good, in each place
    ∷ at (hour Absent (measured good) (measured good) (measured good)) (44 ∷ [])
    ∷ at (hour (measured good) Absent (measured good) (measured good)) (44 ∷ [])
    ∷ at (hour (measured good) (measured good) Absent (measured good)) (44 ∷ [])
    ∷ at (hour (measured good) (measured good) (measured good) Absent) (44 ∷ [])
    ∷ at (hour (substituted negative) (measured good) (measured good) (measured good)) (45 ∷ [])
    ∷ at (hour (measured good) (measured negative) (measured good) (measured good)) (45 ∷ [])
    ∷ at (hour (measured good) (measured good) (substituted negative) (measured good)) (45 ∷ [])
    ∷ at (hour (measured good) (measured good) (measured good) (measured negative)) (45 ∷ [])
    ∷ at (hour (measured large) (measured good) (measured good) (measured good)) (46 ∷ [])
    ∷ at (hour (measured good) (substituted large) (measured good) (measured good)) (46 ∷ [])
    ∷ at (hour (measured good) (measured good) (measured large) (measured good)) (46 ∷ [])
    ∷ at (hour (substituted good) (substituted good) (substituted good) (substituted large)) (46 ∷ [])
    ∷ []

-- two readings that are not good, in any two places
abbrev two : RecorderReading → RecorderReading → List RecorderHour
two x y =
    let g = measured good in
    hour x y g g ∷ hour x g y g ∷ hour x g g y ∷ hour g x y g ∷ hour g x g y ∷ hour g g x y ∷ []

abbrev answers : List RecorderHour → List (List ℕ)
answers hs = map (λ h. recorder_numbers (recorded_of h)) hs

pub hours_recorded : (answers (map (λ (r : HourRow). r.reported) hours) ≡ map (λ (r : HourRow). r.answer) hours)
    -- the first of two in the order SO2, NOx, CO2, flow gives the number, whichever it is
    × (answers (two Absent (measured negative) ++ two Absent (substituted large)) ≡ replicate 12 (44 ∷ []))
    × (answers (two (measured negative) Absent ++ two (substituted negative) (measured large)) ≡ replicate 12 (45 ∷ []))
    × (answers (two (measured large) Absent ++ two (substituted large) (measured negative)) ≡ replicate 12 (46 ∷ []))
    -- substituted: none, each channel's alone, all; the words are those of measured readings
    × (answers (let m = measured good in
    let s = substituted good in
    hour m m m m ∷ hour s m m m ∷ hour m s m m ∷ hour m m s m ∷ hour m m m s ∷ hour s s s s ∷ [])
    ≡ map (λ n. word 1 3 ∷ word 2 3 ∷ word 3 3 ∷ word 4 0 ∷ n ∷ []) (0 ∷ 1 ∷ 1 ∷ 1 ∷ 1 ∷ 4 ∷ []))
unfolding hours of_bits recorded_of float_fault total_of
hours_recorded = (refl, refl, refl, refl, refl)
