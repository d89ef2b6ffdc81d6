-- What 31 and 32 try of a sheet.
use Rattle.std.specs.Prelude.{ℕ, zero, suc, ◌%◌, ◌≡◌, List, [], ◌∷◌, Bool, true, ◌&&◌, not, length, eqb, leb, ltb}
use Rattle.columns.specs.Bytes.{all, is_blank, is_printable}
use Rattle.calendar.specs.Calendar.{IsQuarter, hours_in_quarter}
use Rattle.layout.specs.Values.{Within, within, year_digits, quarter_digit, time_hours, so2_ppm, nox_ppm, co2_percent, f_factor}
use Rattle.sheet.specs.Sheet.{hour_words, SheetForm, present_form, sheet_kind_in, sheet_hour_count, sheet_hours_in}
use Rattle.sheet.specs.declared.SheetHour.{SheetHour}

-- a test over every hour
unfoldable pub every : (SheetHour → Bool) → List SheetHour → Bool
every p [] = true
every p (h ∷ hs) = p h && every p hs

-- 31: year, quarter and stack name
unfoldable pub heading_holds : ℕ → ℕ → List ℕ → Bool
heading_holds year quarter name = within year_digits year && within quarter_digit quarter && not (all is_blank name) && all is_printable name

-- what it says
pub record Heading (year quarter : ℕ) (name : List ℕ) : Type 0 where
  pub year_within : Within year_digits year
  pub is_quarter : IsQuarter quarter
  pub named : not (all is_blank name) ≡ true
  pub printable : all is_printable name ≡ true

-- 31: the kinds of so many words of hour k, from word j on, are j, j + 1 and so on
unfoldable pub kinds_rise_in : SheetForm → List ℕ → ℕ → ℕ → ℕ → Bool
kinds_rise_in f sheet k j zero = true
kinds_rise_in f sheet k j (suc left) = eqb (sheet_kind_in f sheet k j) j && kinds_rise_in f sheet k (suc j) left

abbrev pub hour_kinds_in : SheetForm → List ℕ → ℕ → Bool
hour_kinds_in f sheet k = kinds_rise_in f sheet k 0 hour_words

abbrev pub kinds_rise : List ℕ → ℕ → ℕ → ℕ → Bool
kinds_rise = kinds_rise_in present_form

abbrev pub hour_kinds : List ℕ → ℕ → Bool
hour_kinds = hour_kinds_in present_form

-- 31: the kinds of so many hours, from hour k on
unfoldable pub kinds_hold_in : SheetForm → List ℕ → ℕ → ℕ → Bool
kinds_hold_in f sheet k zero = true
kinds_hold_in f sheet k (suc left) = hour_kinds_in f sheet k && kinds_hold_in f sheet (suc k) left

abbrev pub kinds_hold : List ℕ → ℕ → ℕ → Bool
kinds_hold = kinds_hold_in present_form

-- 31: the hours rise, from `from` on, and lie below the number of hours of the quarter

unfoldable pub hour_holds : ℕ → ℕ → SheetHour → Bool
hour_holds below from h = leb from h.hour && ltb h.hour below

unfoldable pub hours_rise : ℕ → ℕ → List SheetHour → Bool
hours_rise below from [] = true
hours_rise below from (h ∷ hs) = hour_holds below from h && hours_rise below (suc h.hour) hs

unfoldable pub sheet_holds_in : SheetForm → ℕ → ℕ → List ℕ → List ℕ → Bool
sheet_holds_in f year quarter name sheet =
    heading_holds year quarter name && eqb (length sheet % hour_words) 0 && kinds_hold_in f sheet 0 (sheet_hour_count sheet)
    && hours_rise (hours_in_quarter year quarter) 0 (sheet_hours_in f sheet)

abbrev pub sheet_holds : ℕ → ℕ → List ℕ → List ℕ → Bool
sheet_holds = sheet_holds_in present_form

-- 32: time and readings lie in the ranges of their columns, and the flow is a whole thousand
unfoldable pub readings_hold_in : SheetForm → SheetHour → Bool
readings_hold_in f h =
    within time_hours h.time && within so2_ppm h.so2 && within nox_ppm h.nox
    && within co2_percent h.co2 && within f.flow h.scfh && within f_factor h.fc

abbrev pub readings_hold : SheetHour → Bool
readings_hold = readings_hold_in present_form
