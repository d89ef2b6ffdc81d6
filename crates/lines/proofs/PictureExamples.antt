-- Lines that fit their type's picture: every value at full width or as short as it may be, any bytes in columns that are not read. A blank behind a digit
-- does not fit, nor a control byte. And lines that are right and do not fit: a gas hour's 200 line, an idle hour's 300 line.
use Rattle.std.specs.Prelude.{ℕ, ◌+◌, ◌≡◌, refl, Bool, true, false, List, [], ◌∷◌, ◌++◌, map, replicate}
use Rattle.calendar.specs.Calendar.{leap_year, days_in_month, in_quarter, days_before, hour_of_quarter, quarter_hour}
use Rattle.columns.specs.Bytes.{all, same}
use Rattle.columns.specs.Columns.{columns, put}
use Rattle.columns.specs.Number.{digits_from, whole_of, decimals_behind, fixed_of, field_of, number_of}
use Rattle.columns.specs.Picture.{passes, blanks, nines, field_picture, fits_test}
use Rattle.columns.specs.Written.{digits_of, digit_or_blank, leading, whole_written, fixed_written, written}
use Rattle.layout.specs.Layout.{stack_start, values_of}
use Rattle.layout.specs.Pictures.{picture_of}
use Rattle.layout.specs.Values.{so2_ppm, heat_rate}
use Rattle.layout.specs.declared.RecordType.{RecordType}
use Rattle.layout.specs.declared.RecordType.TheVariants.{Facility, So2Concentration, Operation}
use Rattle.layout.specs.declared.values.Value.{Value}
use Rattle.stamp.specs.Stamp.{number_hour, field_hour, stamp_hour}
use Rattle.lines.specs.LineFaults.{type_is, shape_fault, stack_fault, common_fault, field_fault, digits_in, period_on, rising_fault, dated_fault, date_fault}
use Rattle.lines.specs.LineFaults.{so2_fault, hour_fault, operates, idle_fault, operating_fault, timed_fault, operation_fault}
use Rattle.lines.proofs.WidthExamples.{Wide, wide_lines, stack, date, unread}

abbrev line_fits : RecordType → List ℕ → Bool
line_fits t line = fits_test (picture_of t) line

-- 100STACK120053
abbrev facility : List ℕ
facility = (49 ∷ 48 ∷ 48 ∷ []) ++ stack ++ (50 ∷ 48 ∷ 48 ∷ 53 ∷ 51 ∷ [])

-- a line with the least that each value may be
abbrev shortest : List Value → List ℕ → List ℕ
shortest [] line = line
shortest (v ∷ vs) line = shortest vs (put v.start (written v.width v.decimals v.least) line)

pub lines_fit : (line_fits Facility facility ≡ true)
    × (map (λ (w : Wide). line_fits w.type w.line) wide_lines ≡ replicate 9 true)
    × (map (λ (w : Wide). line_fits w.type (shortest (values_of w.type) w.line)) wide_lines ≡ replicate 9 true)
unfolding picture_of put passes blanks nines field_picture fits_test digits_of digit_or_blank leading whole_written fixed_written written
lines_fit = (refl, refl, refl)

-- a blank in the second column of a value of full width; the byte 127 in the stack name
pub spoiled_unfit : (map (λ (w : Wide). map (λ v. line_fits w.type (put (v.start + 1) (32 ∷ []) w.line)) (values_of w.type)) wide_lines
    ≡ map (λ (w : Wide). map (λ v. false) (values_of w.type)) wide_lines)
    × (map (λ (w : Wide). line_fits w.type (put stack_start (127 ∷ []) w.line)) wide_lines ≡ replicate 9 false)
unfolding picture_of put passes blanks nines field_picture fits_test digits_of
spoiled_unfit = (refl, refl)

-- 200STACK1xxxxxx05070100xxxxxxxxxxx and no reading; 300STACK1050701000.00xxxxxxxxxxxxxx and no heat

abbrev gas_line : List ℕ
gas_line = (50 ∷ 48 ∷ 48 ∷ []) ++ stack ++ unread 6 ++ date ++ unread 11 ++ replicate so2_ppm.width 32

abbrev idle_line : List ℕ
idle_line = (51 ∷ 48 ∷ 48 ∷ []) ++ stack ++ date ++ (48 ∷ 46 ∷ 48 ∷ 48 ∷ []) ++ unread 14 ++ replicate heat_rate.width 32

pub right_unfit : (hour_fault facility (period_on facility) 0 gas_line ≡ 0) × (line_fits So2Concentration gas_line ≡ false)
    × (operation_fault facility (period_on facility) 0 [] idle_line ≡ 0) × (line_fits Operation idle_line ≡ false)
unfolding all same columns put digits_from whole_of decimals_behind fixed_of field_of number_of digits_of leap_year days_in_month in_quarter days_before
    hour_of_quarter quarter_hour number_hour field_hour stamp_hour type_is shape_fault stack_fault common_fault field_fault digits_in rising_fault dated_fault date_fault
    so2_fault hour_fault operates idle_fault operating_fault timed_fault operation_fault picture_of passes blanks nines field_picture fits_test
right_unfit = (refl, refl, refl, refl)
