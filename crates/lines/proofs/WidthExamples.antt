-- Every value at its full width, in lines whose unread columns are no digits, and both ends of every range.
use Rattle.std.specs.Prelude.{◌≡◌, refl, true, false, List, [], ◌∷◌, ◌++◌, map, ℕ, replicate}
use Rattle.columns.specs.Bytes.{all, same}
use Rattle.columns.specs.Columns.{columns}
use Rattle.columns.specs.Number.{digits_from, whole_of, decimals_behind, fixed_of, field_of}
use Rattle.columns.specs.Written.{digits_of}
use Rattle.columns.specs.declared.Field.{Field}
use Rattle.columns.specs.declared.Field.TheVariants.{Number}
use Rattle.layout.specs.Layout.{values_of}
use Rattle.layout.specs.Values.{within, year_digits, quarter_digit, co2_percent, flow_scfh, time_hours, listed_time, f_factor}
use Rattle.layout.specs.declared.values.Value.{Value}
use Rattle.layout.specs.declared.RecordType.{RecordType}
use Rattle.layout.specs.declared.RecordType.TheVariants.{So2Concentration, NoxConcentration, Co2Concentration, VolumetricFlow, Operation}
use Rattle.layout.specs.declared.RecordType.TheVariants.{QuarterTotals, So2Mass, NoxRate, Co2Mass}
use Rattle.lines.specs.LineFaults.{type_is, shape_fault, field_fault, field_in}

-- what a line says, from left to right
abbrev said : RecordType → List ℕ → List Field
said t line = map (λ v. field_in v line) (values_of t)

-- a line of a type, and what it says
pub record Wide : Type 0 where
  pub type : RecordType
  pub line : List ℕ
  pub says : List ℕ

abbrev wide : RecordType → List ℕ → (line : List ℕ) → Wide
wide t says line = record { type = t; line = line; says = says }

-- STACK1, 05070100, and columns that are not read

abbrev pub stack : List ℕ
stack = 83 ∷ 84 ∷ 65 ∷ 67 ∷ 75 ∷ 49 ∷ []

abbrev pub date : List ℕ
date = 48 ∷ 53 ∷ 48 ∷ 55 ∷ 48 ∷ 49 ∷ 48 ∷ 48 ∷ []

abbrev pub unread : ℕ → List ℕ
unread n = replicate n 120

abbrev pub wide_lines : List Wide
wide_lines =
    -- 200STACK1xxxxxx05070100xxxxxxxxxxx1234.5
    wide So2Concentration (12_345 ∷ [])
    ((50 ∷ 48 ∷ 48 ∷ []) ++ stack ++ unread 6 ++ date ++ unread 11 ++ (49 ∷ 50 ∷ 51 ∷ 52 ∷ 46 ∷ 53 ∷ []))
    -- 201STACK1xxxxxx05070100xxxxx1234.5
    ∷ wide NoxConcentration (12_345 ∷ [])
    ((50 ∷ 48 ∷ 49 ∷ []) ++ stack ++ unread 6 ++ date ++ unread 5 ++ (49 ∷ 50 ∷ 51 ∷ 52 ∷ 46 ∷ 53 ∷ []))
    -- 202STACK1xxxxxx05070100xxxxx0100.0
    ∷ wide Co2Concentration (1000 ∷ [])
    ((50 ∷ 48 ∷ 50 ∷ []) ++ stack ++ unread 6 ++ date ++ unread 5 ++ (48 ∷ 49 ∷ 48 ∷ 48 ∷ 46 ∷ 48 ∷ []))
    -- 220STACK1xxxxxx05070100xxxxxxxxxxxxxxx9999999000
    ∷ wide VolumetricFlow (9_999_999_000 ∷ [])
    ((50 ∷ 50 ∷ 48 ∷ []) ++ stack ++ unread 6 ++ date ++ unread 15 ++ (57 ∷ 57 ∷ 57 ∷ 57 ∷ 57 ∷ 57 ∷ 57 ∷ 48 ∷ 48 ∷ 48 ∷ []))
    -- 300STACK1050701001.00xxxxxxxxxxxxxx12345.6
    ∷ wide Operation (100 ∷ 123_456 ∷ [])
    ((51 ∷ 48 ∷ 48 ∷ []) ++ stack ++ date ++ (49 ∷ 46 ∷ 48 ∷ 48 ∷ []) ++ unread 14 ++ (49 ∷ 50 ∷ 51 ∷ 52 ∷ 53 ∷ 46 ∷ 54 ∷ []))
    -- 301STACK1123456789.1234567891.2345678912.345.678567891234.5
    ∷ wide QuarterTotals (1_234_567_891 ∷ 2_345_678_912 ∷ 3_456_789_123 ∷ 45_678 ∷ 5_678_912_345 ∷ [])
    ((51 ∷ 48 ∷ 49 ∷ []) ++ stack ++ (49 ∷ 50 ∷ 51 ∷ 52 ∷ 53 ∷ 54 ∷ 55 ∷ 56 ∷ 57 ∷ 46 ∷ 49 ∷ [])
    ++ (50 ∷ 51 ∷ 52 ∷ 53 ∷ 54 ∷ 55 ∷ 56 ∷ 57 ∷ 49 ∷ 46 ∷ 50 ∷ []) ++ (51 ∷ 52 ∷ 53 ∷ 54 ∷ 55 ∷ 56 ∷ 57 ∷ 49 ∷ 50 ∷ 46 ∷ 51 ∷ [])
    ++ (52 ∷ 53 ∷ 46 ∷ 54 ∷ 55 ∷ 56 ∷ []) ++ (53 ∷ 54 ∷ 55 ∷ 56 ∷ 57 ∷ 49 ∷ 50 ∷ 51 ∷ 52 ∷ 46 ∷ 53 ∷ []))
    -- 310STACK105070100xxxxxxx12345.6xxx
    ∷ wide So2Mass (123_456 ∷ [])
    ((51 ∷ 49 ∷ 48 ∷ []) ++ stack ++ date ++ unread 7 ++ (49 ∷ 50 ∷ 51 ∷ 52 ∷ 53 ∷ 46 ∷ 54 ∷ []) ++ unread 3)
    -- 320STACK1xxx05070100xxxxx00003000.012.345xxxxxxxxxxxxx
    ∷ wide NoxRate (30_000 ∷ 12_345 ∷ [])
    ((51 ∷ 50 ∷ 48 ∷ []) ++ stack ++ unread 3 ++ date ++ unread 5 ++ (48 ∷ 48 ∷ 48 ∷ 48 ∷ 51 ∷ 48 ∷ 48 ∷ 48 ∷ 46 ∷ 48 ∷ [])
    ++ (49 ∷ 50 ∷ 46 ∷ 51 ∷ 52 ∷ 53 ∷ []) ++ unread 13)
    -- 330STACK10507010012345.6
    ∷ wide Co2Mass (123_456 ∷ [])
    ((51 ∷ 51 ∷ 48 ∷ []) ++ stack ++ date ++ (49 ∷ 50 ∷ 51 ∷ 52 ∷ 53 ∷ 46 ∷ 54 ∷ []))
    ∷ []

pub wide_values : (map (λ (w : Wide). shape_fault w.type w.line) wide_lines ≡ replicate 9 0)
    × (map (λ (w : Wide). said w.type w.line) wide_lines ≡ map (λ (w : Wide). map Number w.says) wide_lines)
unfolding all same columns digits_from whole_of decimals_behind fixed_of field_of digits_of type_is shape_fault
wide_values = (refl, refl)

-- the faults of these numbers in a value's columns
abbrev faults : Value → List ℕ → List ℕ
faults v ks = map (λ k. field_fault v (Number k)) ks

pub range_ends :
    (map (within year_digits) (1994 ∷ 1995 ∷ 2094 ∷ 2095 ∷ []) ≡ false ∷ true ∷ true ∷ false ∷ [])
    × (map (within quarter_digit) (0 ∷ 1 ∷ 4 ∷ 5 ∷ []) ≡ false ∷ true ∷ true ∷ false ∷ [])
    × (faults time_hours (0 ∷ 1 ∷ 100 ∷ 101 ∷ []) ≡ 9 ∷ 0 ∷ 0 ∷ 9 ∷ [])
    × (faults listed_time (0 ∷ 100 ∷ 101 ∷ []) ≡ 0 ∷ 0 ∷ 9 ∷ [])
    × (faults co2_percent (0 ∷ 1 ∷ 1000 ∷ 1001 ∷ []) ≡ 9 ∷ 0 ∷ 0 ∷ 9 ∷ [])
    × (faults flow_scfh (0 ∷ 500_001_000 ∷ 9_999_999_000 ∷ 9_999_999_001 ∷ []) ≡ 0 ∷ 0 ∷ 0 ∷ 9 ∷ [])
    × (faults f_factor (4999 ∷ 5000 ∷ 30_000 ∷ 30_001 ∷ []) ≡ 9 ∷ 0 ∷ 0 ∷ 9 ∷ [])
unfolding field_fault within
range_ends = (refl, refl, refl, refl, refl, refl, refl)
