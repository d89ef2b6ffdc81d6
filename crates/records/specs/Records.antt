-- The records of a report, byte by byte: a type's digits, a stack name, date and hour, and values, each in its columns.
use Rattle.std.specs.Prelude.{ℕ, List, [], ◌∷◌, ◌++◌, replicate}
use Rattle.columns.specs.Columns.{put}
use Rattle.columns.specs.Written.{digits_of, written}
use Rattle.layout.specs.Layout.{type_start, type_digits, stack_start, length_of, date_column, values_of}
use Rattle.layout.specs.Values.{year_digits, quarter_digit, scfh_of}
use Rattle.layout.specs.declared.values.Value.{Value}
use Rattle.layout.specs.declared.RecordType.{RecordType}
use Rattle.layout.specs.declared.RecordType.TheVariants.{Facility, So2Concentration, NoxConcentration, Co2Concentration, VolumetricFlow, Operation}
use Rattle.layout.specs.declared.RecordType.TheVariants.{QuarterTotals, So2Mass, NoxRate, Co2Mass}
use Rattle.formulas.specs.declared.hour.Hour.{Hour}
use Rattle.totals.specs.declared.Quarter.{Quarter}

-- type and stack name in an otherwise blank record
unfoldable pub headed : RecordType → List ℕ → List ℕ
headed t name = put stack_start name (put type_start (type_digits t) (replicate (length_of t) 32))

-- numbers in their columns, left to right
unfoldable pub valued : List Value → List ℕ → List ℕ → List ℕ
valued [] xs line = line
valued (v ∷ vs) [] line = line
valued (v ∷ vs) (x ∷ xs) line = valued vs xs (put v.start (written v.width v.decimals x) line)

-- a record and its byte 10
abbrev pub ended : List ℕ → List ℕ
ended line = line ++ (10 ∷ [])

unfoldable pub facility_record : ℕ → ℕ → List ℕ → List ℕ
facility_record year quarter name =
    put quarter_digit.start (digits_of quarter_digit.width quarter)
    (put year_digits.start (digits_of year_digits.width year) (headed Facility name))

-- the values of an hour in the record of a type, left to right
abbrev pub hour_values : RecordType → Hour → List ℕ
hour_values Facility h = []
hour_values So2Concentration h = h.readings.so2 ∷ []
hour_values NoxConcentration h = h.readings.nox ∷ []
hour_values Co2Concentration h = h.readings.co2 ∷ []
hour_values VolumetricFlow h = scfh_of h.readings.flow ∷ []
hour_values Operation h = h.time ∷ h.figures.heat ∷ []
hour_values QuarterTotals h = []
hour_values So2Mass h = h.figures.so2 ∷ []
hour_values NoxRate h = h.readings.fc ∷ h.figures.nox ∷ []
hour_values Co2Mass h = h.figures.co2 ∷ []

-- a record of an hour with these eight columns of date and hour
abbrev pub dated_record : List ℕ → RecordType → List ℕ → Hour → List ℕ
dated_record name t date h = valued (values_of t) (hour_values t h) (put (date_column t) date (headed t name))

-- in the order of the columns of record 301
abbrev pub total_values : Quarter → List ℕ
total_values q = q.so2 ∷ q.co2 ∷ q.heat ∷ q.nox ∷ q.nox_tons ∷ []

unfoldable pub totals_record : List ℕ → Quarter → List ℕ
totals_record name q = valued (values_of QuarterTotals) (total_values q) (headed QuarterTotals name)
