-- The sheet: six words to an operating hour, in the order hour, SO2, NOx, CO2, flow, Fc.
use Rattle.std.specs.Prelude.{ℕ, ◌+◌, ◌*◌, ◌/◌, ◌%◌, ◌^◌, List, length, get_or}
use Rattle.exact.specs.Logic.{ranked}
use Rattle.layout.specs.Layout.{shape}
use Rattle.layout.specs.Values.{stepped_value, flow_scfh, thousands_of, scfh_of}
use Rattle.layout.specs.declared.values.Value.{Value}
use Rattle.layout.specs.declared.Shape.{Shape}
use Rattle.formulas.specs.declared.hour.Readings.{Readings}
use Rattle.sheet.specs.declared.Word.{Word}
use Rattle.sheet.specs.declared.SheetHour.{SheetHour}

abbrev pub hour_words : ℕ
hour_words = 6

-- a word of 32 bits: its kind in the top three, its value in the others

abbrev pub value_size : ℕ
value_size = 2 ^ 29

abbrev pub word_kind : ℕ → ℕ
word_kind word = word / value_size

abbrev pub word_value : ℕ → ℕ
word_value word = word % value_size

abbrev pub apart : ℕ → Word
apart word = record { kind = word_kind word; value = word_value word }

-- the word of a kind and a value
abbrev pub word_of : (kind value : ℕ) → ℕ
word_of kind value = value_size * kind + value

-- how many kinds there may be
abbrev pub kind_size : ℕ
kind_size = 2 ^ 3

-- the kinds of an hour's readings, each the place of its word in the hour

abbrev pub so2_kind : ℕ
so2_kind = 1

abbrev pub nox_kind : ℕ
nox_kind = 2

abbrev pub co2_kind : ℕ
co2_kind = 3

abbrev pub flow_kind : ℕ
flow_kind = 4

-- how a sheet is read: the kind and the value of a word, the scfh of a flow word's value, what a flow may be
pub record SheetForm : Type 0 where
  pub kind : ℕ → ℕ
  pub value : ℕ → ℕ
  pub scfh : ℕ → ℕ
  pub flow : Value

-- the flow word counts thousands
abbrev pub present_form : SheetForm
present_form = record { kind = word_kind; value = word_value; scfh = scfh_of; flow = flow_scfh }

-- the form of the sheets that plants have kept: the flow word has scfh
abbrev pub first_form : SheetForm
first_form = record { kind = λ word. word / 2 ^ 29; value = λ word. word % 2 ^ 29; scfh = λ v. v; flow = stepped_value 39 10 0 0 500_000_000 1000 }

-- the kind and the value of word j of hour k, both from 0

abbrev pub sheet_kind_in : SheetForm → List ℕ → ℕ → ℕ → ℕ
sheet_kind_in f sheet k j = f.kind (get_or sheet (hour_words * k + j) 0)

abbrev pub sheet_value_in : SheetForm → List ℕ → ℕ → ℕ → ℕ
sheet_value_in f sheet k j = f.value (get_or sheet (hour_words * k + j) 0)

abbrev pub sheet_kind : List ℕ → ℕ → ℕ → ℕ
sheet_kind = sheet_kind_in present_form

abbrev pub sheet_value : List ℕ → ℕ → ℕ → ℕ
sheet_value = sheet_value_in present_form

-- the first value of an hour is the hour of the quarter times this and the time in hundredths
abbrev pub time_size : ℕ
time_size = 128

unfoldable pub sheet_hour_in : SheetForm → List ℕ → ℕ → SheetHour
sheet_hour_in f sheet k = record {
  hour = sheet_value_in f sheet k 0 / time_size;
  time = sheet_value_in f sheet k 0 % time_size;
  so2 = sheet_value_in f sheet k so2_kind;
  nox = sheet_value_in f sheet k nox_kind;
  co2 = sheet_value_in f sheet k co2_kind;
  scfh = f.scfh (sheet_value_in f sheet k flow_kind);
  fc = sheet_value_in f sheet k 5;
}

abbrev pub sheet_hour : List ℕ → ℕ → SheetHour
sheet_hour = sheet_hour_in present_form

-- its readings, as they are recorded
abbrev pub recorded_readings : SheetHour → Readings
recorded_readings h = record { so2 = h.so2; nox = h.nox; co2 = h.co2; flow = thousands_of h.scfh; fc = h.fc }

abbrev pub sheet_hour_count : List ℕ → ℕ
sheet_hour_count sheet = length sheet / hour_words

-- the shape of a sheet's report
abbrev pub shape_of : List ℕ → Shape
shape_of sheet = shape (sheet_hour_count sheet)

unfoldable pub sheet_hours_in : SheetForm → List ℕ → List SheetHour
sheet_hours_in f sheet = ranked (sheet_hour_in f sheet) 0 (sheet_hour_count sheet)

abbrev pub sheet_hours : List ℕ → List SheetHour
sheet_hours = sheet_hours_in present_form
