-- How the hours and the totals of a quarter are judged: by lists of hours, without a file and without a sheet. It computes.
use Rattle.std.specs.Prelude.{ℕ, zero, suc, List, [], ◌∷◌, map, Bool, cond, eqb, length, get_or, Option, None, Some, Result, Ok, Err}
use Rattle.exact.specs.Faults.{first_failing}
use Rattle.layout.specs.declared.RecordType.{RecordType}
use Rattle.layout.specs.declared.RecordType.TheVariants.{Operation, QuarterTotals, So2Mass, NoxRate, Co2Mass}
use Rattle.formulas.specs.Formulas.{passes_test}
use Rattle.formulas.specs.declared.hour.Hour.{Hour}
use Rattle.formulas.specs.declared.hour.Quantity.{Quantity}
use Rattle.formulas.specs.declared.hour.Quantity.TheVariants.{Heat, So2, Nox, Co2}
use Rattle.totals.specs.Totals.{quarter_totals}
use Rattle.totals.specs.declared.Quarter.{Quarter}
use Rattle.refusals.specs.Refusals.{fault_number}
use Rattle.judging.specs.declared.FigureRow.{FigureRow}
use Rattle.judging.specs.declared.Failure.{Failure}

-- the figure of an hour as the paper has it: its refusal by its number
pub record PaperRow : Type 0 where
  pub quantity : Quantity
  pub number : ℕ
  pub record_type : RecordType

abbrev pub row_told : FigureRow → PaperRow
row_told r = record { quantity = r.quantity; number = fault_number r.fault; record_type = r.record_type }

-- a failure as the paper has it: the number of its refusal; where an hour's figure fails, that hour's rank from 1, else 0
pub record PaperFailure : Type 0 where
  pub number : ℕ
  pub rank : ℕ

abbrev pub rank_told : Option ℕ → ℕ
rank_told None = 0
rank_told (Some k) = suc k

abbrev pub failure_told : Failure → PaperFailure
failure_told f = record { number = fault_number f.fault; rank = rank_told f.hour }

abbrev pub Verdict : Type 0
Verdict = Result Quarter PaperFailure

abbrev pub figure : Quantity → ℕ → RecordType → PaperRow
figure quantity number type = record { quantity = quantity; number = number; record_type = type }

-- the figure of a quantity: its refusal, and the type of the line on which it stands
abbrev pub figure_of : Quantity → PaperRow
figure_of Heat = figure Heat 11 Operation
figure_of So2 = figure So2 12 So2Mass
figure_of Nox = figure Nox 13 NoxRate
figure_of Co2 = figure Co2 14 Co2Mass

abbrev pub number_for : Quantity → ℕ
number_for q = (figure_of q).number

abbrev pub type_for : Quantity → RecordType
type_for q = (figure_of q).record_type

-- the figures of an hour in the order of judging
abbrev pub figure_rows : List PaperRow
figure_rows = figure_of Heat ∷ figure_of So2 ∷ figure_of Nox ∷ figure_of Co2 ∷ []

abbrev pub figure_count : ℕ
figure_count = length figure_rows

abbrev pub figure_at : ℕ → PaperRow
figure_at j = get_or figure_rows j (figure_of Co2)

-- what an hour is tried by: a test, its refusal, and the type of the line that the refusal names
pub record Tried : Type 0 where
  pub passes : Hour → Bool
  pub number : ℕ
  pub type : RecordType

abbrev pub tried : PaperRow → Tried
tried f = record { passes = passes_test f.quantity; number = f.number; type = f.record_type }

-- in this order
abbrev pub figures_tried : List Tried
figures_tried = map tried figure_rows

-- the type of the line that a refusal names by its number: its row's, or 301 where none of these has it
abbrev pub type_among : List Tried → ℕ → RecordType
type_among [] number = QuarterTotals
type_among (t ∷ ts) number = cond (eqb t.number number) t.type (type_among ts number)

abbrev pub type_named : ℕ → RecordType
type_named number = type_among figures_tried number

-- a total that line 301 states, and its refusal
pub record Stated : Type 0 where
  pub number : ℕ
  pub amount : Quarter → ℕ

abbrev stated : ℕ → (Quarter → ℕ) → Stated
stated number amount = record { number = number; amount = amount }

-- in the order of its columns: in tenths, but the mean in thousandths
abbrev pub stated_totals : List Stated
stated_totals =
    stated 21 (λ r. r.so2) ∷ stated 22 (λ r. r.co2) ∷ stated 23 (λ r. r.heat) ∷ stated 24 (λ r. r.nox) ∷ stated 48 (λ r. r.nox_tons) ∷ []

-- what an acceptance says, as the paper has it: n and the totals
abbrev pub acceptance : Quarter → List ℕ
acceptance r = r.hours ∷ map (λ (t : Stated). t.amount r) stated_totals

-- what a verdict says: these, or number and rank
abbrev pub verdict_numbers : Verdict → List ℕ
verdict_numbers (Ok r) = acceptance r
verdict_numbers (Err f) = f.number ∷ f.rank ∷ []

abbrev pub failed_at : (number rank : ℕ) → Verdict
failed_at number rank = Err (record { number = number; rank = rank })

-- a failure, or else what follows
abbrev pub failed_or : (number rank : ℕ) → Verdict → Verdict
failed_or zero rank rest = rest
failed_or (suc c) rank rest = failed_at (suc c) rank

-- the number of the first of some tests that an hour fails; 0 where it passes all
abbrev pub failure_of : List Tried → Hour → ℕ
failure_of ts h = first_failing (λ (t : Tried). t.passes h) (λ (t : Tried). t.number) ts

abbrev pub hour_failure : Hour → ℕ
hour_failure h = failure_of figures_tried h

-- the hours from this rank on, and what follows them
unfoldable pub judged_hours : ℕ → List Hour → Verdict → Verdict
judged_hours rank [] rest = rest
judged_hours rank (h ∷ hs) rest = failed_or (hour_failure h) rank (judged_hours (suc rank) hs rest)

abbrev pub said_same : (formed said : Quarter) → Stated → Bool
said_same formed said t = eqb (t.amount formed) (t.amount said)

-- the number of the first total that is not said as formed; 0 where all are
abbrev pub totals_fault : (formed said : Quarter) → ℕ
totals_fault formed said = first_failing (said_same formed said) (λ (t : Stated). t.number) stated_totals

-- accepted where there is no fault; a total has rank 0
unfoldable pub compared_totals : (formed said : Quarter) → Verdict
compared_totals formed said = failed_or (totals_fault formed said) 0 (Ok formed)

-- the hours in their order, of ranks from 1, then the totals
unfoldable pub judged_quarter : List Hour → (said : Quarter) → Verdict
judged_quarter hs said = judged_hours 1 hs (compared_totals (quarter_totals hs) said)
