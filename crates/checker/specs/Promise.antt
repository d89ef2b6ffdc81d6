-- What the check promises of its answer to a file, in the words of the paper: every honest report is accepted; behind every accepted
-- file stand unrounded readings; whichever they are, the exact amounts lie within the stated bounds of the reported ones; NOx tons lie
-- within 1/20 ton of what the recorded figures come to; a figure is refused only where nothing unrounded lies behind it, and a total only
-- where it differs from the one formed. PromiseLaws.antt proves it.
use Rattle.std.specs.Prelude.{ℕ, ◌<◌, ◌≡◌, ◌&&◌, List, length}
use Rattle.std.proofs.Common.{lit<}
use Rattle.exact.specs.Logic.{All}
use Rattle.exact.specs.Fraction.{fraction, Near}
use Rattle.exact.specs.Rounding.{recorded}
use Rattle.formulas.specs.Hour.{tenth, Unrounded}
use Rattle.formulas.specs.Formulas.{Entry, LiesBehind}
use Rattle.totals.specs.Totals.{quarter_totals}
use Rattle.totals.specs.Mass.{mass_tons}
use Rattle.layout.specs.declared.RecordType.TheVariants.{Operation, QuarterTotals}
use Rattle.formulas.specs.declared.hour.Quantity.{Quantity}
use Rattle.totals.specs.declared.Quarter.{Quarter}
use Rattle.lines.specs.Lines.{lines}
use Rattle.lines.specs.LineFaults.{type_is, operates}
use Rattle.reading.specs.Recorded.{Line, lines_with, record_at, hour_count, hour_at, hours_of, totals_in}
use Rattle.reading.specs.RightFile.{RightFile}
use Rattle.reading.specs.declared.Report.{Report}
use Rattle.judging.specs.Judged.{number_for, type_for, Stated, stated_totals, acceptance}
use Rattle.judging.specs.Behind.{LieBehind, SetsBehind, exact_amount, reported, allowed}
use Rattle.judging.specs.JudgedPromise.{FirstDiffers}
use Rattle.checker.specs.Checked.{refusal, answer_numbers}
use Rattle.checker.specs.Checked.{Answer}

-- "honestly rounded from" (the paper)
pub record HonestlyRounded (file : List ℕ) (sets : List Unrounded) : Type 0 where
  pub report : Report
  pub right : RightFile file report
  pub behind : SetsBehind (hours_of file) sets
  pub totals : totals_in file ≡ quarter_totals (hours_of file)

-- the 300 lines with a positive time
abbrev pub operating_lines : List ℕ → List Line
operating_lines file = lines_with (λ l. type_is Operation l && operates l) 1 (lines file)

-- a figure of the file behind which nothing lies, on its line
pub record FailsAt (file : List ℕ) (q : Quantity) (line : ℕ) : Type 0 where
  pub report : Report
  pub right : RightFile file report
  pub hour : ℕ
  pub exists : hour < hour_count file
  pub own : line ≡ (record_at file (type_for q) hour).number
  pub nothing : (e : Entry q) → LiesBehind q (hour_at file hour) e → ⊥
  -- it is the first: readings lie behind every figure of the hours before, and behind those of its hour with a lesser number
  pub earlier : (k : ℕ) → k < hour → (p : Quantity) → (e : Entry p) × LiesBehind p (hour_at file k) e
  pub before : (p : Quantity) → number_for p < number_for q → (e : Entry p) × LiesBehind p (hour_at file hour) e

-- line 301 states another total than the one formed, and those before it as they are formed
pub record DiffersAt (file : List ℕ) (number line : ℕ) : Type 0 where
  pub report : Report
  pub right : RightFile file report
  pub own : line ≡ (record_at file QuarterTotals 0).number
  -- readings lie behind every figure
  pub behind : (q : Quantity) → (es : List (Entry q)) × LieBehind q (hours_of file) es
  pub first : FirstDiffers stated_totals (quarter_totals (hours_of file)) (totals_in file) number

pub record Promise (file : List ℕ) (answer : Answer) : Type 0 where
  pub honest : (sets : List Unrounded) → HonestlyRounded file sets → (r : Quarter) × (answer_numbers answer ≡ acceptance r)
  pub behind : (r : Quarter) → answer_numbers answer ≡ acceptance r → (q : Quantity) → (es : List (Entry q)) × LieBehind q (hours_of file) es
  pub bounds : (r : Quarter) → answer_numbers answer ≡ acceptance r → (q : Quantity) (es : List (Entry q)) → LieBehind q (hours_of file) es →
      Near (exact_amount q (hours_of file) es) (reported q r) (allowed q r.hours)
  -- NOx tons are of recorded figures: no hour has a share in the bound
  pub mass : (r : Quarter) → answer_numbers answer ≡ acceptance r → Near (mass_tons (hours_of file)) (recorded tenth r.nox_tons) (fraction 1 20 (lit< tt))
  pub rightly : (q : Quantity) (line : ℕ) → answer_numbers answer ≡ refusal (number_for q) line → FailsAt file q line
  pub differs : All (λ (t : Stated). (line : ℕ) → answer_numbers answer ≡ refusal t.number line → DiffersAt file t.number line) stated_totals
  pub count : (r : Quarter) → answer_numbers answer ≡ acceptance r → r.hours ≡ hour_count file
  pub operating : (r : Quarter) → answer_numbers answer ≡ acceptance r → r.hours ≡ length (operating_lines file)
  pub formed : (r : Quarter) → answer_numbers answer ≡ acceptance r → r ≡ quarter_totals (hours_of file)
  pub totals : (r : Quarter) → answer_numbers answer ≡ acceptance r → r ≡ totals_in file
  -- the lines of an accepted file are right, as the paper has them
  pub lines : (r : Quarter) → answer_numbers answer ≡ acceptance r → (report : Report) × RightFile file report
