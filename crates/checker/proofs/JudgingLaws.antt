-- What judging promises of the verdict on a file's hours and totals, and that a failure names a record that there is.
use Rattle.std.specs.Prelude.{ℕ, suc, ◌<◌, ◌≡◌, refl, length}
use Rattle.std.proofs.Common.{sym, subst, ◌∙◌, arith}
use mathlib.Core.List.{List, Memᴰ}
use Rattle.exact.specs.Logic.{All, all_member}
use Rattle.layout.specs.Layout.{count_of, shape}
use Rattle.layout.specs.declared.RecordType.{RecordType}
use Rattle.layout.specs.declared.Shape.{Shape}
use Rattle.formulas.specs.declared.hour.Quantity.{Quantity}
use Rattle.judging.specs.Judged.{figure_of, number_for, type_for, Tried, tried, figures_tried, type_named, failed_at}
use Rattle.judging.specs.JudgedPromise.{OfRow, JudgedPromise}
use Rattle.judging.proofs.JudgedLaws.{each_figure}
use Rattle.judging.specs.JudgedPromise.OfRow.{of_hour, of_quarter}
use Rattle.judging.proofs.JudgedPromiseLaws.{judged_promise}
use Rattle.reading.specs.Recorded.{records_of, hour_count, hour_at, hours_of, totals_in}
use Rattle.reading.specs.CleanFile.{clean_file, clean_hour}
use Rattle.reading.specs.RecordLaws.{records_standing, hours_standing}
use Rattle.reading.specs.RightFile.{RightFile}
use Rattle.reading.specs.declared.Report.{Report}
use Rattle.checker.specs.Checked.{verdict_on}
use Rattle.checker.specs.Judging.{Judgeable}

pub right_judgeable : (file : List ℕ) (report : Report) → RightFile file report → Judgeable file report.shape
right_judgeable file report right = let c = clean_file file report right in record { standing = c.standing; within = clean_hour file report c }

-- the number of what an hour is tried by names the type of its line, of which every hour has one
abbrev HasOwnLine : Tried → Type 0
HasOwnLine t = (type_named t.number ≡ t.type) × ((hours : ℕ) → count_of (shape hours) t.type ≡ hours)

own_lines : All HasOwnLine figures_tried
own_lines = let own : (hours : ℕ) → hours ≡ hours = λ hours. refl in ((refl, own), ((refl, own), ((refl, own), ((refl, own), tt))))

own_line : (t : Tried) → Memᴰ t figures_tried → HasOwnLine t
own_line t m = all_member HasOwnLine figures_tried t own_lines m

pub type_named_lem : (t : Tried) → Memᴰ t figures_tried → type_named t.number ≡ t.type
type_named_lem t m = (own_line t m).0

pub figure_named : (q : Quantity) → type_named (number_for q) ≡ type_for q
figure_named q = (each_figure (λ q. HasOwnLine (tried (figure_of q))) own_lines q).0

module _ (file : List ℕ) (s : Shape) (j : Judgeable file s) where
  pub file_judged : JudgedPromise (hour_at file) (hour_count file) (totals_in file) (verdict_on file)
  unfolding hours_of
  file_judged =
      judged_promise (hour_at file) (hour_count file) (λ k h. j.within k (omega (arith, hours_standing file s j.standing))) (totals_in file)

  -- every hour has a record of the type of what it is tried by
  pub hour_record_lem : (t : Tried) → Memᴰ t figures_tried → (k : ℕ) → k < hour_count file → k < length (records_of file t.type)
  hour_record_lem t m k h =
      let hours = hours_standing file s j.standing ∙ sym ((own_line t m).1 s.hours) in
      subst (λ (n : ℕ). k < n) (hours ∙ sym (records_standing file s j.standing t.type)) h

  pub failure_record : (number rank : ℕ) → verdict_on file ≡ failed_at number rank → (k : ℕ) → rank ≡ suc k →
      k < length (records_of file (type_named number))
  failure_record number rank e = go (file_judged.rows number rank e)
    where
      go : {number rank : ℕ} → OfRow (hour_count file) number rank → (k : ℕ) → rank ≡ suc k → k < length (records_of file (type_named number))
      go (of_hour t i m h) k e =
          subst (λ (type : RecordType). k < length (records_of file type)) (sym (type_named_lem t m)) (hour_record_lem t m k (omega (arith, e, h)))
      go (of_quarter t m) k e = absurd (omega arith)
