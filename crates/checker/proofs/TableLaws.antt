-- Every answer of the check is of a row of its table. Table.antt has the rows.
use Rattle.std.specs.Prelude.{ℕ, ◌≡◌, List, [], ◌∷◌, true, Ok, Err}
use Rattle.std.proofs.Math.Path.{refl}
use Rattle.std.proofs.Common.{sym, subst, arith}
use Rattle.exact.specs.Logic.{all_member}
use Rattle.layout.specs.declared.RecordType.{RecordType}
use Rattle.layout.specs.declared.RecordType.TheVariants.{QuarterTotals}
use Rattle.judging.specs.Judged.{figures_tried, stated_totals}
use Rattle.judging.specs.JudgedPromise.{OfRow}
use Rattle.judging.specs.JudgedPromise.OfRow.{of_hour, of_quarter}
use Rattle.judging.specs.Judged.{Verdict}
use Rattle.reading.specs.Reading.{read_of}
use Rattle.reading.specs.Recorded.{record_at, hour_count}
use Rattle.reading.specs.RecordedLaws.{has_record}
use Rattle.reading.specs.RecordLaws.{records_standing}
use Rattle.reading.specs.RefusedLaws.{refused_by, refused_number}
use Rattle.reading.specs.RightFile.{RightFile}
use Rattle.reading.specs.RightFileLaws.{read_right}
use Rattle.reading.specs.declared.Report.{Report}
use Rattle.reading.specs.Reading.{Reading}
use Rattle.checker.specs.Checked.{refusal, answer_numbers, refused_at, line_named, answer_of, verdict_on, judged, after_reading, checked}
use Rattle.checker.specs.Judging.{Judgeable}
use Rattle.checker.proofs.JudgingLaws.{right_judgeable, type_named_lem, file_judged, hour_record_lem}
use Rattle.checker.specs.Table.{InTable, of_check}
use Rattle.checker.specs.Table.InTable.{accepted, of_lines, of_figure, of_total}
use Rattle.checker.specs.Checked.{Answer}

module _ (file : List ℕ) where
  abbrev Listed : Answer → Type 0
  Listed answer = InTable file (answer_numbers answer)

  module _ (report : Report) (right : RightFile file report) where
    abbrev judgeable : Judgeable file report.shape
    judgeable = right_judgeable file report right

    -- a refusal of a row is one of the table
    row_listed : {number rank : ℕ} → OfRow (hour_count file) number rank → Listed (refused_at number (line_named file number rank))
    row_listed (of_hour t k m h) =
        subst (λ (type : RecordType). InTable file (refusal t.number (record_at file type k).number)) (sym (type_named_lem t m))
        (of_figure t (record_at file t.type k).number m (has_record file t.type k (hour_record_lem file report.shape judgeable t m k h)))
    row_listed (of_quarter t m) =
        of_total t (record_at file QuarterTotals 0).number m
        (has_record file QuarterTotals 0 (omega (arith, records_standing file report.shape judgeable.standing QuarterTotals)))

    judged_listed : Listed (judged file)
    unfolding judged
    judged_listed = go (verdict_on file) refl
      where
        go : (v : Verdict) → verdict_on file ≡ v → Listed (answer_of file v)
        go (Ok q) e = accepted q
        go (Err f) e = row_listed ((file_judged file report.shape judgeable).rows f.number f.rank e)

  pub in_table : InTable file (answer_numbers (checked file))
  unfolding checked after_reading
  in_table = go (read_of file) refl
    where
      go : (x : Reading) → read_of file ≡ x → Listed (after_reading file x)
      go (Ok report) e = judged_listed report (read_right file report e)
      go (Err r) e = of_lines r.number r.line (refused_by file r e)

-- of two numbers, which are a refusal, the first is the table's
abbrev InRanges : List ℕ → Type 0
InRanges [] = Unit {0}
InRanges (number ∷ []) = Unit {0}
InRanges (number ∷ line ∷ []) = of_check number ≡ true
InRanges (number ∷ line ∷ more ∷ rest) = Unit {0}

table_ranges : {file answer : List ℕ} → InTable file answer → InRanges answer
table_ranges (accepted r) = tt
table_ranges (of_lines number line r) = rw (refused_number r)
table_ranges (of_figure t line m h) = all_member (λ t. of_check t.number ≡ true) figures_tried t (refl, (refl, (refl, (refl, tt)))) m
table_ranges (of_total t line m h) = all_member (λ t. of_check t.number ≡ true) stated_totals t (refl, (refl, (refl, (refl, (refl, tt))))) m

pub table_numbers : (file : List ℕ) (number line : ℕ) → answer_numbers (checked file) ≡ refusal number line → of_check number ≡ true
table_numbers file number line e = table_ranges (rw e at (in_table file))
