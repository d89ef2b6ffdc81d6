-- Idle lines change nothing of an acceptance. Idle.antt states it.
use Rattle.std.specs.Prelude.{ℕ, ◌≡◌, List}
use Rattle.std.proofs.Common.{sym, ap, ap₂, ◌∙◌}
use Rattle.totals.specs.declared.Quarter.{Quarter}
use Rattle.reading.specs.Recorded.{hours_of, totals_in}
use Rattle.reading.specs.RightFile.{RightFile}
use Rattle.reading.specs.Idle.{WithoutIdle}
use Rattle.reading.specs.IdleLaws.{idle_hours, idle_totals, idle_right}
use Rattle.reading.specs.declared.Report.{Report}
use Rattle.judging.specs.Judged.{acceptance, judged_quarter}
use Rattle.checker.specs.Checked.{answer_numbers, checked}
use Rattle.checker.specs.Idle.{IdleFree}
use Rattle.checker.proofs.PromiseLaws.{accepted_facts, facts_accepted, accepts}

-- files of which the lines are right, with the same hours and totals, are accepted alike
same_accepted : (file other : List ℕ) (report : Report) → RightFile other report → hours_of file ≡ hours_of other → totals_in file ≡ totals_in other →
    (r : Quarter) → answer_numbers (checked file) ≡ acceptance r → answer_numbers (checked other) ≡ acceptance r
same_accepted file other report x h t r e =
    let f = accepted_facts file r (accepts (checked file) r e) in
    ap answer_numbers (facts_accepted other r (record {
      report = report;
      right = x;
      verdict = sym (ap₂ judged_quarter h t) ∙ f.verdict;
    }))

pub idle_free : (file other : List ℕ) → WithoutIdle file other → IdleFree file other
idle_free file other w =
    let h = idle_hours file other w in
    let t = idle_totals file other w in
    record {
      hours = h;
      totals = t;
      without = λ r e.
          let f = accepted_facts file r (accepts (checked file) r e) in
          same_accepted file other _ (idle_right file other w f.report f.right) (sym h) (sym t) r e;
      among = λ report x r e. same_accepted other file report x h t r e;
    }
