-- The promise holds of what the check answers to every file. Promise.antt states it.
use Rattle.std.specs.Prelude.{ℕ, ◌≡◌, refl, List, [], ◌∷◌, false, length, get_or, Ok, Err}
use Rattle.std.proofs.Common.{sym, ap, subst, ◌∙◌, arith}
use Rattle.std.proofs.lemmas.Bool.{false≢true}
use Rattle.exact.specs.Logic.{clash, ranked_length, All, ranked_all}
use Rattle.formulas.specs.Hour.{HourWithin, Unrounded}
use Rattle.totals.specs.Totals.{quarter_totals}
use Rattle.totals.proofs.FitLaws.{QuarterMost, totals_most}
use Rattle.layout.specs.declared.RecordType.{RecordType}
use Rattle.formulas.specs.declared.hour.Quantity.{Quantity}
use Rattle.totals.specs.declared.Quarter.{Quarter}
use Rattle.judging.specs.Judged.{number_for, Stated, stated_totals, acceptance, failed_at}
use Rattle.judging.specs.JudgedPromise.{DiffersFirst, JudgedPromise}
use Rattle.judging.proofs.JudgedLaws.{each_figure, said_same_lem}
use Rattle.judging.specs.Judged.{Verdict}
use Rattle.lines.specs.Clauses.{of_line_checks}
use Rattle.reading.specs.Reading.{read_of}
use Rattle.reading.specs.Recorded.{record_at, hour_count, hour_at, hours_of, totals_in}
use Rattle.reading.specs.RecordLaws.{hours_standing, operating_lines_lem}
use Rattle.reading.specs.RefusedLaws.{refused_by, refused_number}
use Rattle.reading.specs.RightFile.{RightFile}
use Rattle.reading.specs.RightFileLaws.{read_right, right_read}
use Rattle.reading.specs.declared.Report.{Report}
use Rattle.reading.specs.Reading.{Reading}
use Rattle.checker.specs.Checked.{refusal, answer_numbers, refused_at, line_named, answer_of, verdict_on, judged, after_reading, checked}
use Rattle.checker.proofs.JudgingLaws.{right_judgeable, figure_named, file_judged}
use Rattle.checker.specs.Promise.{HonestlyRounded, operating_lines, FailsAt, DiffersAt, Promise}
use Rattle.checker.specs.Checked.{Answer}

pub hours_count : (file : List ℕ) → length (hours_of file) ≡ hour_count file
unfolding hours_of
hours_count file = ranked_length (hour_at file) 0 (hour_count file)

-- what an answer says is an acceptance's or a refusal's
never_accepted : {A : Type 0} (number line : ℕ) (r : Quarter) → refused_at number line ≡ Ok r → A
never_accepted number line r e = clash cc

number_in : Answer → ℕ
number_in (Ok r) = 0
number_in (Err r) = r.number

line_in : Answer → ℕ
line_in (Ok r) = 0
line_in (Err r) = r.line

same_refusal : (a b c d : ℕ) → refused_at a b ≡ refused_at c d → (a ≡ c) × (b ≡ d)
unfolding number_in line_in
same_refusal a b c d e = (ap number_in e, ap line_in e)

-- what judging promises of a file whose lines are right
right_judged : (file : List ℕ) (report : Report) → RightFile file report → JudgedPromise (hour_at file) (hour_count file) (totals_in file) (verdict_on file)
right_judged file report right = file_judged file report.shape (right_judgeable file report right)

-- what an acceptance says
pub record Facts (file : List ℕ) (r : Quarter) : Type 0 where
  pub report : Report
  pub right : RightFile file report
  pub verdict : verdict_on file ≡ Ok r

answer_accepted : (file : List ℕ) (v : Verdict) (r : Quarter) → answer_of file v ≡ Ok r → v ≡ Ok r
answer_accepted file (Ok q) r e = ap Ok (same q r e)
  where
    same : (a b : Quarter) → ◌≡◌ {A = Answer} (Ok a) (Ok b) → a ≡ b
    same a b w = cc
answer_accepted file (Err f) r e = never_accepted f.number (line_named file f.number f.rank) r e

pub accepted_facts : (file : List ℕ) (r : Quarter) → checked file ≡ Ok r → Facts file r
unfolding checked after_reading judged
accepted_facts file r e = go (read_of file) refl e
  where
    go : (x : Reading) → read_of file ≡ x → after_reading file x ≡ Ok r → Facts file r
    go (Ok report) c w = record { report = report; right = read_right file report c; verdict = answer_accepted file (verdict_on file) r w }
    go (Err x) c w = never_accepted x.number x.line r w

-- a file of which they hold is accepted with these totals
pub facts_accepted : (file : List ℕ) (r : Quarter) → Facts file r → checked file ≡ Ok r
unfolding checked after_reading judged
facts_accepted file r f = ap (after_reading file) (right_read file f.report f.right) ∙ ap (answer_of file) f.verdict

-- an honest file is accepted with the totals formed
pub honest_checked : (file : List ℕ) (sets : List Unrounded) → HonestlyRounded file sets → checked file ≡ Ok (quarter_totals (hours_of file))
unfolding hours_of
honest_checked file sets h =
    facts_accepted file (quarter_totals (hours_of file)) (record {
      report = h.report;
      right = h.right;
      verdict = (right_judged file h.report h.right).honest sets h.behind h.totals;
    })

-- what a refusal says that is none of the line checks
record Refusing (file : List ℕ) (number line : ℕ) : Type 0 where
  pub report : Report
  pub right : RightFile file report
  pub rank : ℕ
  pub verdict : verdict_on file ≡ failed_at number rank
  pub own : line ≡ line_named file number rank

refusing : (file : List ℕ) (number line : ℕ) → of_line_checks number ≡ false → checked file ≡ refused_at number line → Refusing file number line
unfolding checked after_reading judged
refusing file number line apart e = go (read_of file) refl e
  where
    failing : (report : Report) → RightFile file report → (v : Verdict) → verdict_on file ≡ v → answer_of file v ≡ refused_at number line →
        Refusing file number line
    failing report right (Ok q) o w = never_accepted number line q (sym w)
    failing report right (Err f) o w =
        let s = same_refusal f.number (line_named file f.number f.rank) number line w in
        record {
          report = report;
          right = right;
          rank = f.rank;
          verdict = o ∙ ap (λ (n : ℕ). failed_at n f.rank) s.0;
          own = sym s.1 ∙ ap (λ (n : ℕ). line_named file n f.rank) s.0;
        }

    go : (x : Reading) → read_of file ≡ x → after_reading file x ≡ refused_at number line → Refusing file number line
    go (Err x) c w = absurd (false≢true (sym apart ∙ rw (same_refusal x.number x.line number line w).0 at (refused_number (refused_by file x c))))
    go (Ok report) c w = failing report (read_right file report c) (verdict_on file) refl w

-- the numbers of figures and totals are none of the line checks

figures_apart : (q : Quantity) → of_line_checks (number_for q) ≡ false
figures_apart = each_figure (λ q. of_line_checks (number_for q) ≡ false) (refl, (refl, (refl, (refl, tt))))

totals_apart : All (λ (t : Stated). of_line_checks t.number ≡ false) stated_totals
totals_apart = (refl, (refl, (refl, (refl, (refl, tt)))))

refused_rightly : (file : List ℕ) (q : Quantity) (line : ℕ) → checked file ≡ refused_at (number_for q) line → FailsAt file q line
refused_rightly file q line e =
    let r = refusing file (number_for q) line (figures_apart q) e in
    let f = (right_judged file r.report r.right).rightly q r.rank r.verdict in
    record {
      report = r.report;
      right = r.right;
      hour = f.hour;
      exists = f.exists;
      own =
          r.own ∙ ap (line_named file (number_for q)) f.own ∙ ap (λ (t : RecordType). (record_at file t f.hour).number) (figure_named q);
      nothing = f.nothing;
      earlier = f.earlier;
      before = f.before;
    }

-- a total refused, where judging says so of its number
refused_total : (file : List ℕ) (t : Stated) (line : ℕ) → of_line_checks t.number ≡ false →
    ((report : Report) → RightFile file report → (rank : ℕ) → verdict_on file ≡ failed_at t.number rank →
    DiffersFirst (hour_at file) (hour_count file) (totals_in file) t.number rank) →
    checked file ≡ refused_at t.number line → DiffersAt file t.number line
unfolding hours_of
refused_total file t line apart judged e =
    let r = refusing file t.number line apart e in
    let d = judged r.report r.right r.rank r.verdict in
    record { report = r.report; right = r.right; own = r.own ∙ ap (line_named file t.number) d.own; behind = d.behind; first = d.first }

-- as many 300 lines of a file with right lines have a positive time as it has hours
operating_count : (file : List ℕ) (report : Report) → RightFile file report → hour_count file ≡ length (operating_lines file)
operating_count file report right =
    let d = (right_judgeable file report right).standing in
    hours_standing file report.shape d ∙ sym d.operating ∙ ap length (operating_lines_lem file)

-- the numbers that an answer says determine it
pub accepts : (answer : Answer) (r : Quarter) → answer_numbers answer ≡ acceptance r → answer ≡ Ok r
accepts (Ok q) r e =
    let at : (k : ℕ) → get_or (acceptance q) k 0 ≡ get_or (acceptance r) k 0 = λ k. ap (λ (l : List ℕ). get_or l k 0) e in
    ap Ok (said_same_lem q r (at 0) (at 1, (at 2, (at 3, (at 4, (at 5, tt))))))
accepts (Err x) r e = absurd (let l = ap length e in omega arith)

refuses : (answer : Answer) (number line : ℕ) → answer_numbers answer ≡ refusal number line → answer ≡ refused_at number line
refuses (Ok q) number line e = absurd (let l = ap length e in omega arith)
refuses (Err x) number line e =
    let at : (k : ℕ) → get_or (refusal x.number x.line) k 0 ≡ get_or (refusal number line) k 0 = λ k. ap (λ (l : List ℕ). get_or l k 0) e in
    λ i. Err (record { number = at 0 i; line = at 1 i })

module _ (file : List ℕ) where
  -- what an acceptance rests on, by its numbers
  accepting : (r : Quarter) → answer_numbers (checked file) ≡ acceptance r → Facts file r
  accepting r e = accepted_facts file r (accepts (checked file) r e)

  judging : {r : Quarter} → Facts file r → JudgedPromise (hour_at file) (hour_count file) (totals_in file) (verdict_on file)
  judging f = right_judged file f.report f.right

-- how large what an acceptance says may be
pub accepted_most : (file : List ℕ) (r : Quarter) → answer_numbers (checked file) ≡ acceptance r → QuarterMost r
unfolding hours_of
accepted_most file r e =
    let f = accepting file r e in
    let j = right_judgeable file f.report f.right in
    let n = hours_standing file f.report.shape j.standing in
    let within = ranked_all HourWithin (hour_at file) f.report.shape.hours 0 (hour_count file) j.within (omega (arith, n)) in
    subst QuarterMost (sym ((judging file f).formed r f.verdict))
    (totals_most (hours_of file) within (omega (arith, hours_count file, n, j.standing.held.hours)))

pub promise : (file : List ℕ) → Promise file (checked file)
unfolding hours_of totals_in
promise file = record {
  honest = λ sets h. (quarter_totals (hours_of file), ap answer_numbers (honest_checked file sets h));
  behind = λ r e. let f = accepting file r e in (judging file f).behind r f.verdict;
  bounds = λ r e. let f = accepting file r e in (judging file f).bounds r f.verdict;
  mass = λ r e. let f = accepting file r e in (judging file f).mass r f.verdict;
  rightly = λ q line e. refused_rightly file q line (refuses (checked file) (number_for q) line e);
  differs = each stated_totals totals_apart (λ report right. (right_judged file report right).differs);
  count = λ r e. let f = accepting file r e in (judging file f).count r f.verdict;
  operating = λ r e. let f = accepting file r e in (judging file f).count r f.verdict ∙ operating_count file f.report f.right;
  formed = λ r e. let f = accepting file r e in (judging file f).formed r f.verdict;
  totals = λ r e. let f = accepting file r e in (judging file f).totals r f.verdict refl;
  lines = λ r e. let f = accepting file r e in (f.report, f.right);
}
  where
    each : (ts : List Stated) → All (λ (t : Stated). of_line_checks t.number ≡ false) ts →
        ((report : Report) → RightFile file report → All (λ (t : Stated). (rank : ℕ) → verdict_on file ≡ failed_at t.number rank →
        DiffersFirst (hour_at file) (hour_count file) (totals_in file) t.number rank) ts) →
        All (λ (t : Stated). (line : ℕ) → answer_numbers (checked file) ≡ refusal t.number line → DiffersAt file t.number line) ts
    each [] a d = tt
    each (t ∷ ts) a d = (
      (λ line e. refused_total file t line a.0 (λ report right. (d report right).0) (refuses (checked file) t.number line e)),
      each ts a.1 (λ report right. (d report right).1),
    )
