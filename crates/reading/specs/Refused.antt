-- What file and lines are refused with, and on which line, with the cause: the lines before it are right, and it is the first line that does not meet
-- its clauses, by the first that it does not meet. RefusedLaws.antt proves that the refusals of the line checks are these, and no others.
use Rattle.std.specs.Prelude.{ℕ, suc, ◌+◌, ◌≤◌, ◌≡◌, Bool, true, false, List, [], ◌∷◌, ◌++◌, map, length, take, get_or}
use Rattle.exact.specs.Logic.{All}
use Rattle.exact.specs.Clauses.{Clause, FirstFails}
use Rattle.columns.specs.Columns.{columns}
use Rattle.layout.specs.declared.RecordType.{RecordType}
use Rattle.layout.specs.declared.RecordType.TheVariants.{Facility, So2Concentration, Operation}
use Rattle.layout.specs.declared.RecordType.TheVariants.{NoxConcentration, Co2Concentration, VolumetricFlow, QuarterTotals, So2Mass, NoxRate, Co2Mass}
use Rattle.lines.specs.Lines.{lines, last}
use Rattle.lines.specs.LineFaults.{Due, due_of}
use Rattle.lines.specs.RightLine.{paper_row, RightFacility, RightHour, RightDue, RightListed, Operates, Idles}
use Rattle.lines.specs.Clauses.{facility_clauses, hour_clauses, due_clauses, listed_clauses}
use Rattle.calendar.specs.Calendar.{Period}

-- right 200 lines, behind which an hour from `next` on may follow
pub data HoursTo (facility : List ℕ) (p : Period) : List (List ℕ) → (next : ℕ) → Type 0 where
  no_hour : HoursTo facility p [] 0
  one_more : {ls : List (List ℕ)} {next : ℕ} (hour : ℕ) (l : List ℕ) → HoursTo facility p ls next → next ≤ hour → RightHour facility p hour l →
      HoursTo facility p (ls ++ (l ∷ [])) (suc hour)

-- right lines, one for each that is due
pub data DuesTo (facility : List ℕ) : List Due → List (List ℕ) → Type 0 where
  no_line : DuesTo facility [] []
  next_line : {ds : List Due} {ls : List (List ℕ)} (d : Due) (l : List ℕ) → DuesTo facility ds ls → RightDue facility d.type d.hour l →
      DuesTo facility (ds ++ (d ∷ [])) (ls ++ (l ∷ []))

-- right 300 lines, behind which an hour from `next` on may follow; the operating hours of these 200 lines are left
pub data OperationsTo (facility : List ℕ) (p : Period) (hours : List (List ℕ)) : List (List ℕ) → (next : ℕ) → List (List ℕ) → Type 0 where
  none_listed : OperationsTo facility p hours [] 0 hours
  operated : {ls left : List (List ℕ)} {next : ℕ} (hour : ℕ) (h l : List ℕ) → OperationsTo facility p hours ls next (h ∷ left) → next ≤ hour →
      RightListed facility p hour l → Operates h l → OperationsTo facility p hours (ls ++ (l ∷ [])) (suc hour) left
  idled : {ls left : List (List ℕ)} {next : ℕ} (hour : ℕ) (l : List ℕ) → OperationsTo facility p hours ls next left → next ≤ hour →
      RightListed facility p hour l → Idles l → OperationsTo facility p hours (ls ++ (l ∷ [])) (suc hour) left

-- the lines that are due in front of the 300 lines, and behind them
abbrev pub first_due : List (List ℕ) → List Due
first_due hours = map (due_of NoxConcentration) hours ++ (map (due_of Co2Concentration) hours ++ (map (due_of VolumetricFlow) hours ++ []))

abbrev pub last_due : List (List ℕ) → List Due
last_due hours = due_of QuarterTotals [] ∷ (map (due_of So2Mass) hours ++ (map (due_of NoxRate) hours ++ (map (due_of Co2Mass) hours ++ [])))

abbrev pub some_left : List (List ℕ) → Bool
some_left [] = false
some_left (h ∷ hs) = true

-- what may come next, by line 100: it, a 200 line of an hour from `from` on, a line that is due, or a 300 line of an hour from `from` on, of this
-- date where it operates; and the clauses that it must meet
pub data Expected : Type 0 where
  the_facility : Expected
  an_hour : (facility : List ℕ) (p : Period) (from : ℕ) → Expected
  a_line : (facility : List ℕ) (d : Due) → Expected
  a_listed : (facility : List ℕ) (p : Period) (from : ℕ) (date : List ℕ) → Expected

abbrev pub clauses_of : Expected → List ℕ → List Clause
clauses_of the_facility = facility_clauses
clauses_of (an_hour f p from) = hour_clauses f p from
clauses_of (a_line f d) = due_clauses f d.type d.hour
clauses_of (a_listed f p from date) = listed_clauses f p from date

abbrev pub type_of : Expected → RecordType
type_of the_facility = Facility
type_of (an_hour f p from) = So2Concentration
type_of (a_line f d) = d.type
type_of (a_listed f p from date) = Operation

-- types that are tried for where none of these lines has come
abbrev pub when_none : List (List ℕ) → List RecordType → List RecordType
when_none [] ts = ts
when_none (l ∷ ls) ts = []

-- these lines are right, and this may come next; `true` where it must; lines of these other types may come here too
pub data Comes : (before : List (List ℕ)) → Bool → List RecordType → Expected → Type 0 where
  first : Comes [] true [] Expected.the_facility
  hour : (f : List ℕ) (p : Period) (hours : List (List ℕ)) (next : ℕ) → RightFacility f p → HoursTo f p hours next →
      Comes (f ∷ hours) false [] (Expected.an_hour f p next)
  early : (f : List ℕ) (p : Period) (hours : List (List ℕ)) (next : ℕ) → RightFacility f p → HoursTo f p hours next →
      (d : Due) (ds es : List Due) (done : List (List ℕ)) → first_due hours ≡ ds ++ (d ∷ es) → DuesTo f ds done →
      Comes (f ∷ hours ++ done) true (when_none done (So2Concentration ∷ [])) (Expected.a_line f d)
  operation : (f : List ℕ) (p : Period) (hours : List (List ℕ)) (next : ℕ) → RightFacility f p → HoursTo f p hours next →
      (firsts : List (List ℕ)) → DuesTo f (first_due hours) firsts →
      (listed left : List (List ℕ)) (from : ℕ) → OperationsTo f p hours listed from left →
      Comes (f ∷ hours ++ firsts ++ listed) (some_left left) (when_none (firsts ++ listed) (So2Concentration ∷ []))
      (Expected.a_listed f p from (columns 16 8 (get_or left 0 [])))
  late : (f : List ℕ) (p : Period) (hours : List (List ℕ)) (next : ℕ) → RightFacility f p → HoursTo f p hours next →
      (firsts : List (List ℕ)) → DuesTo f (first_due hours) firsts →
      (listed : List (List ℕ)) (from : ℕ) → OperationsTo f p hours listed from [] →
      (d : Due) (ds es : List Due) (done : List (List ℕ)) → last_due hours ≡ ds ++ (d ∷ es) → DuesTo f ds done →
      Comes (f ∷ hours ++ firsts ++ listed ++ done) true (when_none done (Operation ∷ when_none (firsts ++ listed) (So2Concentration ∷ []))) (Expected.a_line f d)

-- these lines are right, and all that are due
pub record Complete (before : List (List ℕ)) : Type 0 where
  pub facility : List ℕ
  pub period : Period
  pub hours : List (List ℕ)
  pub next : ℕ
  pub firsts : List (List ℕ)
  pub listed : List (List ℕ)
  pub from : ℕ
  pub lasts : List (List ℕ)
  pub all : before ≡ facility ∷ hours ++ firsts ++ listed ++ lasts
  pub right_facility : RightFacility facility period
  pub right_hours : HoursTo facility period hours next
  pub right_firsts : DuesTo facility (first_due hours) firsts
  pub right_listed : OperationsTo facility period hours listed from []
  pub right_lasts : DuesTo facility (last_due hours) lasts

-- number and line; where what may come next need not, only a line of its type is held to its clauses
pub data RefusedBy (file : List ℕ) : ℕ → ℕ → Type 0 where
  unended : (last file ≡ 10 → ⊥) → RefusedBy file 1 0
  faulty : last file ≡ 10 → (before rest : List (List ℕ)) (l : List ℕ) (due : Bool) (others : List RecordType) (e : Expected) (number : ℕ) →
      lines file ≡ before ++ (l ∷ rest) → Comes before due others e → All (λ (t : RecordType). take 3 l ≡ (paper_row t).type → ⊥) others →
      (due ≡ false → take 3 l ≡ (paper_row (type_of e)).type) → FirstFails (clauses_of e l) number → RefusedBy file number (length before + 1)
  too_many : last file ≡ 10 → (before rest : List (List ℕ)) (l : List ℕ) → lines file ≡ before ++ (l ∷ rest) → Complete before →
      RefusedBy file 2 (length before + 1)
  missing : last file ≡ 10 → (others : List RecordType) (e : Expected) → Comes (lines file) true others e → RefusedBy file 10 (length (lines file) + 1)
