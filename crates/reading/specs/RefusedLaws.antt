-- The refusals of the line checks are those of Refused.antt, and no others.
use Rattle.std.specs.Prelude.{ℕ, zero, suc, ◌+◌, ◌-◌, ◌≤◌, ◌≡◌, Bool, cond, eqb, length, take, drop, get_or, Ok, Err}
use Rattle.std.proofs.Math.Path.{refl, sym}
use Rattle.std.proofs.Common.{ap, subst, ◌∙◌, true≢false, inl, arith, add-one, length-append, eqb-true, ne_eqb}
use mathlib.Core.List.{List, [], ◌∷◌, ◌++◌, append_assoc, append-nil}
use Rattle.std.proofs.Math.Bool.{true, false}
use Rattle.std.proofs.lemmas.Bool.{false≢true, eqb-false}
use Rattle.std.proofs.Math.Seq.{append_snoc}
use Rattle.exact.specs.Logic.{All}
use Rattle.exact.specs.Clauses.{FirstFails}
use Rattle.exact.proofs.ClauseLaws.{first_determined, told_first, told_wrong, first_among}
use Rattle.columns.specs.Columns.{columns}
use Rattle.layout.specs.Layout.{shape_with}
use Rattle.layout.specs.declared.RecordType.{RecordType}
use Rattle.layout.specs.declared.RecordType.TheVariants.{So2Concentration, Operation}
use Rattle.layout.specs.declared.Shape.{Shape}
use Rattle.lines.specs.Lines.{lines, last}
use Rattle.lines.specs.LineFaults.{type_is, period_on, facility_fault, facility_line, hour_in, hour_fault, hour_line, Due, due_fault, operates}
use Rattle.lines.specs.LineFaults.{operation_fault, said_of, operation_line}
use Rattle.lines.proofs.FaultLaws.{facility_said, said_fault, hour_said_lem}
use Rattle.lines.proofs.OperationLaws.{Said, said_operating, said_idle, operating_left}
use Rattle.lines.specs.RightLine.{paper_row, RightFacility, RightDue, RightListed}
use Rattle.lines.proofs.RightLaws.{type_right, right_type, facility_right, hour_right, due_says, operation_right, RightTime}
use Rattle.lines.proofs.RightLaws.RightTime.{runs, rests}
use Rattle.lines.specs.Clauses.{facility_clauses, hour_clauses, due_clauses, listed_clauses, of_line_checks}
use Rattle.lines.proofs.ClauseLaws.{facility_told, hour_told, due_told, listed_told, OfLines, values_numbers}
use Rattle.calendar.specs.Calendar.{Period}
use Rattle.lines.specs.LineFaults.{FacilityLine}
use Rattle.lines.specs.LineFaults.{HourLine}
use Rattle.lines.specs.LineFaults.{OperationSaid}
use Rattle.lines.specs.declared.operation.OperationLine.TheVariants.{Operating, Idle}
use Rattle.reading.specs.Reading.{stopped_at, run_of, runs_of, After, walk_due, end_operations, next_date, walk_operations}
use Rattle.reading.specs.Reading.{walk_end, walk_last, walk_listed, walk_later, walk_hours, walk, read_of}
use Rattle.reading.specs.Refused.{HoursTo, DuesTo, OperationsTo, first_due, last_due, some_left, when_none, Expected, clauses_of, type_of, Comes, RefusedBy}
use Rattle.reading.specs.Refused.Expected.{the_facility, an_hour, a_line, a_listed}
use Rattle.reading.specs.Refused.HoursTo.{no_hour, one_more}
use Rattle.reading.specs.Refused.DuesTo.{no_line, next_line}
use Rattle.reading.specs.Refused.OperationsTo.{none_listed, operated, idled}
use Rattle.reading.specs.Refused.Comes.{first, hour, early, operation, late}
use Rattle.reading.specs.Refused.RefusedBy.{unended, faulty, too_many, missing}
use Rattle.reading.specs.CleanLaws.{ended_walked, never_clean}
use Rattle.reading.specs.WalkLaws.{Other, hours_passed, early_passed, listed_passed, late_passed, complete_passed}
use Rattle.reading.specs.RightFile.{RightFile}
use Rattle.reading.specs.RightFileLaws.{right_read}
use Rattle.reading.specs.declared.Report.{Report}
use Rattle.refusals.specs.declared.PaperRefusal.{PaperRefusal}
use Rattle.reading.specs.Reading.{Reading}

-- a reading that is clean, or refuses by a row
abbrev ByRow : List ℕ → Reading → Type 0
ByRow file (Ok r) = Unit {0}
ByRow file (Err r) = RefusedBy file r.number r.line

-- what a line with a fault says
operation_faulty : (f : List ℕ) (p : Period) (from : ℕ) (date l : List ℕ) (number : ℕ) → operation_line f p from date l ≡ Err number →
    FirstFails (listed_clauses f p from date l) number
unfolding operation_line said_of
operation_faulty f p from date l number e = go (operation_fault f p from date l) refl (operates l) e
  where
    go : (n : ℕ) → operation_fault f p from date l ≡ n → (b : Bool) →
        said_of n (cond b (Operating (hour_in p Operation l)) (Idle (hour_in p Operation l))) ≡ Err number →
        FirstFails (listed_clauses f p from date l) number
    go zero k true w = absurd (let z : ◌≡◌ {A = ℕ} 0 1 = cc in omega arith)
    go zero k false w = absurd (let z : ◌≡◌ {A = ℕ} 0 1 = cc in omega arith)
    go (suc c) k b w = let n : suc c ≡ number = cc in subst (FirstFails (listed_clauses f p from date l)) n ((listed_told f p from date l).wrong c k)

hour_faulty : (f : List ℕ) (p : Period) (from : ℕ) (l : List ℕ) (number : ℕ) → hour_line f p from l ≡ Err number →
    FirstFails (hour_clauses f p from l) number
unfolding hour_line
hour_faulty f p from l number e =
    let s = said_fault (hour_fault f p from l) (hour_in p So2Concentration l) number e in
    rw s.0 at (told_wrong (hour_fault f p from l) (hour_clauses f p from l) (hour_told f p from l) (λ z. s.1 (sym s.0 ∙ z)))

facility_faulty : (l : List ℕ) (number : ℕ) → facility_line l ≡ Err number → FirstFails (facility_clauses l) number
unfolding facility_line
facility_faulty l number e = go (facility_fault l) refl e
  where
    go : (n : ℕ) → facility_fault l ≡ n → ◌≡◌ {A = FacilityLine} (elim n [ zero ↦ Ok (period_on l) | suc c ↦ Err (suc c) ]) (Err number) →
        FirstFails (facility_clauses l) number
    go zero k w = absurd (let z : ◌≡◌ {A = ℕ} 0 1 = cc in omega arith)
    go (suc c) k w = let n : suc c ≡ number = cc in subst (FirstFails (facility_clauses l)) n ((facility_told l).wrong c k)

-- a line that is not of its type
other_type : (f : List ℕ) (p : Period) (from : ℕ) (date l : List ℕ) → type_is Operation l ≡ false → FirstFails (listed_clauses f p from date l) 2
other_type f p from date l e = inl (refl, λ q. false≢true (sym e ∙ right_type Operation l q))

-- the first line, if there is one, is of none of these types
abbrev Others : List RecordType → List (List ℕ) → Type 0
Others ts ls = All (λ (t : RecordType). Other t ls) ts

none_of_lem : (ts : List RecordType) (l : List ℕ) (ls : List (List ℕ)) → Others ts (l ∷ ls) → All (λ (t : RecordType). take 3 l ≡ (paper_row t).type → ⊥) ts
none_of_lem [] l ls o = tt
none_of_lem (t ∷ ts) l ls o = ((λ q. false≢true (sym o.0 ∙ right_type t l q)), none_of_lem ts l ls o.1)

of_none : (ts : List RecordType) (l : List ℕ) (ls : List (List ℕ)) → All (λ (t : RecordType). take 3 l ≡ (paper_row t).type → ⊥) ts → Others ts (l ∷ ls)
of_none [] l ls o = tt
of_none (t ∷ ts) l ls o = (go (type_is t l) refl, of_none ts l ls o.1)
  where
    go : (b : Bool) → type_is t l ≡ b → type_is t l ≡ false
    go true e = absurd (o.0 (type_right t l e))
    go false e = e

-- where one has come, none is tried for
come : (done : List (List ℕ)) (l : List ℕ) (ts : List RecordType) (ls : List (List ℕ)) → Others (when_none (done ++ (l ∷ [])) ts) ls
come [] l ts ls = tt
come (x ∷ xs) l ts ls = tt

come_behind : (front done : List (List ℕ)) (l : List ℕ) (ts : List RecordType) (ls : List (List ℕ)) → Others (when_none (front ++ (done ++ (l ∷ []))) ts) ls
come_behind [] done l ts ls = come done l ts ls
come_behind (x ∷ xs) done l ts ls = tt

module _ (file : List ℕ) (ended : last file ≡ 10) where
  -- these lines are before those from `line` on
  record Before (before : List (List ℕ)) (line : ℕ) (ls : List (List ℕ)) : Type 0 where
    split : lines file ≡ before ++ ls
    counted : line ≡ length before + 1

  -- one line on
  next_before : (before : List (List ℕ)) (line : ℕ) (l : List ℕ) (ls : List (List ℕ)) → Before before line (l ∷ ls) → Before (before ++ (l ∷ [])) (line + 1) ls
  next_before before line l ls b =
      record { split = b.split ∙ sym (append_snoc before l ls); counted = omega (arith, b.counted, length-append before (l ∷ [])) }

  -- the same with the new line at the end of a part
  part_before : (front done : List (List ℕ)) (line : ℕ) (l : List ℕ) (ls : List (List ℕ)) → Before (front ++ done) line (l ∷ ls) →
      Before (front ++ (done ++ (l ∷ []))) (line + 1) ls
  part_before front done line l ls b =
      subst (λ (x : List (List ℕ)). Before x (line + 1) ls) (append_assoc front done (l ∷ [])) (next_before (front ++ done) line l ls b)

  row_faulty : (before : List (List ℕ)) (line : ℕ) (l : List ℕ) (ls : List (List ℕ)) → Before before line (l ∷ ls) →
      (due : Bool) (ts : List RecordType) (cs : Expected) (number : ℕ) → Comes before due ts cs → Others ts (l ∷ ls) →
      (due ≡ false → type_is (type_of cs) l ≡ true) → FirstFails (clauses_of cs l) number → RefusedBy file number line
  row_faulty before line l ls b due ts cs number c o t f =
      rw b.counted (faulty ended before ls l due ts cs number b.split c (none_of_lem ts l ls o) (λ e. type_right (type_of cs) l (t e)) f)

  row_missing : (before : List (List ℕ)) (line : ℕ) → Before before line [] → (ts : List RecordType) (cs : Expected) → Comes before true ts cs →
      RefusedBy file 10 line
  row_missing before line b ts cs c =
      let e : lines file ≡ before = b.split ∙ append-nil before in
      let n : line ≡ length (lines file) + 1 = rw e b.counted in
      rw n (missing ended ts cs (subst (λ (x : List (List ℕ)). Comes x true ts cs) (sym e) c))

  module _ (f : List ℕ) where
    -- lines that are due, behind some
    module _ (all : List Due) (front : List (List ℕ)) (tried : List RecordType)
        (make : (d : Due) (ds es : List Due) (done : List (List ℕ)) → all ≡ ds ++ (d ∷ es) → DuesTo f ds done →
        Comes (front ++ done) true (when_none done tried) (a_line f d))
        (after : After)
        (follows : (done : List (List ℕ)) → DuesTo f all done → (line : ℕ) (ls : List (List ℕ)) → Before (front ++ done) line ls →
        Others (when_none done tried) ls → ByRow file (after line ls)) where
      dues_row : (es ds : List Due) (done ls : List (List ℕ)) (line : ℕ) → all ≡ ds ++ es → DuesTo f ds done → Before (front ++ done) line ls →
          Others (when_none done tried) ls → ByRow file (walk_due f line es ls after)
      unfolding walk_due
      dues_row [] ds done ls line e t b o = follows done (subst (λ (x : List Due). DuesTo f x done) (sym (e ∙ append-nil ds)) t) line ls b o
      dues_row (d ∷ es) ds done [] line e t b o = row_missing (front ++ done) line b _ _ (make d ds es done e t)
      dues_row (d ∷ es) ds done (l ∷ ls) line e t b o =
          go (due_fault f d l) refl
          (λ r. dues_row es (ds ++ (d ∷ [])) (done ++ (l ∷ [])) ls (line + 1) (e ∙ sym (append_snoc ds d es)) (next_line d l t r)
          (part_before front done line l ls b) (come done l tried ls))
        where
          next : Reading
          next = walk_due f (line + 1) es ls after

          go : (n : ℕ) → due_fault f d l ≡ n → (RightDue f d.type d.hour l → ByRow file next) →
              ByRow file (elim n [ zero ↦ next | suc c ↦ stopped_at (suc c) line ])
          go zero z ih = ih (due_says f d.type d.hour l z)
          go (suc c) z ih =
              row_faulty (front ++ done) line l ls b true (when_none done tried) (a_line f d) (suc c) (make d ds es done e t) o
              (λ w. absurd (true≢false w)) ((due_told f d.type d.hour l).wrong c z)

    module _ (p : Period) (g : RightFacility f p) where
      -- behind the last 300 line
      module _ (hours : List (List ℕ)) (next : ℕ) (h : HoursTo f p hours next) (firsts : List (List ℕ)) (a : DuesTo f (first_due hours) firsts) where
        last_row : (listed : List (List ℕ)) (from : ℕ) → OperationsTo f p hours listed from [] → (s : Shape) (line : ℕ) (ls : List (List ℕ)) →
            Before (f ∷ hours ++ firsts ++ listed) line ls → Others (Operation ∷ when_none (firsts ++ listed) (So2Concentration ∷ [])) ls →
            ByRow file (walk_last f p s line hours ls)
        unfolding walk_last runs_of run_of walk_end
        last_row listed from o s line ls b x =
            dues_row (last_due hours) front (Operation ∷ when_none (firsts ++ listed) (So2Concentration ∷ [])) (late f p hours next g h firsts a listed from o)
            (walk_end (record { period = p; shape = s })) at_end
            (last_due hours) [] [] ls line refl no_line (subst (λ (x : List (List ℕ)). Before x line ls) (sym (append-nil front)) b) x
          where
            front : List (List ℕ)
            front = f ∷ hours ++ firsts ++ listed

            at_end : (done : List (List ℕ)) → DuesTo f (last_due hours) done → (line : ℕ) (ls : List (List ℕ)) → Before (front ++ done) line ls →
                Others (when_none done (Operation ∷ when_none (firsts ++ listed) (So2Concentration ∷ []))) ls →
                ByRow file (walk_end (record { period = p; shape = s }) line ls)
            at_end done t line [] b y = tt
            at_end done t line (l ∷ ls) b y =
                rw b.counted (too_many ended (front ++ done) ls l b.split (record {
                  facility = f;
                  period = p;
                  hours = hours;
                  next = next;
                  firsts = firsts;
                  listed = listed;
                  from = from;
                  lasts = done;
                  all = refl;
                  right_facility = g;
                  right_hours = h;
                  right_firsts = a;
                  right_listed = o;
                  right_lasts = t;
                }))

        -- the 300 lines
        module _ (start : ℕ) where
          abbrev then : After
          then end rest = walk_last f p (shape_with (length hours) (end - start)) end hours rest

          front_to : List (List ℕ) → List (List ℕ)
          front_to listed = f ∷ hours ++ firsts ++ listed

          over_row : (number line from : ℕ) (listed left ls : List (List ℕ)) → OperationsTo f p hours listed from left → Before (front_to listed) line ls →
              Others (Operation ∷ when_none (firsts ++ listed) (So2Concentration ∷ [])) ls →
              ((x : List ℕ) (xs : List (List ℕ)) → left ≡ x ∷ xs → RefusedBy file number line) → ByRow file (end_operations number line left ls then)
          unfolding end_operations front_to
          over_row number line from listed [] ls o b y r = last_row listed from o _ line ls b y
          over_row number line from listed (x ∷ xs) ls o b y r = r x xs refl

          abbrev due_date : List (List ℕ) → List ℕ
          due_date left = columns 16 8 (get_or left 0 [])

          -- a line more
          operated_on : (listed left : List (List ℕ)) (from hr : ℕ) (l : List ℕ) → OperationsTo f p hours listed from left →
              Said f p from (due_date left) l hr true → OperationsTo f p hours (listed ++ (l ∷ [])) (suc hr) (drop 1 left)
          unfolding columns
          operated_on listed [] from hr l o s = absurd (operating_left f p from (due_date []) l s.right s.operates refl)
          operated_on listed (x ∷ xs) from hr l o s =
              let r = operation_right f p from (due_date (x ∷ xs)) l s.right in
              let t : RightTime (due_date (x ∷ xs)) l true = rw s.operates at r.2 in
              go t (omega (arith, r.0, s.hour)) (rw s.hour at r.1)
            where
              go : RightTime (due_date (x ∷ xs)) l true → from ≤ hr → RightListed f p hr l → OperationsTo f p hours (listed ++ (l ∷ [])) (suc hr) xs
              go (runs d v w) b r = operated hr x l o b r (record { date = d; time = v; heat = w })

          idled_on : (listed left : List (List ℕ)) (from hr : ℕ) (l : List ℕ) → OperationsTo f p hours listed from left →
              Said f p from (due_date left) l hr false → OperationsTo f p hours (listed ++ (l ∷ [])) (suc hr) left
          idled_on listed left from hr l o s =
              let r = operation_right f p from (due_date left) l s.right in
              let t : RightTime (due_date left) l false = rw s.operates at r.2 in
              go t (omega (arith, r.0, s.hour)) (rw s.hour at r.1)
            where
              go : RightTime (due_date left) l false → from ≤ hr → RightListed f p hr l → OperationsTo f p hours (listed ++ (l ∷ [])) (suc hr) left
              go (rests i) b r = idled hr l o b r i

          comes : (listed left : List (List ℕ)) (from : ℕ) → OperationsTo f p hours listed from left →
              Comes (f ∷ hours ++ firsts ++ listed) (some_left left) (when_none (firsts ++ listed) (So2Concentration ∷ [])) (a_listed f p from (due_date left))
          comes listed left from o = operation f p hours next g h firsts a listed left from o

          operations_row : (ls listed left : List (List ℕ)) (from line : ℕ) → OperationsTo f p hours listed from left →
              Before (f ∷ hours ++ firsts ++ listed) line ls → Others (when_none (firsts ++ listed) (So2Concentration ∷ [])) ls →
              ByRow file (walk_operations f p line from left ls then)
          unfolding walk_operations front_to
          operations_row [] listed left from line o b y =
              over_row 10 line from listed left [] o b (tt, y) (λ x xs e.
              row_missing _ line b _ _ (rw (ap some_left e) at (comes listed left from o)))
          operations_row (l ∷ ls) listed left from line o b y =
              either (type_is Operation l) refl (λ own. go (operation_line f p from (next_date left) l) refl own
              (λ m hr rest x. operations_row ls (listed ++ (l ∷ [])) rest hr (line + 1) x m (come_behind firsts listed l (So2Concentration ∷ []) ls)))
            where
              more : Before (f ∷ hours ++ firsts ++ (listed ++ (l ∷ []))) (line + 1) ls
              more = part_before (f ∷ hours ++ firsts) listed line l ls b

              step : OperationSaid → Reading
              step x = elim x [
                | Ok (Operating hr) ↦ walk_operations f p (line + 1) (hr + 1) (drop 1 left) ls then
                | Ok (Idle hr) ↦ walk_operations f p (line + 1) (hr + 1) left ls then
                | Err number ↦ stopped_at number line
              ]

              go : (x : OperationSaid) → operation_line f p from (next_date left) l ≡ x → type_is Operation l ≡ true →
                  (Before (f ∷ hours ++ firsts ++ (listed ++ (l ∷ []))) (line + 1) ls → (hr : ℕ) (rest : List (List ℕ)) →
                  OperationsTo f p hours (listed ++ (l ∷ [])) hr rest → ByRow file (walk_operations f p (line + 1) hr rest ls then)) →
                  ByRow file (step x)
              go (Ok (Operating hr)) e own ih =
                  rw (add-one hr) (ih more (suc hr) (drop 1 left) (operated_on listed left from hr l o (said_operating f p from (next_date left) l hr e)))
              go (Ok (Idle hr)) e own ih = rw (add-one hr) (ih more (suc hr) left (idled_on listed left from hr l o (said_idle f p from (next_date left) l hr e)))
              go (Err number) e own ih =
                  row_faulty _ line l ls b (some_left left) _ (a_listed f p from (due_date left)) number (comes listed left from o) y
                  (λ w. own) (operation_faulty f p from (due_date left) l number e)

              either : (t : Bool) → type_is Operation l ≡ t → (type_is Operation l ≡ true → ByRow file (step (operation_line f p from (next_date left) l))) →
                  ByRow file (elim t [
                    | false ↦ end_operations 2 line left (l ∷ ls) then
                    | true ↦ step (operation_line f p from (next_date left) l)
                  ])
              either false e n =
                  over_row 2 line from listed left (l ∷ ls) o b (e, y) (λ x xs z.
                  row_faulty _ line l ls b (some_left left) _ (a_listed f p from (due_date left)) 2 (comes listed left from o) y
                  (λ w. absurd (false≢true (sym w ∙ ap some_left z))) (other_type f p from (due_date left) l e))
              either true e n = n e

      -- behind the last 200 line
      later_row : (hours : List (List ℕ)) (next : ℕ) → HoursTo f p hours next → (line : ℕ) (ls : List (List ℕ)) → Before (f ∷ hours) line ls →
          Other So2Concentration ls → ByRow file (walk_later f p line hours ls)
      unfolding walk_later walk_listed runs_of run_of
      later_row hours next h line ls b o =
          dues_row (first_due hours) (f ∷ hours) (So2Concentration ∷ []) (early f p hours next g h)
          (λ at rest. walk_listed f p at hours rest)
          (λ done t at rest c y.
          operations_row hours next h done t at rest [] hours 0 at none_listed
          (subst (λ (x : List (List ℕ)). Before x at rest) (sym (append-nil (f ∷ hours ++ done))) c)
          (subst (λ (x : List (List ℕ)). Others (when_none x (So2Concentration ∷ [])) rest) (sym (append-nil done)) y))
          (first_due hours) [] [] ls line refl no_line (subst (λ (x : List (List ℕ)). Before x line ls) (sym (append-nil (f ∷ hours))) b) (o, tt)

      hours_row : (ls hours : List (List ℕ)) (next line : ℕ) → HoursTo f p hours next → Before (f ∷ hours) line ls →
          ByRow file (walk_hours f p line next hours ls)
      unfolding walk_hours
      hours_row [] hours next line h b = later_row hours next h line [] b tt
      hours_row (l ∷ ls) hours next line h b =
          either (type_is So2Concentration l) refl
          (λ own. go (hour_line f p next l) refl own (λ hr m. hours_row ls (hours ++ (l ∷ [])) (suc hr) (line + 1) m (next_before (f ∷ hours) line l ls b)))
        where
          said : HourLine → Reading
          said x = elim x [ Ok hr ↦ walk_hours f p (line + 1) (hr + 1) (hours ++ (l ∷ [])) ls | Err number ↦ stopped_at number line ]

          go : (x : HourLine) → hour_line f p next l ≡ x → type_is So2Concentration l ≡ true →
              ((hr : ℕ) → HoursTo f p (hours ++ (l ∷ [])) (suc hr) → ByRow file (walk_hours f p (line + 1) (suc hr) (hours ++ (l ∷ [])) ls)) →
              ByRow file (said x)
          go (Ok hr) e own ih =
              let s = hour_said_lem f p next l hr e in
              let r = hour_right f p next l s.0 in
              rw (add-one hr) (ih hr (one_more hr l h (omega (arith, r.0, s.1)) (rw s.1 at r.1)))
          go (Err number) e own ih =
              row_faulty (f ∷ hours) line l ls b false [] (an_hour f p next) number (hour f p hours next g h) tt (λ w. own)
              (hour_faulty f p next l number e)

          either : (t : Bool) → type_is So2Concentration l ≡ t → (type_is So2Concentration l ≡ true → ByRow file (said (hour_line f p next l))) →
              ByRow file (elim t [ false ↦ walk_later f p line hours (l ∷ ls) | true ↦ said (hour_line f p next l) ])
          either false e n = later_row hours next h line (l ∷ ls) b e
          either true e n = n e

  walk_row : (ls : List (List ℕ)) → lines file ≡ ls → ByRow file (walk ls)
  unfolding walk
  walk_row [] e = row_missing [] 1 (record { split = e; counted = refl }) [] the_facility first
  walk_row (l ∷ ls) e = go (facility_line l) refl
    where
      go : (x : FacilityLine) → facility_line l ≡ x →
          ByRow file (elim x [ Ok period ↦ walk_hours l period 2 0 [] ls | Err number ↦ stopped_at number 1 ])
      go (Ok period) k =
          let s = facility_said l period k in
          hours_row l period (rw s.1 at (facility_right l s.0)) ls [] 0 2 no_hour (record { split = e; counted = refl })
      go (Err number) k =
          row_faulty [] 1 l ls (record { split = e; counted = refl }) true [] the_facility number first tt (λ w. absurd (true≢false w))
          (facility_faulty l number k)

read_row : (file : List ℕ) → ByRow file (read_of file)
unfolding read_of
read_row file = go (eqb (last file) 10) refl
  where
    go : (t : Bool) → eqb (last file) 10 ≡ t → ByRow file (elim t [ true ↦ walk (lines file) | false ↦ stopped_at 1 0 ])
    go true e = walk_row file (eqb-true (last file) 10 e) (lines file) refl
    go false e = unended (eqb-false (last file) 10 e)

pub refused_by : (file : List ℕ) (r : PaperRefusal) → read_of file ≡ Err r → RefusedBy file r.number r.line
refused_by file r e = rw e at (read_row file)

-- from the rows to the walk

-- what stops the walk where this may come next: nothing comes though it must, or a line that does not meet the clauses
abbrev Stops : Bool → List RecordType → Expected → List (List ℕ) → ℕ → Type 0
Stops due others e [] number = (due ≡ true) × (number ≡ 10)
Stops due others e (l ∷ ls) number = Others others (l ∷ ls) × (due ≡ false → type_is (type_of e) l ≡ true) × FirstFails (clauses_of e l) number

none_left : (ts : List RecordType) → Others ts []
none_left [] = tt
none_left (t ∷ ts) = (tt, none_left ts)

stops_others : (due : Bool) (others : List RecordType) (e : Expected) (ls : List (List ℕ)) (number : ℕ) → Stops due others e ls number → Others others ls
stops_others due others e [] number s = none_left others
stops_others due others e (l ∷ ls) number s = s.0

none_come : (done : List (List ℕ)) (ts : List RecordType) (ls : List (List ℕ)) → Others (when_none done ts) ls → done ≡ [] → Others ts ls
none_come done ts ls o e = rw e at o

facility_stops : (ls : List (List ℕ)) (number : ℕ) → Stops true [] the_facility ls number → walk ls ≡ stopped_at number 1
unfolding walk facility_line
facility_stops [] number s = rw s.1
facility_stops (l ∷ ls) number s =
    let c = told_first (facility_fault l) number (facility_clauses l) (facility_told l) s.2 in
    rw (c.1, walk) (ap (λ (n : ℕ). stopped_at n 1) c.2)

module _ (f : List ℕ) (line number : ℕ) where
  due_stops : (d : Due) (es : List Due) (others : List RecordType) (ls : List (List ℕ)) (after : After) → Stops true others (a_line f d) ls number →
      walk_due f line (d ∷ es) ls after ≡ stopped_at number line
  unfolding walk_due
  due_stops d es others [] after s = rw s.1
  due_stops d es others (l ∷ ls) after s =
      let c = told_first (due_fault f d l) number (due_clauses f d.type d.hour l) (due_told f d.type d.hour l) s.2 in
      rw (c.1, walk_due) (ap (λ (n : ℕ). stopped_at n line) c.2)

  module _ (p : Period) (from : ℕ) where
    hour_stops : (hours ls : List (List ℕ)) → Stops false [] (an_hour f p from) ls number → walk_hours f p line from hours ls ≡ stopped_at number line
    unfolding walk_hours hour_line
    hour_stops hours [] s = absurd (false≢true s.0)
    hour_stops hours (l ∷ ls) s =
        let c = told_first (hour_fault f p from l) number (hour_clauses f p from l) (hour_told f p from l) s.2 in
        rw (s.1 refl, walk_hours, c.1) (ap (λ (n : ℕ). stopped_at n line) c.2)

    listed_stops : (left : List (List ℕ)) (others : List RecordType) (ls : List (List ℕ)) (after : After) →
        Stops (some_left left) others (a_listed f p from (next_date left)) ls number → walk_operations f p line from left ls after ≡ stopped_at number line
    unfolding walk_operations end_operations operation_line said_of
    listed_stops [] others [] after s = absurd (false≢true s.0)
    listed_stops (h ∷ hs) others [] after s = rw s.1
    listed_stops left others (l ∷ ls) after s = go (type_is Operation l) refl left s
      where
        go : (t : Bool) → type_is Operation l ≡ t → (left : List (List ℕ)) → Stops (some_left left) others (a_listed f p from (next_date left)) (l ∷ ls) number →
            walk_operations f p line from left (l ∷ ls) after ≡ stopped_at number line
        go true e left s =
            let c = told_first (operation_fault f p from (next_date left) l) number _ (listed_told f p from (next_date left) l) s.2 in
            rw (e, walk_operations, c.1) (ap (λ (n : ℕ). stopped_at n line) c.2)
        go false e [] s = absurd (false≢true (sym e ∙ s.1 refl))
        go false e (h ∷ hs) s =
            let n = first_determined (listed_clauses f p from (next_date (h ∷ hs)) l) number 2 s.2 (other_type f p from (next_date (h ∷ hs)) l e) in
            rw (e, walk_operations, n)

comes_stops : {before : List (List ℕ)} {due : Bool} {others : List RecordType} {e : Expected} → Comes before due others e → (ls : List (List ℕ)) (number : ℕ) →
    Stops due others e ls number → walk (before ++ ls) ≡ stopped_at number (length before + 1)
comes_stops first ls number s = facility_stops ls number s
comes_stops (hour f p hours next g h) ls number s = hours_passed f p g hours next h ls ∙ hour_stops f _ number p next hours ls s
comes_stops (early f p hours next g h d ds es done e t) ls number s =
    let o = stops_others true _ (a_line f d) ls number s in
    early_passed f p g hours next h ds (d ∷ es) done ls e t (λ n. (none_come done _ ls o n).0) ∙ due_stops f _ number d es _ ls _ s
comes_stops (operation f p hours next g h firsts a listed left from t) ls number s =
    let o = stops_others (some_left left) _ (a_listed f p from (next_date left)) ls number s in
    listed_passed f p g hours next h firsts a listed left ls from t (λ n. (none_come (firsts ++ listed) _ ls o n).0)
    ∙ listed_stops f _ number p from left _ ls _ s
comes_stops (late f p hours next g h firsts a listed from b d ds es done e t) ls number s =
    let o = stops_others true _ (a_line f d) ls number s in
    late_passed f p g hours next h firsts a listed from b ds (d ∷ es) done ls e t
    (λ m. let i = none_come done _ ls o m in (i.0, λ n. (none_come (firsts ++ listed) _ ls i.1 n).0))
    ∙ due_stops f _ number d es _ ls _ s

pub read_refused : (file : List ℕ) (a k : ℕ) → RefusedBy file a k → read_of file ≡ stopped_at a k
unfolding read_of walk_end
read_refused file a k (unended n) = rw (ne_eqb (last file) 10 n, read_of)
read_refused file a k (faulty ended before rest l due others e number split c o t w) =
    ended_walked file ended ∙ ap walk split ∙ comes_stops c (l ∷ rest) number (of_none others l rest o, (λ z. right_type (type_of e) l (t z)), w)
read_refused file a k (too_many ended before rest l split c) = ended_walked file ended ∙ ap walk split ∙ complete_passed before (l ∷ rest) c
read_refused file a k (missing ended others e c) =
    ended_walked file ended ∙ ap walk (sym (append-nil (lines file))) ∙ comes_stops c [] 10 (refl, refl)

-- so a file is refused in one way, and a right one in none
pub refused_determined : (file : List ℕ) (a b k l : ℕ) → RefusedBy file a k → RefusedBy file b l → (a ≡ b) × (k ≡ l)
refused_determined file a b k l r s =
    let e : stopped_at a k ≡ stopped_at b l = sym (read_refused file a k r) ∙ read_refused file b l s in
    let same : ◌≡◌ {A = PaperRefusal} (record { number = a; line = k }) (record { number = b; line = l }) = cc in
    (ap (λ (x : PaperRefusal). x.number) same, ap (λ (x : PaperRefusal). x.line) same)

pub right_unrefused : (file : List ℕ) (r : Report) (a k : ℕ) → RightFile file r → RefusedBy file a k → ⊥
right_unrefused file r a k x s = never_clean a k r (sym (read_refused file a k s) ∙ right_read file r x)

-- the numbers of the refusals
expected_numbers : (e : Expected) (l : List ℕ) → OfLines (clauses_of e l)
expected_numbers the_facility l = (refl, (refl, (refl, (refl, (refl, (refl, tt))))))
expected_numbers (an_hour f p from) l = (refl, (refl, (refl, (refl, (refl, (refl, (refl, tt)))))))
expected_numbers (a_line f d) l = (refl, (refl, (refl, (refl, (refl, (refl, values_numbers (paper_row d.type).values l))))))
expected_numbers (a_listed f p from date) l =
    (refl, (refl, (refl, (refl, (refl, (refl, (refl, (refl, (refl, (refl, (refl, (refl, (refl, tt)))))))))))))

pub refused_number : {file : List ℕ} {number line : ℕ} → RefusedBy file number line → of_line_checks number ≡ true
refused_number (unended n) = refl
refused_number (faulty ended before rest l due others e number split c o t w) =
    first_among (λ (n : ℕ). of_line_checks n ≡ true) (clauses_of e l) number (expected_numbers e l) w
refused_number (too_many ended before rest l split c) = refl
refused_number (missing ended others e c) = refl
