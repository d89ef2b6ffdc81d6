-- The files without fault in their lines are those of RightFile.antt.
use Prim.Native.Nat.{ℕ, suc, ◌+◌, ◌-◌, ◌≤◌}
use Rattle.std.specs.Prelude.{◌≡◌, Bool, true, false, eqb, length, drop, Ok, Err}
use Rattle.std.proofs.Math.Path.{refl, ap}
use Rattle.std.proofs.Common.{sym, ◌∙◌, add-one, eqb-true}
use mathlib.Core.List.{List, [], ◌∷◌, ◌++◌, map, append_assoc, append-nil}
use native.Mathlib.Omega.{arith}
use Rattle.std.proofs.Math.Seq.{append_snoc}
use Rattle.columns.specs.Columns.{columns}
use Rattle.layout.specs.Layout.{shape_with}
use Rattle.layout.specs.declared.RecordType.{RecordType}
use Rattle.layout.specs.declared.RecordType.TheVariants.{So2Concentration, NoxConcentration, Co2Concentration, VolumetricFlow, Operation, QuarterTotals}
use Rattle.layout.specs.declared.RecordType.TheVariants.{So2Mass, NoxRate, Co2Mass}
use Rattle.layout.specs.declared.Shape.{Shape}
use Rattle.lines.specs.Lines.{lines, last}
use Rattle.lines.specs.LineFaults.{type_is, facility_line, hour_line, Due, due_of, operation_line}
use Rattle.lines.proofs.FaultLaws.{facility_said, hour_said_lem}
use Rattle.lines.proofs.OperationLaws.{Said, said_operating, said_idle, operating_left}
use Rattle.lines.specs.RightLine.{RightFacility, RightDue, RightListed}
use Rattle.lines.proofs.RightLaws.{facility_right, hour_right, due_says, RightTime, operation_right}
use Rattle.lines.proofs.RightLaws.RightTime.{runs, rests}
use Rattle.calendar.specs.Calendar.{Period}
use Rattle.lines.specs.LineFaults.{FacilityLine}
use Rattle.lines.specs.LineFaults.{HourLine}
use Rattle.lines.specs.LineFaults.{OperationSaid}
use Rattle.lines.specs.declared.operation.OperationLine.TheVariants.{Operating, Idle}
use Rattle.reading.specs.Reading.{stopped_at, first_types, last_types, run_of, runs_of, After, end_operations, next_date, walk_operations}
use Rattle.reading.specs.Reading.{walk_end, walk_last, walk_listed, walk_later, walk_hours, walk, read_of}
use Rattle.reading.specs.CleanLaws.{Matches, ended_walked, never_clean, due_clean, end_clean}
use Rattle.reading.specs.WalkLaws.{complete_passed}
use Rattle.reading.specs.Refused.{HoursTo, DuesTo, OperationsTo, Complete}
use Rattle.reading.specs.Refused.HoursTo.{no_hour, one_more}
use Rattle.reading.specs.Refused.DuesTo.{no_line, next_line}
use Rattle.reading.specs.Refused.OperationsTo.{none_listed, operated, idled}
use Rattle.reading.specs.RightFile.{RightHours, RightRun, RightOperations, RightFile}
use Rattle.reading.specs.RightFile.RightOperations.{done, operating, idling}
use Rattle.reading.specs.declared.Report.{Report}
use Rattle.reading.specs.Reading.{Reading}

-- from the walk to the lines

module _ (f : List ℕ) where
  -- the lines of a type that are due, and what is left
  record Run (t : RecordType) (hours : List (List ℕ)) (ds : List Due) (ls rest : List (List ℕ)) : Type 0 where
    run : List (List ℕ)
    left : List (List ℕ)
    split : ls ≡ run ++ left
    right : RightRun f t hours run
    more : Matches f ds left rest

  split_run : (t : RecordType) (hours : List (List ℕ)) (ds : List Due) (ls rest : List (List ℕ)) → Matches f (map (due_of t) hours ++ ds) ls rest →
      Run t hours ds ls rest
  split_run t [] ds ls rest m = record { run = []; left = ls; split = refl; right = tt; more = m }
  split_run t (h ∷ hs) ds [] rest m = absurd m
  split_run t (h ∷ hs) ds (l ∷ ls) rest m =
      let i = split_run t hs ds ls rest m.1 in
      record {
        run = l ∷ i.run;
        left = i.left;
        split = ap (λ (x : List (List ℕ)). l ∷ x) i.split;
        right = (due_says f t h l m.0, i.right);
        more = i.more;
      }

  module _ (p : Period) (r : Report) where
    -- the 200 lines, and what is left
    record Hours (from : ℕ) (before ls : List (List ℕ)) : Type 0 where
      hours : List (List ℕ)
      left : List (List ℕ)
      line : ℕ
      split : ls ≡ hours ++ left
      right : RightHours f p from hours
      more : walk_later f p line (before ++ hours) left ≡ Ok r

    no_more : (line from : ℕ) (before ls : List (List ℕ)) → walk_later f p line before ls ≡ Ok r → Hours from before ls
    no_more line from before ls w = record { hours = []; left = ls; line = line; split = refl; right = tt; more = rw (append-nil before) w }

    split_hours : (ls : List (List ℕ)) (line from : ℕ) (before : List (List ℕ)) → walk_hours f p line from before ls ≡ Ok r → Hours from before ls
    unfolding walk_hours
    split_hours [] line from before w = no_more line from before [] w
    split_hours (l ∷ ls) line from before w =
        go (type_is So2Concentration l) w (hour_line f p from l) refl (λ hour. split_hours ls (line + 1) (hour + 1) (before ++ (l ∷ [])))
      where
        next : ℕ → Reading
        next hour = walk_hours f p (line + 1) (hour + 1) (before ++ (l ∷ [])) ls

        said : HourLine → Reading
        said h = elim h [ Ok hour ↦ next hour | Err number ↦ stopped_at number line ]

        go : (t : Bool) → ◌≡◌ {A = Reading} (elim t [ false ↦ walk_later f p line before (l ∷ ls) | true ↦ said (hour_line f p from l) ]) (Ok r) →
            (h : HourLine) → hour_line f p from l ≡ h → ((hour : ℕ) → next hour ≡ Ok r → Hours (hour + 1) (before ++ (l ∷ [])) ls) →
            Hours from before (l ∷ ls)
        go false v h g ih = no_more line from before (l ∷ ls) v
        go true v (Err number) g ih = never_clean number line r (rw g at v)
        go true v (Ok hour) g ih =
            let s = hour_said_lem f p from l hour g in
            let o = hour_right f p from l s.0 in
            let i = ih hour (rw g at v) in
            record {
              hours = l ∷ i.hours;
              left = i.left;
              line = i.line;
              split = ap (λ (x : List (List ℕ)). l ∷ x) i.split;
              right = (hour, omega (arith, o.0, s.1), rw s.1 at o.1, rw (add-one hour) at i.right);
              more = rw (append_snoc before l i.hours) at i.more;
            }

    -- the 300 lines, and what is left
    module _ (after : After) where
      record Listed (line from : ℕ) (hours ls : List (List ℕ)) : Type 0 where
        listed : List (List ℕ)
        left : List (List ℕ)
        split : ls ≡ listed ++ left
        right : RightOperations f p from hours listed
        more : after (line + length listed) left ≡ Ok r

      none_left : (number line from : ℕ) (hours ls : List (List ℕ)) → end_operations number line hours ls after ≡ Ok r → Listed line from hours ls
      unfolding end_operations
      none_left number line from (h ∷ hs) ls w = never_clean number line r w
      none_left number line from [] ls w =
          let z : line + 0 ≡ line = omega arith in
          record { listed = []; left = ls; split = refl; right = done; more = rw z w }

      operating_on : (from hour : ℕ) (l : List ℕ) (hours : List (List ℕ)) → from ≤ hour → RightListed f p hour l → RightTime (next_date hours) l true →
          (next_date hours ≡ [] → ⊥) → (ls : List (List ℕ)) → RightOperations f p (suc hour) (drop 1 hours) ls → RightOperations f p from hours (l ∷ ls)
      unfolding columns
      operating_on from hour l [] b o t n ls m = absurd (n refl)
      operating_on from hour l (h ∷ hs) b o (runs d v w) n ls m = operating hour b o (record { date = d; time = v; heat = w }) m

      idling_on : (from hour : ℕ) (l : List ℕ) (hours : List (List ℕ)) → from ≤ hour → RightListed f p hour l → RightTime (next_date hours) l false →
          (ls : List (List ℕ)) → RightOperations f p (suc hour) hours ls → RightOperations f p from hours (l ∷ ls)
      idling_on from hour l hours b o (rests i) ls m = idling hour b o i m

      split_operations : (ls : List (List ℕ)) (line from : ℕ) (hours : List (List ℕ)) → walk_operations f p line from hours ls after ≡ Ok r →
          Listed line from hours ls
      unfolding walk_operations
      split_operations [] line from hours w = none_left 10 line from hours [] w
      split_operations (l ∷ ls) line from hours w =
          go (type_is Operation l) w (operation_line f p from (next_date hours) l) refl
          (λ hour left. split_operations ls (line + 1) (hour + 1) left)
        where
          step : OperationSaid → Reading
          step o = elim o [
            | Ok (Operating hour) ↦ walk_operations f p (line + 1) (hour + 1) (drop 1 hours) ls after
            | Ok (Idle hour) ↦ walk_operations f p (line + 1) (hour + 1) hours ls after
            | Err number ↦ stopped_at number line
          ]

          more_lines : (hour : ℕ) (b : Bool) (left : List (List ℕ)) → Said f p from (next_date hours) l hour b →
              (from ≤ hour → RightListed f p hour l → RightTime (next_date hours) l b → (ls : List (List ℕ)) → RightOperations f p (suc hour) left ls →
              RightOperations f p from hours (l ∷ ls)) →
              Listed (line + 1) (hour + 1) left ls → Listed line from hours (l ∷ ls)
          more_lines hour b left s g i =
              let o = operation_right f p from (next_date hours) l s.right in
              let z : line + 1 + length i.listed ≡ line + suc (length i.listed) = omega arith in
              record {
                listed = l ∷ i.listed;
                left = i.left;
                split = ap (λ (x : List (List ℕ)). l ∷ x) i.split;
                right =
                    g (omega (arith, o.0, s.hour)) (rw s.hour at o.1) (rw s.operates at o.2) i.listed (rw (add-one hour) at i.right);
                more = rw z at i.more;
              }

          go : (t : Bool) →
              ◌≡◌ {A = Reading} (elim t [ false ↦ end_operations 2 line hours (l ∷ ls) after | true ↦ step (operation_line f p from (next_date hours) l) ]) (Ok r) →
              (o : OperationSaid) → operation_line f p from (next_date hours) l ≡ o →
              ((hour : ℕ) (left : List (List ℕ)) → walk_operations f p (line + 1) (hour + 1) left ls after ≡ Ok r →
              Listed (line + 1) (hour + 1) left ls) →
              Listed line from hours (l ∷ ls)
          go false v o g ih = none_left 2 line from hours (l ∷ ls) v
          go true v (Err number) g ih = never_clean number line r (rw g at v)
          go true v (Ok (Idle hour)) g ih =
              let s = said_idle f p from (next_date hours) l hour g in
              more_lines hour false hours s (idling_on from hour l hours) (ih hour hours (rw g at v))
          go true v (Ok (Operating hour)) g ih =
              let s = said_operating f p from (next_date hours) l hour g in
              more_lines hour true (drop 1 hours) s
              (λ b o t. operating_on from hour l hours b o t (operating_left f p from (next_date hours) l s.right s.operates))
              (ih hour (drop 1 hours) (rw g at v))

module _ (f : List ℕ) (hours : List (List ℕ)) where
  record First (ls rest : List (List ℕ)) : Type 0 where
    nox : List (List ℕ)
    co2 : List (List ℕ)
    flow : List (List ℕ)
    split : ls ≡ nox ++ (co2 ++ (flow ++ rest))
    right_nox : RightRun f NoxConcentration hours nox
    right_co2 : RightRun f Co2Concentration hours co2
    right_flow : RightRun f VolumetricFlow hours flow

  abbrev flow_due : List Due
  flow_due = map (due_of VolumetricFlow) hours ++ []

  first_runs : (ls rest : List (List ℕ)) → Matches f (runs_of first_types hours) ls rest → First ls rest
  unfolding runs_of run_of
  first_runs ls rest m =
      let a = split_run f NoxConcentration hours (map (due_of Co2Concentration) hours ++ flow_due) ls rest m in
      let b = split_run f Co2Concentration hours flow_due a.left rest a.more in
      let c = split_run f VolumetricFlow hours [] b.left rest b.more in
      record {
        nox = a.run;
        co2 = b.run;
        flow = c.run;
        split =
            a.split ∙ ap (λ (x : List (List ℕ)). a.run ++ x) (b.split ∙ ap (λ (x : List (List ℕ)). b.run ++ x) (c.split
            ∙ ap (λ (x : List (List ℕ)). c.run ++ x) c.more));
        right_nox = a.right;
        right_co2 = b.right;
        right_flow = c.right;
      }

  record Last (ls : List (List ℕ)) : Type 0 where
    totals : List ℕ
    so2_mass : List (List ℕ)
    nox_rate : List (List ℕ)
    co2_mass : List (List ℕ)
    split : ls ≡ totals ∷ (so2_mass ++ (nox_rate ++ co2_mass))
    right_totals : RightDue f QuarterTotals [] totals
    right_so2 : RightRun f So2Mass hours so2_mass
    right_nox : RightRun f NoxRate hours nox_rate
    right_co2 : RightRun f Co2Mass hours co2_mass

  abbrev co2_due : List Due
  co2_due = map (due_of Co2Mass) hours ++ []

  abbrev nox_due : List Due
  nox_due = map (due_of NoxRate) hours ++ co2_due

  last_runs : (ls : List (List ℕ)) → Matches f (runs_of last_types hours) ls [] → Last ls
  unfolding runs_of run_of
  last_runs [] m = absurd m
  last_runs (l ∷ ls) m =
      let s = split_run f So2Mass hours nox_due ls [] m.1 in
      let n = split_run f NoxRate hours co2_due s.left [] s.more in
      let c = split_run f Co2Mass hours [] n.left [] n.more in
      record {
        totals = l;
        so2_mass = s.run;
        nox_rate = n.run;
        co2_mass = c.run;
        split =
            ap (λ (x : List (List ℕ)). l ∷ x) (s.split ∙ ap (λ (x : List (List ℕ)). s.run ++ x) (n.split ∙ ap (λ (x : List (List ℕ)). n.run ++ x) (c.split
            ∙ ap (λ (x : List (List ℕ)). c.run ++ x) c.more ∙ append-nil c.run)));
        right_totals = due_says f QuarterTotals [] l m.0;
        right_so2 = s.right;
        right_nox = n.right;
        right_co2 = c.right;
      }

walk_right : (file : List ℕ) → last file ≡ 10 → (r : Report) → walk (lines file) ≡ Ok r → RightFile file r
unfolding walk walk_later walk_listed walk_last
walk_right file ended r w = start (lines file) refl w
  where
    build : (f : List ℕ) (p : Period) → RightFacility f p → (ls : List (List ℕ)) → lines file ≡ f ∷ ls → walk_hours f p 2 0 [] ls ≡ Ok r → RightFile file r
    build f p g ls e v =
        let h = split_hours f p r ls 2 0 [] v in
        let hours = h.hours in
        let d = due_clean f h.line (runs_of first_types hours) h.left (λ next rest. walk_listed f p next hours rest) r h.more in
        let a = first_runs f hours h.left d.0 d.1 in
        let here = h.line + length (runs_of first_types hours) in
        let o = split_operations f p r (λ next rest. walk_last f p (shape_with (length hours) (next - here)) next hours rest) d.0 here 0 hours d.2 in
        let z : here + length o.listed - here ≡ length o.listed = omega arith in
        let report : Report = record { period = p; shape = shape_with (length hours) (length o.listed) } in
        let k = due_clean f (here + length o.listed) (runs_of last_types hours) o.left (walk_end report) r (rw z at o.more) in
        let q = end_clean report _ k.0 r k.2 in
        let b = last_runs f hours o.left (rw q.0 at k.1) in
        let all : lines file ≡ f ∷ (hours ++ (a.nox ++ (a.co2 ++ (a.flow ++ (o.listed ++ (b.totals ∷ (b.so2_mass ++ (b.nox_rate ++ b.co2_mass)))))))) =
        e ∙ ap (λ (x : List (List ℕ)). f ∷ x) (h.split
        ∙ ap (λ (x : List (List ℕ)). hours ++ x) (a.split
        ∙ ap (λ (x : List (List ℕ)). a.nox ++ (a.co2 ++ (a.flow ++ x))) (o.split ∙ ap (λ (x : List (List ℕ)). o.listed ++ x) b.split))) in
        let own : RightFile file report =
        record {
          ended = ended;
          facility = f;
          hours = hours;
          nox = a.nox;
          co2 = a.co2;
          flow = a.flow;
          operations = o.listed;
          totals = b.totals;
          so2_mass = b.so2_mass;
          nox_rate = b.nox_rate;
          co2_mass = b.co2_mass;
          order = all;
          right_facility = g;
          right_hours = h.right;
          right_nox = a.right_nox;
          right_co2 = a.right_co2;
          right_flow = a.right_flow;
          right_operations = o.right;
          right_totals = b.right_totals;
          right_so2_mass = b.right_so2;
          right_nox_rate = b.right_nox;
          right_co2_mass = b.right_co2;
          hour_count = refl;
          operation_count = refl;
        } in
        rw q.1 own

    start : (ls : List (List ℕ)) → lines file ≡ ls → walk ls ≡ Ok r → RightFile file r
    start [] e v = never_clean 10 1 r v
    start (f ∷ ls) e v = go (facility_line f) refl v
      where
        go : (x : FacilityLine) → facility_line f ≡ x →
            ◌≡◌ {A = Reading} (elim x [ Ok period ↦ walk_hours f period 2 0 [] ls | Err number ↦ stopped_at number 1 ]) (Ok r) → RightFile file r
        go (Err number) g k = never_clean number 1 r k
        go (Ok period) g k =
            let s = facility_said f period g in
            build f period (rw s.1 at (facility_right f s.0)) ls e k

pub read_right : (file : List ℕ) (r : Report) → read_of file ≡ Ok r → RightFile file r
unfolding read_of
read_right file r e = go (eqb (last file) 10) refl e
  where
    go : (t : Bool) → eqb (last file) 10 ≡ t → ◌≡◌ {A = Reading} (elim t [ true ↦ walk (lines file) | false ↦ stopped_at 1 0 ]) (Ok r) → RightFile file r
    go true k w = walk_right file (eqb-true (last file) 10 k) r w
    go false k w = never_clean 1 0 r w

-- from the lines to the walk

module _ (f : List ℕ) where
  run_to : (t : RecordType) (hours run : List (List ℕ)) (ds : List Due) (before : List (List ℕ)) → DuesTo f ds before → RightRun f t hours run →
      DuesTo f (ds ++ map (due_of t) hours) (before ++ run)
  run_to t [] [] ds before a r = rw (append-nil ds, append-nil before) a
  run_to t [] (l ∷ ls) ds before a r = absurd r
  run_to t (h ∷ hs) [] ds before a r = absurd r
  run_to t (h ∷ hs) (l ∷ ls) ds before a r =
      rw (← append_snoc ds (due_of t h) (map (due_of t) hs), ← append_snoc before l ls)
      (run_to t hs ls (ds ++ (due_of t h ∷ [])) (before ++ (l ∷ [])) (next_line (due_of t h) l a r.0) r.1)

  module _ (p : Period) where
    hours_to : (ls before : List (List ℕ)) (from : ℕ) → HoursTo f p before from → RightHours f p from ls → (next : ℕ) × HoursTo f p (before ++ ls) next
    hours_to [] before from a r = (from, rw (append-nil before) a)
    hours_to (l ∷ ls) before from a r =
        let i = hours_to ls (before ++ (l ∷ [])) (suc r.0) (one_more r.0 l a r.1 r.2) r.3 in
        (i.0, rw (append_snoc before l ls) at i.1)

    operations_to : (hours before left ls : List (List ℕ)) (from : ℕ) → OperationsTo f p hours before from left → RightOperations f p from left ls →
        (next : ℕ) × OperationsTo f p hours (before ++ ls) next []
    operations_to hours before left ls from a done = (from, rw (append-nil before) a)
    operations_to hours before left ls from a (operating hour {h = h} {l = l} {hs = hs} {ls = more} b r w m) =
        let i = operations_to hours (before ++ (l ∷ [])) hs more (suc hour) (operated hour h l a b r w) m in
        (i.0, rw (append_snoc before l more) at i.1)
    operations_to hours before left ls from a (idling hour {l = l} {hs = hs} {ls = more} b r w m) =
        let i = operations_to hours (before ++ (l ∷ [])) hs more (suc hour) (idled hour l a b r w) m in
        (i.0, rw (append_snoc before l more) at i.1)

-- right lines are all that are due
module _ (file : List ℕ) (r : Report) (x : RightFile file r) where
  right_complete : Complete (lines file)
  right_complete =
      let f = x.facility in
      let hs = x.hours in
      let h = hours_to f r.period hs [] 0 no_hour x.right_hours in
      let o = operations_to f r.period hs [] hs x.operations 0 none_listed x.right_operations in
      let a = run_to f NoxConcentration hs x.nox [] [] no_line x.right_nox in
      let b = run_to f Co2Concentration hs x.co2 _ _ a x.right_co2 in
      let c = run_to f VolumetricFlow hs x.flow _ _ b x.right_flow in
      let t = next_line (due_of QuarterTotals []) x.totals no_line x.right_totals in
      let s = run_to f So2Mass hs x.so2_mass _ _ t x.right_so2_mass in
      let n = run_to f NoxRate hs x.nox_rate _ _ s x.right_nox_rate in
      let m = run_to f Co2Mass hs x.co2_mass _ _ n x.right_co2_mass in
      record {
        facility = f;
        period = r.period;
        hours = hs;
        next = h.0;
        firsts = x.nox ++ (x.co2 ++ x.flow);
        listed = x.operations;
        from = o.0;
        lasts = x.totals ∷ (x.so2_mass ++ (x.nox_rate ++ x.co2_mass));
        all = x.order ∙ rw (append_assoc, append_assoc, append_assoc, append_assoc);
        right_facility = x.right_facility;
        right_hours = h.1;
        right_firsts = simp append-nil (simp append_assoc at c);
        right_listed = o.1;
        right_lasts = simp append-nil (simp append_assoc at m);
      }

  pub right_read : read_of file ≡ Ok r
  unfolding walk_end right_complete
  right_read =
      let own : shape_with (length x.hours) (length x.operations) ≡ r.shape = rw (x.hour_count, x.operation_count) in
      ended_walked file x.ended ∙ ap walk (sym (append-nil (lines file))) ∙ complete_passed (lines file) [] right_complete
      ∙ ap (λ (s : Shape). Ok (record { period = r.period; shape = s })) own
