-- The walk goes on behind right lines. Refused.antt says which lines are right as far as they go.
use Rattle.std.specs.Prelude.{ℕ, suc, ◌+◌, ◌-◌, ◌≤◌, ◌≡◌, Bool, not, eqb, drop, Ok, Err}
use Rattle.std.proofs.Math.Path.{refl, ap}
use Rattle.std.proofs.Common.{sym, subst, ◌∙◌}
use mathlib.Core.List.{List, [], ◌∷◌, ◌++◌, map, append_assoc, append-nil}
use Rattle.std.proofs.Math.Bool.{true, false, cond}
use native.Mathlib.Omega.{arith}
use Rattle.std.proofs.Math.Numerals.{add-one}
use Rattle.std.proofs.Math.ListN.{length, length-append}
use Rattle.std.proofs.Math.Seq.{append_snoc}
use Rattle.std.proofs.lemmas.Bool.{not-true}
use Rattle.exact.specs.Logic.{both, All, all_parts}
use Rattle.layout.specs.Layout.{code_of, shape_with}
use Rattle.layout.proofs.TypeLaws.{absent}
use Rattle.layout.specs.declared.RecordType.{RecordType}
use Rattle.layout.specs.declared.RecordType.TheVariants.{So2Concentration, Operation}
use Rattle.lines.specs.LineFaults.{type_is, facility_line, hour_line, Due, due_of, due_fault, operation_line}
use Rattle.lines.proofs.FaultLaws.{type_same}
use Rattle.lines.proofs.OperationLaws.{operation_said}
use Rattle.lines.specs.RightLine.{Headed, RightFacility, RightListed}
use Rattle.lines.proofs.RightLaws.{right_type, right_facility, right_hour, says_due, RightTime, right_operation}
use Rattle.lines.proofs.RightLaws.RightTime.{runs, rests}
use Rattle.calendar.specs.Calendar.{Period}
use Rattle.lines.specs.declared.operation.OperationLine.TheVariants.{Operating, Idle}
use Rattle.reading.specs.Reading.{stopped_at, first_types, last_types, hours_due, run_of, runs_of, After, walk_due, end_operations, next_date, walk_operations}
use Rattle.reading.specs.Reading.{walk_end, walk_last, walk_listed, walk_later, walk_hours, walk}
use Rattle.reading.specs.Refused.{HoursTo, DuesTo, OperationsTo, first_due, last_due, Complete}
use Rattle.reading.specs.Refused.HoursTo.{no_hour, one_more}
use Rattle.reading.specs.Refused.DuesTo.{no_line, next_line}
use Rattle.reading.specs.Refused.OperationsTo.{none_listed, operated, idled}

-- no line that is due is of this type
abbrev pub Apart : RecordType → List Due → Type 0
Apart u ds = All (λ (d : Due). eqb (code_of d.type) (code_of u) ≡ false) ds

run_apart : (u t : RecordType) (hours : List (List ℕ)) (ds : List Due) → eqb (code_of t) (code_of u) ≡ false → Apart u ds → Apart u (map (due_of t) hours ++ ds)
run_apart u t [] ds e a = a
run_apart u t (h ∷ hs) ds e a = (e, run_apart u t hs ds e a)

pub runs_apart : (u : RecordType) (ts : List RecordType) (hours : List (List ℕ)) → absent (code_of u) ts ≡ true → Apart u (runs_of ts hours)
unfolding runs_of run_of
runs_apart u [] hours n = tt
runs_apart u (t ∷ ts) hours n =
    let b = both (not (eqb (code_of t) (code_of u))) (absent (code_of u) ts) n in
    run_apart u t (hours_due t hours) (runs_of ts hours) (not-true _ b.0) (runs_apart u ts hours b.1)

-- the first line, if there is one, is not of this type
abbrev pub Other : RecordType → List (List ℕ) → Type 0
Other t [] = Unit {0}
Other t (l ∷ ls) = type_is t l ≡ false

module _ (f : List ℕ) where
  headed_type : (t : RecordType) (l : List ℕ) → Headed f t l → type_is t l ≡ true
  headed_type t l h = right_type t l h.shaped.type

  headed_other : (t u : RecordType) (l : List ℕ) → Headed f t l → eqb (code_of t) (code_of u) ≡ false → type_is u l ≡ false
  headed_other t u l h e = type_same t u l (headed_type t l h) ∙ e

  -- lines that are due

  dues_walked : {ds : List Due} {ls : List (List ℕ)} → DuesTo f ds ls → (line : ℕ) (es : List Due) (rest : List (List ℕ)) (after : After) →
      walk_due f line (ds ++ es) (ls ++ rest) after ≡ walk_due f (line + length ls) es rest after
  unfolding walk_due
  dues_walked no_line line es rest after = let z : line + 0 ≡ line = omega arith in rw z
  dues_walked (next_line {ds = ds} {ls = ls} d l t r) line es rest after =
      let z : line + length ls + 1 ≡ line + length (ls ++ (l ∷ [])) = omega (arith, length-append ls (l ∷ [])) in
      let none : due_fault f d l ≡ 0 = says_due f d.type d.hour l r in
      rw (append_snoc ds d es, append_snoc ls l rest, dues_walked t line (d ∷ es) (l ∷ rest) after, walk_due, none, z)

  dues_length : {ds : List Due} {ls : List (List ℕ)} → DuesTo f ds ls → length ds ≡ length ls
  dues_length no_line = refl
  dues_length (next_line {ds = ds} {ls = ls} d l t r) = omega (arith, length-append ds (d ∷ []), length-append ls (l ∷ []), dues_length t)

  dues_other : (u : RecordType) {ds : List Due} {ls : List (List ℕ)} → DuesTo f ds ls → Apart u ds → (rest : List (List ℕ)) → (ls ≡ [] → Other u rest) →
      Other u (ls ++ rest)
  dues_other u no_line a rest o = o refl
  dues_other u (next_line {ds = ds} {ls = ls} d l t r) a rest o =
      let b = all_parts _ ds (d ∷ []) a in
      rw (append_snoc ls l rest) (dues_other u t b.0 (l ∷ rest) (λ e. headed_other d.type u l r.headed b.1.0))

  module _ (p : Period) where
    -- 200 lines

    hours_walked : {hours : List (List ℕ)} {next : ℕ} → HoursTo f p hours next → (line : ℕ) (rest : List (List ℕ)) →
        walk_hours f p line 0 [] (hours ++ rest) ≡ walk_hours f p (line + length hours) next hours rest
    unfolding walk_hours hour_line
    hours_walked no_hour line rest = let z : line + 0 ≡ line = omega arith in rw z
    hours_walked (one_more {ls = ls} {next = next} hour l t b r) line rest =
        let h = right_hour f p next l hour b r in
        let z : line + length ls + 1 ≡ line + length (ls ++ (l ∷ [])) = omega (arith, length-append ls (l ∷ [])) in
        let own = headed_type So2Concentration l r.headed in
        rw (append_snoc ls l rest, hours_walked t line (l ∷ rest), walk_hours, own, walk_hours, h.0, h.1, add-one hour, z)

    pub hours_over : (line from : ℕ) (hours rest : List (List ℕ)) → Other So2Concentration rest →
        walk_hours f p line from hours rest ≡ walk_later f p line hours rest
    unfolding walk_hours
    hours_over line from hours [] o = refl
    hours_over line from hours (l ∷ ls) o = rw (o, walk_hours)

    -- 300 lines

    listed_walked : (b : Bool) (line from hour : ℕ) (left rest : List (List ℕ)) (l : List ℕ) (after : After) → from ≤ hour → RightListed f p hour l →
        RightTime (next_date left) l b →
        walk_operations f p line from left (l ∷ rest) after ≡ walk_operations f p (line + 1) (suc hour) (cond b (drop 1 left) left) rest after
    unfolding walk_operations
    listed_walked b line from hour left rest l after h r t =
        let s = right_operation f p from (next_date left) l hour h r b t in
        let said : operation_line f p from (next_date left) l ≡ Ok (cond b (Operating hour) (Idle hour)) =
        operation_said f p from (next_date left) l s.0 ∙ rw (s.2, s.1) in
        rw (headed_type Operation l r.headed, walk_operations, said) (go b)
      where
        go : (b : Bool) →
            elim (Ok (cond b (Operating hour) (Idle hour))) [
              | Ok (Operating hr) ↦ walk_operations f p (line + 1) (hr + 1) (drop 1 left) rest after
              | Ok (Idle hr) ↦ walk_operations f p (line + 1) (hr + 1) left rest after
              | Err number ↦ stopped_at number line
            ]
            ≡ walk_operations f p (line + 1) (suc hour) (cond b (drop 1 left) left) rest after
        go true = rw (add-one hour)
        go false = rw (add-one hour)

    operations_walked : {hours ls left : List (List ℕ)} {from : ℕ} → OperationsTo f p hours ls from left → (line : ℕ) (rest : List (List ℕ)) (after : After) →
        walk_operations f p line 0 hours (ls ++ rest) after ≡ walk_operations f p (line + length ls) from left rest after
    operations_walked none_listed line rest after = let z : line + 0 ≡ line = omega arith in rw z
    operations_walked (operated {ls = ls} {left = left} {next = next} hour h l t b r w) line rest after =
        let z : line + length ls + 1 ≡ line + length (ls ++ (l ∷ [])) = omega (arith, length-append ls (l ∷ [])) in
        rw (append_snoc ls l rest, ← z) (operations_walked t line (l ∷ rest) after
        ∙ listed_walked true (line + length ls) next hour (h ∷ left) rest l after b r (runs w.date w.time w.heat))
    operations_walked (idled {ls = ls} {left = left} {next = next} hour l t b r w) line rest after =
        let z : line + length ls + 1 ≡ line + length (ls ++ (l ∷ [])) = omega (arith, length-append ls (l ∷ [])) in
        rw (append_snoc ls l rest, ← z) (operations_walked t line (l ∷ rest) after
        ∙ listed_walked false (line + length ls) next hour left rest l after b r (rests w))

    operations_over : (line from : ℕ) (rest : List (List ℕ)) (after : After) → Other Operation rest →
        walk_operations f p line from [] rest after ≡ after line rest
    unfolding walk_operations end_operations
    operations_over line from [] after o = refl
    operations_over line from (l ∷ ls) after o = rw (o, walk_operations)

    operations_other : (u : RecordType) → eqb (code_of Operation) (code_of u) ≡ false → {hours ls left : List (List ℕ)} {from : ℕ} →
        OperationsTo f p hours ls from left → (rest : List (List ℕ)) → (ls ≡ [] → Other u rest) → Other u (ls ++ rest)
    operations_other u e none_listed rest o = o refl
    operations_other u e (operated {ls = ls} hour h l t b r w) rest o =
        rw (append_snoc ls l rest) (operations_other u e t (l ∷ rest) (λ z. headed_other Operation u l r.headed e))
    operations_other u e (idled {ls = ls} hour l t b r w) rest o =
        rw (append_snoc ls l rest) (operations_other u e t (l ∷ rest) (λ z. headed_other Operation u l r.headed e))

-- the walk from line 100 on, behind the lines of each kind
module _ (f : List ℕ) (p : Period) (g : RightFacility f p) (hours : List (List ℕ)) (next : ℕ) (h : HoursTo f p hours next) where
  pub hours_passed : (rest : List (List ℕ)) → walk (f ∷ hours ++ rest) ≡ walk_hours f p (length (f ∷ hours) + 1) next hours rest
  unfolding walk facility_line
  hours_passed rest =
      let a = right_facility f p g in
      let z : 2 + length hours ≡ length (f ∷ hours) + 1 = omega arith in
      rw (a.0, walk, a.1, ← z) (hours_walked f p h 2 rest)

  abbrev listed_next : After
  listed_next line rest = walk_listed f p line hours rest

  pub early_passed : (ds es : List Due) (done rest : List (List ℕ)) → first_due hours ≡ ds ++ es → DuesTo f ds done →
      (done ≡ [] → Other So2Concentration rest) →
      walk (f ∷ hours ++ done ++ rest) ≡ walk_due f (length (f ∷ hours ++ done) + 1) es rest listed_next
  unfolding walk_later runs_of run_of
  early_passed ds es done rest e t o =
      let a = (all_parts _ ds es (subst (Apart So2Concentration) e (runs_apart So2Concentration first_types hours refl))).0 in
      let z : length (f ∷ hours) + 1 + length done ≡ length (f ∷ hours ++ done) + 1 = omega (arith, length-append hours done) in
      rw (append_assoc hours done rest, ← z) (hours_passed (done ++ rest)
      ∙ hours_over f p (length (f ∷ hours) + 1) next hours (done ++ rest) (dues_other f So2Concentration t a rest o)
      ∙ ap (λ (due : List Due). walk_due f (length (f ∷ hours) + 1) due (done ++ rest) listed_next) e
      ∙ dues_walked f t (length (f ∷ hours) + 1) es rest listed_next)

  module _ (firsts : List (List ℕ)) (a : DuesTo f (first_due hours) firsts) where
    abbrev last_next : After
    last_next line rest = walk_last f p (shape_with (length hours) (line - (length (f ∷ hours ++ firsts) + 1))) line hours rest

    pub listed_passed : (listed left rest : List (List ℕ)) (from : ℕ) → OperationsTo f p hours listed from left →
        (firsts ++ listed ≡ [] → Other So2Concentration rest) →
        walk (f ∷ hours ++ firsts ++ listed ++ rest) ≡ walk_operations f p (length (f ∷ hours ++ firsts ++ listed) + 1) from left rest last_next
    unfolding walk_due walk_listed
    listed_passed listed left rest from t o =
        let start = length (f ∷ hours ++ firsts) + 1 in
        let z : start + length listed ≡ length (f ∷ hours ++ firsts ++ listed) + 1 = omega (arith, length-append (hours ++ firsts) listed) in
        rw (append_assoc (hours ++ firsts) listed rest, ← z) (early_passed (first_due hours) [] firsts (listed ++ rest) (sym (append-nil (first_due hours))) a
        (λ e. operations_other f p So2Concentration refl t rest (λ n. o (rw (e, n))))
        ∙ operations_walked f p t start rest last_next)

    module _ (listed : List (List ℕ)) (from : ℕ) (b : OperationsTo f p hours listed from []) where
      abbrev end_next : After
      end_next = walk_end (record { period = p; shape = shape_with (length hours) (length listed) })

      pub late_passed : (ds es : List Due) (done rest : List (List ℕ)) → last_due hours ≡ ds ++ es → DuesTo f ds done →
          (done ≡ [] → Other Operation rest × (firsts ++ listed ≡ [] → Other So2Concentration rest)) →
          walk (f ∷ hours ++ firsts ++ listed ++ done ++ rest) ≡ walk_due f (length (f ∷ hours ++ firsts ++ listed ++ done) + 1) es rest end_next
      unfolding walk_last runs_of run_of
      late_passed ds es done rest e t o =
          let front = hours ++ firsts ++ listed in
          let line = length (f ∷ front) + 1 in
          let apart = (all_parts _ ds es (subst (Apart So2Concentration) e (runs_apart So2Concentration last_types hours refl))).0 in
          let unlisted = (all_parts _ ds es (subst (Apart Operation) e (runs_apart Operation last_types hours refl))).0 in
          let z : line + length done ≡ length (f ∷ front ++ done) + 1 = omega (arith, length-append front done) in
          let y : line - (length (f ∷ hours ++ firsts) + 1) ≡ length listed = omega (arith, length-append (hours ++ firsts) listed) in
          rw (append_assoc front done rest, ← z)
          (listed_passed listed [] (done ++ rest) from b (λ n. dues_other f So2Concentration t apart rest (λ m. (o m).1 n))
          ∙ operations_over f p line from (done ++ rest) last_next (dues_other f Operation t unlisted rest (λ m. (o m).0))
          ∙ rw (y, e) (dues_walked f t line es rest end_next))

-- behind all lines that are due
pub complete_passed : (before rest : List (List ℕ)) (c : Complete before) →
    walk (before ++ rest)
    ≡ walk_end (record { period = c.period; shape = shape_with (length c.hours) (length c.listed) }) (length before + 1) rest
unfolding walk_due
complete_passed before rest c =
    rw c.all (late_passed c.facility c.period c.right_facility c.hours c.next c.right_hours c.firsts c.right_firsts c.listed
    c.from c.right_listed (last_due c.hours) [] c.lasts rest (sym (append-nil (last_due c.hours))) c.right_lasts
    (λ e. absurd (omega (arith, dues_length c.facility c.right_lasts, ap length e))))
