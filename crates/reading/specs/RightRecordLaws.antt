-- The records of a right file are the lines that RightFile.antt has of their type: an operating hour has the line of its rank of each run.
use Rattle.std.specs.Prelude.{ℕ, zero, suc, ◌+◌, ◌<◌, ◌≡◌, refl, List, [], ◌∷◌, ◌++◌, get_or}
use Rattle.std.proofs.Common.{sym, ◌∙◌, append-nil, le_of_suc-le-suc, not-suc-le-zero}
use Rattle.std.proofs.Math.Path.{ap}
use native.Mathlib.Omega.{arith}
use Rattle.std.proofs.Math.ListN.{length}
use Rattle.exact.specs.Logic.{agree, agreed}
use Rattle.exact.specs.Faults.{unless_zero}
use Rattle.exact.specs.Sums.{total_of}
use Rattle.layout.specs.Layout.{code_of, order, earlier}
use Rattle.layout.specs.declared.RecordType.{RecordType}
use Rattle.layout.specs.declared.RecordType.TheVariants.{Facility, So2Concentration, NoxConcentration, Co2Concentration, VolumetricFlow}
use Rattle.layout.specs.declared.RecordType.TheVariants.{Operation, QuarterTotals, So2Mass, NoxRate, Co2Mass}
use Rattle.lines.specs.Lines.{lines}
use Rattle.lines.specs.LineFaults.{type_is, has_gas, so2_blank, gas_fault, due_of}
use Rattle.lines.proofs.FaultLaws.{due_right}
use Rattle.lines.specs.RightLine.{RightDue}
use Rattle.lines.proofs.RightLaws.{right_type, says_due}
use Rattle.calendar.specs.Calendar.{Period}
use Rattle.reading.specs.Recorded.{Line, lines_with, record_at, hour_at, hour_count}
use Rattle.reading.specs.RightFile.{RightHours, RightRun, RightOperations, RightFile}
use Rattle.reading.specs.RightFile.RightOperations.{done, operating, idling}
use Rattle.reading.specs.Places.{numbered}
use Rattle.reading.specs.RunLaws.{AllOf, Typed, joined, runs_from, order_chosen, numbered_length, numbered_at}
use Rattle.reading.specs.RecordLaws.{other_records}
use Rattle.reading.specs.declared.Report.{Report}

-- every line of a run has its type

module _ (f : List ℕ) where
  run_typed : (t : RecordType) (hours run : List (List ℕ)) → RightRun f t hours run → AllOf t run
  run_typed t [] [] r = tt
  run_typed t [] (l ∷ ls) r = absurd r
  run_typed t (h ∷ hs) [] r = absurd r
  run_typed t (h ∷ hs) (l ∷ ls) r = (right_type t l r.0.headed.shaped.type, run_typed t hs ls r.1)

  -- and goes with the 200 line of its rank
  run_at : (t : RecordType) (hours run : List (List ℕ)) → RightRun f t hours run → (k : ℕ) → k < length hours → RightDue f t (get_or hours k []) (get_or run k [])
  run_at t [] [] r k h = absurd (not-suc-le-zero h)
  run_at t [] (l ∷ ls) r k h = absurd r
  run_at t (x ∷ hs) [] r k h = absurd r
  run_at t (x ∷ hs) (l ∷ ls) r zero h = r.0
  run_at t (x ∷ hs) (l ∷ ls) r (suc k) h = run_at t hs ls r.1 k (le_of_suc-le-suc h)

  run_length : (t : RecordType) (hours run : List (List ℕ)) → RightRun f t hours run → length run ≡ length hours
  run_length t [] [] r = refl
  run_length t [] (l ∷ ls) r = absurd r
  run_length t (h ∷ hs) [] r = absurd r
  run_length t (h ∷ hs) (l ∷ ls) r = ap suc (run_length t hs ls r.1)

  module _ (p : Period) where
    hours_typed : (hours : List (List ℕ)) (from : ℕ) → RightHours f p from hours → AllOf So2Concentration hours
    hours_typed [] from r = tt
    hours_typed (l ∷ ls) from r = (right_type So2Concentration l r.2.headed.shaped.type, hours_typed ls (suc r.0) r.3)

    operations_typed : (from : ℕ) (hours ls : List (List ℕ)) → RightOperations f p from hours ls → AllOf Operation ls
    operations_typed from hours ls done = tt
    operations_typed from hours ls (operating hour {l = l} {hs = hs} {ls = more} b w d m) =
        (right_type Operation l w.headed.shaped.type, operations_typed (suc hour) hs more m)
    operations_typed from hours ls (idling hour {l = l} {hs = hs} {ls = more} b w d m) =
        (right_type Operation l w.headed.shaped.type, operations_typed (suc hour) hs more m)

module _ (file : List ℕ) (r : Report) (x : RightFile file r) where
  abbrev pub lines_in : RecordType → List (List ℕ)
  lines_in Facility = x.facility ∷ []
  lines_in So2Concentration = x.hours
  lines_in NoxConcentration = x.nox
  lines_in Co2Concentration = x.co2
  lines_in VolumetricFlow = x.flow
  lines_in Operation = x.operations
  lines_in QuarterTotals = x.totals ∷ []
  lines_in So2Mass = x.so2_mass
  lines_in NoxRate = x.nox_rate
  lines_in Co2Mass = x.co2_mass

  abbrev count_in : RecordType → ℕ
  count_in t = length (lines_in t)

  abbrev none : RecordType → ℕ
  none t = 0

  counted : (at : ℕ) (t : RecordType) → length (lines_in t) ≡ count_in t
  counted at t = refl

  all_typed : Typed (runs_from (λ at. lines_in) count_in none counted order 0)
  all_typed =
      let f = x.facility in
      let run : (t : RecordType) (ls : List (List ℕ)) → RightRun f t x.hours ls → AllOf t ls = λ t ls. run_typed f t x.hours ls in (
        (right_type Facility f x.right_facility.shaped.type, tt),
        (
          hours_typed f r.period x.hours 0 x.right_hours,
          (
            run NoxConcentration x.nox x.right_nox,
            (
              run Co2Concentration x.co2 x.right_co2,
              (
                run VolumetricFlow x.flow x.right_flow,
                (
                  operations_typed f r.period 0 x.hours x.operations x.right_operations,
                  (
                    (right_type QuarterTotals x.totals x.right_totals.headed.shaped.type, tt),
                    (
                      run So2Mass x.so2_mass x.right_so2_mass,
                      (run NoxRate x.nox_rate x.right_nox_rate, (run Co2Mass x.co2_mass x.right_co2_mass, tt)),
                    ),
                  ),
                ),
              ),
            ),
          ),
        ),
      )

  all_lines : lines file ≡ joined (runs_from (λ at. lines_in) count_in none counted order 0)
  all_lines =
      x.order ∙ ap (λ (ls : List (List ℕ)).
      x.facility ∷ (x.hours ++ (x.nox ++ (x.co2 ++ (x.flow ++ (x.operations ++ (x.totals ∷ (x.so2_mass ++ (x.nox_rate ++ ls)))))))))
      (sym (append-nil x.co2_mass))

  -- the lines of a type, numbered behind those of the types before it
  pub lines_right : (t : RecordType) → lines_with (type_is t) 1 (lines file) ≡ numbered (1 + total_of count_in (earlier t)) (lines_in t)
  lines_right t = ap (lines_with (type_is t) 1) all_lines ∙ order_chosen (λ at. lines_in) count_in none counted t 1 0 all_typed

  -- the record of a rank
  pub record_text : (t : RecordType) → (t ≡ Operation → ⊥) → (k : ℕ) → k < length (lines_in t) → (record_at file t k).text ≡ get_or (lines_in t) k []
  record_text t o k h =
      ap (λ (ls : List Line). (get_or ls k (record { number = 0; text = [] })).text) (other_records file t o ∙ lines_right t)
      ∙ ap (λ (l : Line). l.text) (numbered_at (lines_in t) (record { number = 0; text = [] }) k (1 + total_of count_in (earlier t)) h)

  -- an hour is a gas hour exactly where its 200 value is blank
  pub gas_right : (k : ℕ) → k < hour_count file → (hour_at file k).gas ≡ so2_blank (record_at file So2Concentration k).text
  unfolding hour_at gas_fault
  gas_right k h =
      let other : (t : RecordType) → (code_of t ≡ code_of Operation → ⊥) → t ≡ Operation → ⊥ = λ t n e. n (ap code_of e) in
      let n : hour_count file ≡ length x.hours =
      ap length (other_records file So2Concentration (other So2Concentration (λ e. omega arith)) ∙ lines_right So2Concentration)
      ∙ numbered_length x.hours (1 + total_of count_in (earlier So2Concentration)) in
      let b : k < length x.hours = omega arith in
      let m : k < length x.so2_mass = omega (arith, run_length x.facility So2Mass x.hours x.so2_mass x.right_so2_mass) in
      let d = due_right x.facility (due_of So2Mass (get_or x.hours k [])) (get_or x.so2_mass k [])
      (says_due x.facility So2Mass _ _ (run_at x.facility So2Mass x.hours x.so2_mass x.right_so2_mass k b)) in
      let mass = has_gas (get_or x.so2_mass k []) in
      let blank = so2_blank (get_or x.hours k []) in
      rw (record_text So2Mass (other So2Mass (λ e. omega arith)) k m, record_text So2Concentration (other So2Concentration (λ e. omega arith)) k b)
      (agreed mass blank (unless_zero (agree mass blank) 48 d.gas))
