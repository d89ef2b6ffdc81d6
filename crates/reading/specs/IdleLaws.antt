-- An idle line adds nothing: without it a file has the same hours and totals, and where its lines are right, they still are.
use Prim.Native.Nat.{ℕ, zero, suc, ◌≤◌}
use Rattle.std.specs.Prelude.{◌≡◌, Bool, cond, not, ◌&&◌, eqb, length, get_or}
use Rattle.std.proofs.Math.Path.{refl, ap, ap₂}
use Rattle.std.proofs.Common.{sym, ◌∙◌, arith}
use mathlib.Core.List.{List, [], ◌∷◌, ◌++◌}
use Rattle.std.proofs.Math.Bool.{true, false}
use Rattle.std.proofs.lemmas.Bool.{eqb-false}
use Rattle.exact.specs.Logic.{ranked}
use Rattle.columns.specs.Columns.{columns}
use Rattle.columns.specs.Number.{number_of}
use Rattle.layout.specs.Layout.{code_of, value_at, shape}
use Rattle.layout.specs.Values.{thousands_of}
use Rattle.layout.specs.declared.RecordType.{RecordType}
use Rattle.layout.specs.declared.RecordType.TheVariants.{Facility, So2Concentration, NoxConcentration, Co2Concentration, VolumetricFlow, Operation}
use Rattle.layout.specs.declared.RecordType.TheVariants.{QuarterTotals, So2Mass, NoxRate, Co2Mass}
use Rattle.formulas.specs.declared.hour.Hour.{Hour}
use Rattle.lines.specs.Lines.{lines}
use Rattle.lines.specs.LineFaults.{type_is, field_in, has_gas}
use Rattle.lines.specs.RightLine.{Shaped, RightListed}
use Rattle.lines.proofs.RightLaws.{right_type, RightTime, right_operation}
use Rattle.lines.proofs.RightLaws.RightTime.{runs, rests}
use Rattle.calendar.specs.Calendar.{Period}
use Rattle.reading.specs.Recorded.{Line, lines_with, idle, record_of_type, records_of, record_at, value_on, hour_at, hour_count, hours_of, totals_in}
use Rattle.reading.specs.RecordedLaws.{operation_idle, typed_idle}
use Rattle.reading.specs.Idle.{without_idle, WithoutIdle}
use Rattle.reading.specs.RightFile.{RightHours, RightRun, RightOperations, RightFile}
use Rattle.reading.specs.RightFile.RightOperations.{done, operating, idling}
use Rattle.reading.specs.declared.Report.{Report}

-- the same records

texts : List Line → List (List ℕ)
texts [] = []
texts (l ∷ ls) = l.text ∷ texts ls

text_at : (ls : List Line) (k : ℕ) → (get_or ls k (record { number = 0; text = [] })).text ≡ get_or (texts ls) k []
unfolding texts
text_at [] zero = refl
text_at [] (suc k) = refl
text_at (l ∷ ls) zero = refl
text_at (l ∷ ls) (suc k) = text_at ls k

texts_length : (ls : List Line) → length (texts ls) ≡ length ls
unfolding texts
texts_length [] = refl
texts_length (l ∷ ls) = ap suc (texts_length ls)

texts_kept : (t : RecordType) (ls : List (List ℕ)) (m n : ℕ) → texts (lines_with (record_of_type t) m (without_idle ls)) ≡ texts (lines_with (record_of_type t) n ls)
unfolding texts lines_with without_idle
texts_kept t [] m n = refl
texts_kept t (l ∷ ls) m n = go (idle l) refl (type_is t l) refl (λ m. texts_kept t ls m (suc n))
  where
    go : (b : Bool) → idle l ≡ b → (c : Bool) → type_is t l ≡ c →
        ((m : ℕ) → texts (lines_with (record_of_type t) m (without_idle ls)) ≡ texts (lines_with (record_of_type t) (suc n) ls)) →
        texts (lines_with (record_of_type t) m (cond b (without_idle ls) (l ∷ without_idle ls)))
        ≡ texts (elim (type_is t l && not (idle l)) [
          | true ↦ record { number = n; text = l } ∷ lines_with (record_of_type t) (suc n) ls
          | false ↦ lines_with (record_of_type t) (suc n) ls
        ])
    go true e true f ih = rw (e, f) (ih m)
    go true e false f ih = rw (e, f) (ih m)
    go false e true f ih = rw (e, f, lines_with) (ap (λ (x : List (List ℕ)). l ∷ x) (ih (suc m)))
    go false e false f ih = rw (e, f, lines_with) (ih (suc m))

module _ (file other : List ℕ) (w : WithoutIdle file other) where
  same_texts : (t : RecordType) → texts (records_of other t) ≡ texts (records_of file t)
  unfolding records_of
  same_texts t = ap (λ (ls : List (List ℕ)). texts (lines_with (record_of_type t) 1 ls)) w.lines ∙ texts_kept t (lines file) 1 1

  same_text : (t : RecordType) (k : ℕ) → (record_at other t k).text ≡ (record_at file t k).text
  same_text t k = text_at (records_of other t) k ∙ ap (λ (x : List (List ℕ)). get_or x k []) (same_texts t) ∙ sym (text_at (records_of file t) k)

  same_value : (t : RecordType) (k i : ℕ) → value_on other t k i ≡ value_on file t k i
  unfolding value_on
  same_value t k i = ap (λ (l : List ℕ). number_of (field_in (value_at t i) l)) (same_text t k)

  same_count : hour_count other ≡ hour_count file
  same_count = sym (texts_length (records_of other So2Concentration)) ∙ ap length (same_texts So2Concentration) ∙ texts_length (records_of file So2Concentration)

  same_hour : (k : ℕ) → hour_at other k ≡ hour_at file k
  unfolding hour_at
  same_hour k = λ i. record {
    time = same_value Operation k 0 i;
    gas = has_gas (same_text So2Mass k i);
    readings = record {
      so2 = same_value So2Concentration k 0 i;
      nox = same_value NoxConcentration k 0 i;
      co2 = same_value Co2Concentration k 0 i;
      flow = thousands_of (same_value VolumetricFlow k 0 i);
      fc = same_value NoxRate k 0 i;
    };
    figures = record {
      heat = same_value Operation k 1 i;
      so2 = same_value So2Mass k 0 i;
      nox = same_value NoxRate k 1 i;
      co2 = same_value Co2Mass k 0 i;
    };
  }

  pub idle_hours : hours_of other ≡ hours_of file
  unfolding hours_of
  idle_hours = ap₂ (λ (f : ℕ → Hour) (n : ℕ). ranked f 0 n) (λ i k. same_hour k i) same_count

  pub idle_totals : totals_in other ≡ totals_in file
  unfolding totals_in
  idle_totals = λ i. record {
    hours = same_count i;
    so2 = same_value QuarterTotals 0 0 i;
    co2 = same_value QuarterTotals 0 1 i;
    heat = same_value QuarterTotals 0 2 i;
    nox = same_value QuarterTotals 0 3 i;
    nox_tons = same_value QuarterTotals 0 4 i;
  }

-- the lines are right as well

pub kept_line : (l : List ℕ) (ls : List (List ℕ)) → idle l ≡ false → without_idle (l ∷ ls) ≡ l ∷ without_idle ls
unfolding without_idle
kept_line l ls e = rw e

idle_left : (l : List ℕ) (ls : List (List ℕ)) → idle l ≡ true → without_idle (l ∷ ls) ≡ without_idle ls
unfolding without_idle
idle_left l ls e = rw e

append_kept : (xs ys : List (List ℕ)) → without_idle (xs ++ ys) ≡ without_idle xs ++ without_idle ys
unfolding without_idle
append_kept [] ys = refl
append_kept (x ∷ xs) ys = go (idle x) (append_kept xs ys)
  where
    go : (b : Bool) → without_idle (xs ++ ys) ≡ without_idle xs ++ without_idle ys →
        cond b (without_idle (xs ++ ys)) (x ∷ without_idle (xs ++ ys)) ≡ cond b (without_idle xs) (x ∷ without_idle xs) ++ without_idle ys
    go true e = e
    go false e = ap (λ (ls : List (List ℕ)). x ∷ ls) e

-- what is left of lines
record Leaves (ls kept : List (List ℕ)) : Type 0 where
  same : without_idle ls ≡ kept

parts_left : {xs ys kept rest : List (List ℕ)} → Leaves xs kept → Leaves ys rest → Leaves (xs ++ ys) (kept ++ rest)
parts_left {xs} {ys} a b = let e = a.same in let f = b.same in record { same = append_kept xs ys ∙ rw (e, f) }

line_left : {l : List ℕ} {ls rest : List (List ℕ)} → idle l ≡ false → Leaves ls rest → Leaves (l ∷ ls) (l ∷ rest)
line_left {l} {ls} i a = record { same = kept_line l ls i ∙ ap (λ (x : List (List ℕ)). l ∷ x) a.same }

-- the lines of another type stay
abbrev Other : RecordType → Type 0
Other t = t ≡ Operation → ⊥

other : (t : RecordType) → eqb (code_of t) (code_of Operation) ≡ false → Other t
other t e same = eqb-false _ _ e (ap code_of same)

shaped_kept : (t : RecordType) → Other t → (l : List ℕ) → Shaped t l → idle l ≡ false
shaped_kept t o l s = typed_idle t o l (right_type t l s.type)

module _ (f : List ℕ) where
  run_kept : (t : RecordType) → Other t → (hours run : List (List ℕ)) → RightRun f t hours run → Leaves run run
  unfolding without_idle
  run_kept t o [] [] r = record { same = refl }
  run_kept t o [] (l ∷ ls) r = absurd r
  run_kept t o (h ∷ hs) [] r = absurd r
  run_kept t o (h ∷ hs) (l ∷ ls) r =
      line_left (shaped_kept t o l r.0.headed.shaped) (run_kept t o hs ls r.1)

  module _ (p : Period) where
    hours_kept : (hours : List (List ℕ)) (from : ℕ) → RightHours f p from hours → Leaves hours hours
    unfolding without_idle
    hours_kept [] from r = record { same = refl }
    hours_kept (l ∷ ls) from r =
        line_left (shaped_kept So2Concentration (other So2Concentration refl) l r.2.headed.shaped) (hours_kept ls (suc r.0) r.3)

    -- which 300 lines are idle
    listed_idle : (hour : ℕ) (date l : List ℕ) → RightListed f p hour l → (b : Bool) → RightTime date l b → idle l ≡ not b
    listed_idle hour date l w b t =
        operation_idle l (right_type Operation l w.headed.shaped.type) ∙ ap not (right_operation f p 0 date l hour (omega arith) w b t).2

    -- the operating ones are left, one for each hour
    operations_kept : (from early : ℕ) (hours ls : List (List ℕ)) → early ≤ from → RightOperations f p from hours ls →
        RightOperations f p early hours (without_idle ls) × (length (without_idle ls) ≡ length hours)
    unfolding without_idle
    operations_kept from early hours ls b done = (done, refl)
    operations_kept from early hours ls b (operating hour {h = h} {l = l} {hs = hs} {ls = more} g w d m) =
        let i = operations_kept (suc hour) (suc hour) hs more (omega arith) m in
        let stays = kept_line l more (listed_idle hour (columns 16 8 h) l w true (runs d.date d.time d.heat)) in
        rw stays (operating {from = early} hour (omega arith) w d i.0, ap suc i.1)
    operations_kept from early hours ls b (idling hour {l = l} {hs = hs} {ls = more} g w d m) =
        rw (idle_left l more (listed_idle hour [] l w false (rests d))) (operations_kept (suc hour) early hs more (omega arith) m)

-- the whole file
pub idle_right : (file less : List ℕ) → WithoutIdle file less → (r : Report) → RightFile file r →
    RightFile less (record { period = r.period; shape = shape r.shape.hours })
unfolding without_idle
idle_right file less w r x =
    let f = x.facility in
    let o = operations_kept f r.period 0 0 x.hours x.operations (omega arith) x.right_operations in
    let run : (t : RecordType) → Other t → (ls : List (List ℕ)) → RightRun f t x.hours ls → Leaves ls ls =
    λ t n ls. run_kept f t n x.hours ls in
    let left =
    line_left (shaped_kept Facility (other Facility refl) f x.right_facility.shaped)
    (parts_left (hours_kept f r.period x.hours 0 x.right_hours)
    (parts_left (run NoxConcentration (other NoxConcentration refl) x.nox x.right_nox)
    (parts_left (run Co2Concentration (other Co2Concentration refl) x.co2 x.right_co2)
    (parts_left (run VolumetricFlow (other VolumetricFlow refl) x.flow x.right_flow)
    (parts_left {xs = x.operations} (record { same = refl })
    (line_left (shaped_kept QuarterTotals (other QuarterTotals refl) x.totals x.right_totals.headed.shaped)
    (parts_left (run So2Mass (other So2Mass refl) x.so2_mass x.right_so2_mass)
    (parts_left (run NoxRate (other NoxRate refl) x.nox_rate x.right_nox_rate)
    (run Co2Mass (other Co2Mass refl) x.co2_mass x.right_co2_mass))))))))) in
    record {
      ended = w.last ∙ x.ended;
      facility = f;
      hours = x.hours;
      nox = x.nox;
      co2 = x.co2;
      flow = x.flow;
      operations = without_idle x.operations;
      totals = x.totals;
      so2_mass = x.so2_mass;
      nox_rate = x.nox_rate;
      co2_mass = x.co2_mass;
      order = w.lines ∙ ap without_idle x.order ∙ left.same;
      right_facility = x.right_facility;
      right_hours = x.right_hours;
      right_nox = x.right_nox;
      right_co2 = x.right_co2;
      right_flow = x.right_flow;
      right_operations = o.0;
      right_totals = x.right_totals;
      right_so2_mass = x.right_so2_mass;
      right_nox_rate = x.right_nox_rate;
      right_co2_mass = x.right_co2_mass;
      hour_count = x.hour_count;
      operation_count = x.hour_count ∙ sym o.1;
    }
