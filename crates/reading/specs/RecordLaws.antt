-- Of a file whose lines are right, the lines of each type stand where the layout has them, and the records are those lines, but for
-- idle hours.
use Prim.Native.Nat.{ℕ, zero, suc, ◌+◌, ◌*◌, ◌≤◌, ◌<◌}
use Rattle.std.specs.Prelude.{◌≡◌, refl, ◌⊎◌, Bool, true, false, not, ◌&&◌, eqb, drop, get_or}
use Rattle.std.proofs.Math.Path.{sym, ap}
use Rattle.std.proofs.Common.{subst, ◌∙◌, inl, inr, ⊎_elim, le_of_suc-le-suc, not-suc-le-zero, drop_of_length-le, eqb-true}
use mathlib.Core.List.{List, [], ◌∷◌, ◌++◌, append_assoc, append-nil}
use native.Mathlib.Omega.{arith}
use Rattle.std.proofs.Math.ListN.{length, take}
use Rattle.std.proofs.lemmas.Bool.{eqb-false}
use Rattle.calendar.specs.Calendar.{most_hours}
use Rattle.columns.specs.Columns.{columns}
use Rattle.columns.specs.Number.{field_of}
use Rattle.exact.specs.Logic.{All}
use Rattle.exact.specs.Sums.{total_of}
use Rattle.layout.specs.Layout.{code_of, length_of, value_count, value_at, order, earlier, count_of, bytes_of, line_of, offset_of, report_length, shape}
use Rattle.layout.specs.LayoutLaws.{count_most}
use Rattle.layout.proofs.PlaceLaws.{front_bytes, front_lines, line_inside}
use Rattle.layout.proofs.ValueLaws.{value_inside}
use Rattle.layout.specs.declared.RecordType.{RecordType}
use Rattle.layout.proofs.RunLaws.{other_count}
use Rattle.layout.proofs.TypeLaws.{code_tells}
use Rattle.layout.specs.declared.RecordType.TheVariants.{So2Concentration, Operation}
use Rattle.layout.specs.declared.Shape.{Shape}
use Rattle.lines.specs.Lines.{lines, last}
use Rattle.lines.specs.LineFaults.{type_is, field_in, operates}
use Rattle.lines.proofs.FaultLaws.{columns_of_line}
use Rattle.reading.specs.Recorded.{Line, lines_with, idle, record_of_type, records_of, hour_count}
use Rattle.reading.specs.RecordedLaws.{typed_idle}
use Rattle.reading.specs.Places.{lines_at, numbered, having, line_at, Standing, Stands}
use Rattle.reading.specs.RunLaws.{LineRun, AllOf, Typed, joined, runs_from, order_chosen, numbered_length, numbered_at, with_both, same_tests, having_at}
use Rattle.reading.specs.CleanLaws.{LineRight, RunsRight}

-- so many lines of a type
lines_count : (file : List ℕ) (t : RecordType) (m at : ℕ) → length (lines_at file t at m) ≡ m
unfolding lines_at
lines_count file t zero at = refl
lines_count file t (suc m) at = ap suc (lines_count file t m (at + (length_of t + 1)))

line_in_lem : (file : List ℕ) (t : RecordType) (k m at : ℕ) → k < m → get_or (lines_at file t at m) k [] ≡ take (length_of t) (drop (at + (length_of t + 1) * k) file)
unfolding lines_at
line_in_lem file t k zero at h = absurd (not-suc-le-zero h)
line_in_lem file t zero (suc m) at h = let e : at + (length_of t + 1) * 0 ≡ at = omega arith in rw e
line_in_lem file t (suc k) (suc m) at h =
    let e : at + (length_of t + 1) + (length_of t + 1) * k ≡ at + (length_of t + 1) * suc k = omega arith in
    rw e at (line_in_lem file t k m (at + (length_of t + 1)) (le_of_suc-le-suc h))

module _ (file : List ℕ) (ends : last file ≡ 10) (facility : List ℕ) where
  run_lines : (t : RecordType) (m at : ℕ) → ((k : ℕ) → k < m → LineRight file ends facility t (at + (length_of t + 1) * k)) →
      (lines (drop at file) ≡ lines_at file t at m ++ lines (drop (at + (length_of t + 1) * m) file)) × AllOf t (lines_at file t at m)
  unfolding lines_at
  run_lines t zero at f = let e : at + (length_of t + 1) * 0 ≡ at = omega arith in (rw e, tt)
  run_lines t (suc m) at f =
      let z : at + (length_of t + 1) * 0 ≡ at = omega arith in
      let l = rw z at (f 0 (omega arith)) in
      let e : at + (length_of t + 1) + (length_of t + 1) * m ≡ at + (length_of t + 1) * suc m = omega arith in
      let i =
      run_lines t m (at + (length_of t + 1)) (λ k h. let s : at + (length_of t + 1) * suc k ≡ at + (length_of t + 1) +
      (length_of t + 1) * k = omega arith in rw s at (f (suc k) (omega arith))) in
      (l.next ∙ ap (λ (ls : List (List ℕ)). take (length_of t) (drop at file) ∷ ls) (rw e at i.0), (l.type, i.1))

  -- the runs of these types from `at` on
  module _ (s : Shape) where
    abbrev lines_of_type : ℕ → RecordType → List (List ℕ)
    lines_of_type at t = lines_at file t at (count_of s t)

    all_counted : (at : ℕ) (t : RecordType) → length (lines_of_type at t) ≡ count_of s t
    all_counted at t = lines_count file t (count_of s t) at

    abbrev runs : List RecordType → ℕ → List LineRun
    runs = runs_from lines_of_type (count_of s) (bytes_of s) all_counted

    runs_lines : (ts : List RecordType) (at : ℕ) → RunsRight file ends facility ts s at →
        (lines (drop at file) ≡ joined (runs ts at) ++ lines (drop (at + total_of (bytes_of s) ts) file)) × Typed (runs ts at)
    unfolding RunsRight total_of
    runs_lines [] at r = let z : at + 0 ≡ at = omega arith in (rw z, tt)
    runs_lines (t ∷ ts) at r =
        let f = run_lines t (count_of s t) at r.0 in
        let i = runs_lines ts (at + bytes_of s t) r.1 in
        let z : at + bytes_of s t + total_of (bytes_of s) ts ≡ at + (bytes_of s t + total_of (bytes_of s) ts) = omega arith in (
          f.0
              ∙ ap (λ (ls : List (List ℕ)). lines_of_type at t ++ ls) (rw z at i.0)
              ∙ sym (append_assoc (lines_of_type at t) (joined (runs ts (at + bytes_of s t))) (lines (drop (at + (bytes_of s t + total_of (bytes_of s) ts)) file))),
          (f.1, i.1),
        )

    pub lines_placed : RunsRight file ends facility order s 0 → length file ≡ report_length s → (t : RecordType) →
        lines_with (type_is t) 1 (lines file) ≡ numbered (line_of s t 0) (lines_at file t (offset_of s t 0) (count_of s t))
    unfolding lines report_length
    lines_placed r e t =
        let l = runs_lines order 0 r in
        let b : length file ≤ 0 + total_of (bytes_of s) order = omega arith in
        let n : 1 + total_of (count_of s) (earlier t) ≡ line_of s t 0 = omega (arith, front_lines s t) in
        let o : 0 + total_of (bytes_of s) (earlier t) ≡ offset_of s t 0 = omega (arith, front_bytes s t) in
        ap (lines_with (type_is t) 1) (rw (drop_of_length-le file b, append-nil (joined (runs order 0))) at l.0)
        ∙ order_chosen lines_of_type (count_of s) (bytes_of s) all_counted t 1 0 l.1
        ∙ rw (n, o)

-- which lines of a type are records: all, but for idle hours

-- a type is another, or that of the 300 lines
pub either_type : (t : RecordType) → (t ≡ Operation → ⊥) ⊎ (t ≡ Operation)
either_type t = go (eqb (code_of t) (code_of Operation)) refl
  where
    go : (b : Bool) → eqb (code_of t) (code_of Operation) ≡ b → (t ≡ Operation → ⊥) ⊎ (t ≡ Operation)
    go true e = inr (code_tells t Operation (eqb-true _ _ e))
    go false e = inl (λ same. eqb-false _ _ e (ap code_of same))

other_record : (t : RecordType) → (t ≡ Operation → ⊥) → (l : List ℕ) → record_of_type t l ≡ type_is t l
other_record t other l = go (type_is t l) refl
  where
    go : (b : Bool) → type_is t l ≡ b → b && not (idle l) ≡ b
    go true e = rw (typed_idle t other l e)
    go false e = refl

operating_record : (l : List ℕ) → record_of_type Operation l ≡ type_is Operation l && operates l
unfolding idle
operating_record l = go (type_is Operation l) (operates l)
  where
    go : (a b : Bool) → a && not (a && not b) ≡ a && b
    go true true = refl
    go true false = refl
    go false true = refl
    go false false = refl

everywhere : (P : List ℕ → Type 0) → ((l : List ℕ) → P l) → (ls : List (List ℕ)) → All P ls
everywhere P p [] = tt
everywhere P p (l ∷ ls) = (p l, everywhere P p ls)

pub other_records : (file : List ℕ) (t : RecordType) → (t ≡ Operation → ⊥) → records_of file t ≡ lines_with (type_is t) 1 (lines file)
unfolding records_of
other_records file t o =
    same_tests (record_of_type t) (type_is t) (lines file) 1 (everywhere (λ l. record_of_type t l ≡ type_is t l) (other_record t o) (lines file))

pub operating_lines_lem : (file : List ℕ) → records_of file Operation ≡ lines_with (λ l. type_is Operation l && operates l) 1 (lines file)
unfolding records_of
operating_lines_lem file =
    same_tests (record_of_type Operation) (λ l. type_is Operation l && operates l) (lines file) 1
    (everywhere (λ l. record_of_type Operation l ≡ type_is Operation l && operates l) operating_record (lines file))

pub operating_records : (file : List ℕ) → records_of file Operation ≡ having operates (lines_with (type_is Operation) 1 (lines file))
operating_records file = operating_lines_lem file ∙ with_both (type_is Operation) operates (lines file) 1

-- every line lies within the file
pub room_for : (file : List ℕ) (s : Shape) → Standing file s → (t : RecordType) (p : ℕ) → p < count_of s t →
    (offset_of s t p + length_of t ≤ length file) × (p ≤ most_hours)
room_for file s d t p h = (omega (arith, line_inside s t p h, d.size), omega (arith, count_most s d.held t))

-- the i-th value on a line, counted from the start of the file
pub value_at_lem : (file : List ℕ) (s : Shape) (t : RecordType) (p i : ℕ) → i < value_count t →
    field_in (value_at t i) (line_at file s t p).text ≡ field_of (value_at t i).decimals (columns (offset_of s t p + (value_at t i).start) (value_at t i).width file)
value_at_lem file s t p i b =
    let v = value_inside t i b in
    rw (columns_of_line file (offset_of s t p) (length_of t) (value_at t i).start (value_at t i).width v.first v.last)

abbrev none : Line
none = record { number = 0; text = [] }

module _ (file : List ℕ) (s : Shape) (d : Standing file s) where
  line_number : (t : RecordType) (p : ℕ) → p < count_of s t →
      record { number = line_of s t 0 + p; text = get_or (lines_at file t (offset_of s t 0) (count_of s t)) p [] } ≡ line_at file s t p
  line_number t p h =
      let e : offset_of s t 0 + (length_of t + 1) * p ≡ offset_of s t p = omega arith in
      let z : line_of s t 0 + p ≡ line_of s t p = omega arith in
      rw (line_in_lem file t p (count_of s t) (offset_of s t 0) h, e, z)

  -- a record that is no 300 line stands at its rank
  pub other_stands : (t : RecordType) → (t ≡ Operation → ⊥) → (k : ℕ) → k < count_of s t → Stands file s t k k
  other_stands t o k h =
      let c : k < length (lines_at file t (offset_of s t 0) (count_of s t)) = rw (lines_count file t (count_of s t) (offset_of s t 0)) h in
      record {
        inside = h;
        there =
            rw (other_records file t o, d.lines t, numbered_at (lines_at file t (offset_of s t 0) (count_of s t)) none k (line_of s t 0) c)
            (line_number t k h);
      }

  pub operating_there : records_of file Operation ≡ having operates
      (numbered (line_of s Operation 0) (lines_at file Operation (offset_of s Operation 0) s.operations))
  operating_there = operating_records file ∙ ap (having operates) (d.lines Operation)

  -- that of an operating hour at some place of the 300 lines
  pub operation_stands : (k : ℕ) → k < s.hours → (p : ℕ) × Stands file s Operation k p
  operation_stands k h =
      let ls = lines_at file Operation (offset_of s Operation 0) s.operations in
      let b : k < length (having operates (numbered (line_of s Operation 0) ls)) = rw (← operating_there) (omega (arith, d.operating)) in
      let p = having_at operates ls none k (line_of s Operation 0) b in
      let i : p.place < s.operations = rw (lines_count file Operation s.operations (offset_of s Operation 0)) at p.inside in
      (p.place, record { inside = i; there = ap (λ (ls : List Line). get_or ls k none) operating_there ∙ p.own ∙ line_number Operation p.place i })

  -- every record stands somewhere
  pub stands : (t : RecordType) (k : ℕ) → k < count_of (shape s.hours) t → (p : ℕ) × Stands file s t k p
  stands t k h =
      ⊎_elim (λ o. (k, other_stands t o k (rw (other_count s t o) h))) (λ e. subst At (sym e) (operation_stands k (subst Below e h))) (either_type t)
    where
      At : RecordType → Type 0
      At t = (p : ℕ) × Stands file s t k p

      Below : RecordType → Type 0
      Below t = k < count_of (shape s.hours) t

  -- as many of a type as there are hours, or one
  pub records_standing : (t : RecordType) → length (records_of file t) ≡ count_of (shape s.hours) t
  records_standing t = ⊎_elim others (λ e. rw e d.operating) (either_type t)
    where
      others : (t ≡ Operation → ⊥) → length (records_of file t) ≡ count_of (shape s.hours) t
      others o =
          rw (other_records file t o, d.lines t, numbered_length (lines_at file t (offset_of s t 0) (count_of s t)) (line_of s t 0))
          (lines_count file t (count_of s t) (offset_of s t 0) ∙ other_count s t o)

  pub hours_standing : hour_count file ≡ s.hours
  hours_standing = records_standing So2Concentration
