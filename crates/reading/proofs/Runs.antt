-- The lines that are due behind the 200 lines: type by type, and rank by rank.
use Prim.Native.Nat.{ℕ, zero, suc, ◌+◌, ◌*◌, ◌-◌, ◌≤◌, ◌<◌}
use mathlib.Core.Path.{◌≡◌, ap, ◌∙◌}
use mathlib.Core.Logic.{⊎_elim}
use mathlib.Core.List.{List, [], ◌∷◌, ◌++◌, map}
use native.Mathlib.Omega.{arith}
use native.Mathlib.Nat.{add-sub_cancel_left}
use native.Mathlib.Numerals.{add-one}
use lib.ListN.{length, take, drop, get_or, length-map, drop_of_length-le, get_or-map, length-drop}
use lib.Seq.{drop-cons, get_or-take, length-take-le}
use Rattle.layout.specs.Layout.{once_or_dated, record_of, length_of, date_column, order, type_at, count_of, shape}
use Rattle.layout.proofs.RunLaws.{once_or_dated_lem, undated_once, dated_run, dated_count}
use Rattle.layout.specs.declared.RecordType.{RecordType}
use Rattle.layout.specs.declared.RecordType.TheVariants.{Facility, So2Concentration}
use Rattle.layout.specs.declared.Run.{Run}
use Rattle.layout.specs.declared.Run.TheVariants.{Once}
use Rattle.lines.specs.LineFaults.{due_of}
use Rattle.reading.specs.Reading.{run_of, runs_of}
use Rattle.reading.specs.Places.{hour_start, hour_line_in, hour_lines_in, hour_due, Counted}
use Rattle.reading.specs.HourLineLaws.{hour_lines_length, hour_lines_at}

-- of the 200 lines from rank k on: the first, and that none is left
pub first_left : (file : List ℕ) (n k : ℕ) → k < n → drop k (hour_lines_in file n) ≡ hour_line_in file k ∷ drop (k + 1) (hour_lines_in file n)
first_left file n k h =
    let m : k < length (hour_lines_in file n) = omega (arith, hour_lines_length file n) in
    drop-cons (hour_lines_in file n) k [] m ∙ rw (hour_lines_at file n k h, add-one k)

pub hour_lines_over : (file : List ℕ) (n k : ℕ) → n ≤ k → drop k (hour_lines_in file n) ≡ []
hour_lines_over file n k h = let b : length (hour_lines_in file n) ≤ k = omega (arith, hour_lines_length file n) in drop_of_length-le (hour_lines_in file n) b

-- the lines of one type that are due

module _ (file : List ℕ) (n : ℕ) (t : RecordType) (k : ℕ) where
  due_one : k < n → drop k (map (due_of t) (hour_lines_in file n)) ≡ due_of t (hour_line_in file k) ∷ drop (k + 1) (map (due_of t) (hour_lines_in file n))
  due_one h =
      let m : k < length (map (due_of t) (hour_lines_in file n)) = rw length-map (omega (arith, hour_lines_length file n)) in
      drop-cons (map (due_of t) (hour_lines_in file n)) k (due_of t []) m
      ∙ rw (get_or-map (due_of t) (hour_lines_in file n) k [], hour_lines_at file n k h, add-one k)

  due_end : n ≤ k → drop k (map (due_of t) (hour_lines_in file n)) ≡ []
  due_end h =
      let m : length (map (due_of t) (hour_lines_in file n)) ≤ k = rw length-map (omega (arith, hour_lines_length file n)) in
      drop_of_length-le (map (due_of t) (hour_lines_in file n)) m

module _ (file : List ℕ) (n : ℕ) (t : RecordType) (k : ℕ) where
  pub run_one : k < count_of (shape n) t → drop k (run_of t (hour_lines_in file n)) ≡ due_of t (hour_due file t k) ∷ drop (k + 1) (run_of t (hour_lines_in file n))
  unfolding run_of hour_due
  run_one h =
      ⊎_elim (λ e. one (record_of t).run e k (rw e at h))
      (λ d. rw (dated_run t d ([] ∷ []) (hour_lines_in file n), dated_run t d [] (hour_line_in file k)) (due_one file n t k (rw (dated_count t d n) at h)))
      (once_or_dated_lem t)
    where
      one : (run : Run) → run ≡ Once → (i : ℕ) → i < 1 → let ls = map (due_of t) (once_or_dated run ([] ∷ []) (hour_lines_in file n)) in
          drop i ls ≡ due_of t (once_or_dated run [] (hour_line_in file i)) ∷ drop (i + 1) ls
      one run e zero h = rw e
      one run e (suc i) h = absurd (omega arith)

  pub run_end : count_of (shape n) t ≤ k → drop k (run_of t (hour_lines_in file n)) ≡ []
  unfolding run_of
  run_end h =
      ⊎_elim (λ e. let b : 1 ≤ k = rw e at h in rw e (drop_of_length-le (due_of t [] ∷ []) b))
      (λ d. rw (dated_run t d ([] ∷ []) (hour_lines_in file n)) (due_end file n t k (rw (dated_count t d n) at h)))
      (once_or_dated_lem t)

-- the 200 line for a type, by the column of its date
module _ (file : List ℕ) (t : RecordType) (k : ℕ) where
  pub undated_due : date_column t ≡ 0 → hour_due file t k ≡ []
  unfolding hour_due
  undated_due e = rw (undated_once t e)

  pub dated_due : 1 ≤ date_column t → hour_due file t k ≡ hour_line_in file k
  unfolding hour_due
  dated_due d = dated_run t d [] (hour_line_in file k)

-- the 200 line of rank k, in bytes
abbrev hour_from : ℕ → ℕ
hour_from k = hour_start 0 + (length_of So2Concentration + 1) * k

pub hour_part : (file : List ℕ) (k : ℕ) →
    hour_line_in file k ≡ take (hour_from k + length_of So2Concentration - hour_from k) (drop (hour_from k) file)
hour_part file k =
    let here : hour_start k ≡ hour_from k = omega arith in
    rw (here, add-sub_cancel_left (hour_from k) (length_of So2Concentration))

module _ (file : List ℕ) (n k : ℕ) (c : Counted file n) where
  pub hour_long : k < n → length (hour_line_in file k) ≡ length_of So2Concentration
  hour_long h = length-take-le (length_of So2Concentration) (drop (hour_start k) file) (omega (arith, c.room, length-drop (hour_start k) file))

  -- a line with a date is judged by a whole 200 line
  pub due_long : (t : RecordType) → k < count_of (shape n) t → 1 ≤ date_column t → length (hour_due file t k) ≡ length_of So2Concentration
  due_long t h d = rw (dated_due file t k d) (hour_long (rw (dated_count t d n) at h))

-- the types that follow, up to the place `end`

module _ (place end : ℕ) (hours : List (List ℕ)) (b : end ≤ length order) where
  few : length (take end order) ≡ end
  few = length-take-le end order b

  pub runs_one : place < end → runs_of (drop place (take end order)) hours ≡ run_of (type_at place) hours ++ runs_of (drop (place + 1) (take end order)) hours
  unfolding runs_of
  runs_one h =
      let m : place < length (take end order) = omega (arith, few) in
      let e : get_or (take end order) place Facility ≡ type_at place = get_or-take end order place Facility h in
      rw (add-one place) (ap (λ (ts : List RecordType). runs_of ts hours) (drop-cons (take end order) place Facility m)
      ∙ ap (λ t. run_of t hours ++ runs_of (drop (suc place) (take end order)) hours) e)

  pub runs_end : end ≤ place → runs_of (drop place (take end order)) hours ≡ []
  unfolding runs_of
  runs_end h = let m : length (take end order) ≤ place = omega (arith, few) in rw (drop_of_length-le (take end order) m)
