-- Walks of the lines that end well, and where each line of a right file stands.
use Rattle.std.specs.Prelude.{ℕ, zero, suc, ◌+◌, ◌*◌, ◌≤◌, ◌<◌, refl, true, false, drop, Ok}
use Rattle.std.proofs.Math.Path.{◌≡◌, sym}
use Rattle.std.proofs.Common.{subst, ◌∙◌, not-suc-le-zero, le_of_suc-le-suc, eq-eqb, drop_of_length-le}
use mathlib.Core.List.{List, [], ◌∷◌, ◌++◌}
use native.Mathlib.Omega.{arith}
use Rattle.std.proofs.Math.Decide.{dec_lt}
use Rattle.exact.specs.Sums.{total_of}
use Rattle.std.proofs.Math.ListN.{length, take}
use Rattle.layout.specs.Layout.{length_of, order, earlier, later, count_of, bytes_of, offset_of}
use Rattle.layout.proofs.PlaceLaws.{order_split, front_bytes}
use Rattle.layout.specs.declared.RecordType.{RecordType}
use Rattle.layout.specs.declared.Shape.{Shape}
use Rattle.lines.specs.Lines.{first_line, lines, last}
use Rattle.lines.proofs.LineLaws.{lines_at_lem, line_at}
use Rattle.lines.specs.LineFaults.{type_is, shape_fault, Due, due_of, due_fault}
use Rattle.lines.specs.FaultLaws.{ValuesRight, ValuesFormed}
use Rattle.lines.proofs.FaultLaws.{shape_type, shape_length, values_right, due_shape, due_right, values_formed}
use Rattle.lines.proofs.EndLaws.{line_within}
use Rattle.lines.specs.RightLine.{RightDue}
use Rattle.lines.proofs.RightLaws.{says_due}
use Rattle.reading.specs.RightFile.{RightRun}
use Rattle.reading.specs.Reading.{stopped_at, After, walk_due, walk_end, walk, read_of}
use Rattle.reading.specs.Recorded.{idle}
use Rattle.reading.specs.declared.Report.{Report}
use Rattle.reading.specs.Reading.{Reading}

-- the first lines are those that are due, without fault, and the rest follows
abbrev pub Matches : List ℕ → List Due → List (List ℕ) → List (List ℕ) → Type 0
Matches facility [] ls rest = ls ≡ rest
Matches facility (d ∷ ds) [] rest = ⊥
Matches facility (d ∷ ds) (l ∷ ls) rest = (due_fault facility d l ≡ 0) × Matches facility ds ls rest

-- a file that ends in byte 10 is walked
pub ended_walked : (file : List ℕ) → last file ≡ 10 → read_of file ≡ walk (lines file)
unfolding read_of
ended_walked file e = rw (eq-eqb (last file) 10 e, read_of)

pub never_clean : {A : Type 0} (number line : ℕ) (r : Report) → stopped_at number line ≡ Ok r → A
never_clean number line r e = absurd (let z : ◌≡◌ {A = ℕ} 0 1 = cc in omega arith)

pub due_clean : (facility : List ℕ) (line : ℕ) (due : List Due) (ls : List (List ℕ)) (after : After) (r : Report) →
    walk_due facility line due ls after ≡ Ok r → (rest : List (List ℕ)) × Matches facility due ls rest × (after (line + length due) rest ≡ Ok r)
unfolding walk_due
due_clean facility line [] ls after r e = let z : line + 0 ≡ line = omega arith in (ls, refl, rw z e)
due_clean facility line (d ∷ ds) [] after r e = never_clean 10 line r e
due_clean facility line (d ∷ ds) (l ∷ ls) after r e = go (due_fault facility d l) refl e (due_clean facility (line + 1) ds ls after r)
  where
    next : Reading
    next = walk_due facility (line + 1) ds ls after

    go : (f : ℕ) → due_fault facility d l ≡ f → ◌≡◌ {A = Reading} (elim f [ zero ↦ next | suc c ↦ stopped_at (suc c) line ]) (Ok r) →
        (next ≡ Ok r → (rest : List (List ℕ)) × Matches facility ds ls rest × (after (line + 1 + length ds) rest ≡ Ok r)) →
        (rest : List (List ℕ)) × ((due_fault facility d l ≡ 0) × Matches facility ds ls rest) × (after (line + suc (length ds)) rest ≡ Ok r)
    go zero k w ih =
        let m = ih w in
        let z : line + 1 + length ds ≡ line + suc (length ds) = omega arith in
        (m.0, (k, m.1), rw z at m.2)
    go (suc c) k w ih = never_clean (suc c) line r w

pub end_clean : (report : Report) (line : ℕ) (ls : List (List ℕ)) (r : Report) → walk_end report line ls ≡ Ok r → (ls ≡ []) × (r ≡ report)
unfolding walk_end
end_clean report line [] r e = (refl, cc)
end_clean report line (l ∷ ls) r e = never_clean 2 line r e

module _ (file : List ℕ) (ends : last file ≡ 10) (facility : List ℕ) where
  -- the first of the lines from `at` on has the type, no malformed value and, unless it is idle, every value in its range; the others follow it
  pub record LineRight (t : RecordType) (at : ℕ) : Type 0 where
    pub type : type_is t (take (length_of t) (drop at file)) ≡ true
    pub next : lines (drop at file) ≡ take (length_of t) (drop at file) ∷ lines (drop (at + (length_of t + 1)) file)
    pub formed : ValuesFormed t (take (length_of t) (drop at file))
    pub values : idle (take (length_of t) (drop at file)) ≡ false → ValuesRight t (take (length_of t) (drop at file))

  -- a line without fault stands at `at`, and the others follow it
  pub line_right : (t : RecordType) (x : List ℕ) (ls : List (List ℕ)) (at : ℕ) → lines (drop at file) ≡ x ∷ ls → shape_fault t x ≡ 0 →
      ValuesFormed t x → (idle x ≡ false → ValuesRight t x) →
      LineRight t at × (lines (drop (at + (length_of t + 1)) file) ≡ ls) × (at + (length_of t + 1) ≤ length file)
  unfolding lines
  line_right t x ls at e f w v = go (dec_lt at (length file))
    where
      go : Dec (at < length file) → LineRight t at × (lines (drop (at + (length_of t + 1)) file) ≡ ls) × (at + (length_of t + 1) ≤ length file)
      go (no h) =
          let k : length file ≤ at = omega arith in
          let n : [] ≡ x ∷ ls = rw (drop_of_length-le file k) at e in
          absurd (let z : ◌≡◌ {A = ℕ} 0 1 = cc in omega arith)
      go (yes h) =
          let m = lines_at_lem file at h in
          let a : first_line (drop at file) ≡ x = cc in
          let l : length (first_line (drop at file)) ≡ length_of t = rw a (shape_length t x f) in
          let b : lines (drop (at + (length (first_line (drop at file)) + 1)) file) ≡ ls = cc in
          let s : x ≡ take (length_of t) (drop at file) = sym a ∙ line_at file at (length_of t) l in (
            record { type = rw s at (shape_type t x f); next = rw (l, line_at file at (length_of t) l) at m; formed = rw s at w; values = rw s at v },
            rw l at b,
            omega (arith, line_within file at ends h),
          )

  -- so is a line that is right by the 200 line of its rank
  pub due_line : (t : RecordType) (hour l : List ℕ) (ls : List (List ℕ)) (at : ℕ) → RightDue facility t hour l → lines (drop at file) ≡ l ∷ ls →
      LineRight t at × (lines (drop (at + (length_of t + 1)) file) ≡ ls) × (at + (length_of t + 1) ≤ length file)
  due_line t hour l ls at r e =
      let f = says_due facility t hour l r in
      let d = due_right facility (due_of t hour) l f in
      line_right t l ls at e (due_shape facility (due_of t hour) l f) (values_formed t l d.values) (λ i. values_right t l d.values)

  -- so many lines of a type from `at` on
  abbrev pub RunRight : RecordType → (at m : ℕ) → Type 0
  RunRight t at m = (k : ℕ) → k < m → LineRight t (at + (length_of t + 1) * k)

  pub run_one : (t : RecordType) (at : ℕ) → LineRight t at → RunRight t at 1
  run_one t at l zero h = let e : at + (length_of t + 1) * 0 ≡ at = omega arith in rw e l
  run_one t at l (suc k) h = absurd (omega arith)

  -- one line in front of others
  pub run_more : (t : RecordType) (at m : ℕ) → LineRight t at → RunRight t (at + (length_of t + 1)) m → RunRight t at (suc m)
  run_more t at m p q zero h = let e : at + (length_of t + 1) * 0 ≡ at = omega arith in rw e p
  run_more t at m p q (suc k) h =
      let e : at + (length_of t + 1) + (length_of t + 1) * k ≡ at + (length_of t + 1) * suc k = omega arith in
      rw e at (q k (le_of_suc-le-suc h))

  -- the lines of a type, one for each 200 line
  pub run_right : (t : RecordType) (hours run rest : List (List ℕ)) (at : ℕ) → RightRun facility t hours run → lines (drop at file) ≡ run ++ rest →
      at ≤ length file →
      RunRight t at (length hours) × (lines (drop (at + (length_of t + 1) * length hours) file) ≡ rest) × (at + (length_of t + 1) * length hours ≤ length file)
  run_right t [] [] rest at r e b =
      let z : at + (length_of t + 1) * 0 ≡ at = omega arith in
      ((λ k h. absurd (not-suc-le-zero h)), rw z e, rw z b)
  run_right t [] (l ∷ ls) rest at r e b = absurd r
  run_right t (h ∷ hs) [] rest at r e b = absurd r
  run_right t (h ∷ hs) (l ∷ ls) rest at r e b =
      let a = due_line t h l (ls ++ rest) at r.0 e in
      let i = run_right t hs ls rest (at + (length_of t + 1)) r.1 a.1 a.2 in
      let z : at + (length_of t + 1) + (length_of t + 1) * length hs ≡ at + (length_of t + 1) * suc (length hs) = omega arith in
      (run_more t at (length hs) a.0 i.0, rw z at i.1, rw z at i.2)

  -- the lines of types, one type after the other
  unfoldable pub RunsRight : List RecordType → Shape → ℕ → Type 0
  RunsRight [] s at = Unit {0}
  RunsRight (t ∷ ts) s at = RunRight t at (count_of s t) × RunsRight ts s (at + bytes_of s t)

  -- the lines of a type stand behind those of the types before it
  runs_behind : (ts us : List RecordType) (t : RecordType) (s : Shape) (at : ℕ) → RunsRight (ts ++ (t ∷ us)) s at →
      RunRight t (at + total_of (bytes_of s) ts) (count_of s t)
  unfolding RunsRight total_of
  runs_behind [] us t s at r = let z : at + 0 ≡ at = omega arith in rw z r.0
  runs_behind (u ∷ ts) us t s at r =
      let z : at + bytes_of s u + total_of (bytes_of s) ts ≡ at + (bytes_of s u + total_of (bytes_of s) ts) = omega arith in
      rw z at (runs_behind ts us t s (at + bytes_of s u) r.1)

  pub order_line : (s : Shape) → RunsRight order s 0 → (t : RecordType) (k : ℕ) → k < count_of s t → LineRight t (offset_of s t k)
  order_line s r t k b =
      let own = runs_behind (earlier t) (later t) t s 0 (subst (λ (ts : List RecordType). RunsRight ts s 0) (order_split t) r) in
      let z : 0 + total_of (bytes_of s) (earlier t) + (length_of t + 1) * k ≡ offset_of s t k = omega (arith, front_bytes s t) in
      rw z at (own k b)
