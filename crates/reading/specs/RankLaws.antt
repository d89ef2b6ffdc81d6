-- From rank to place: the records of the 300 lines from a rank on are the operating ones among the lines from a place on.
use Prim.Native.Nat.{ℕ, zero, suc, ◌+◌, ◌-◌, ◌≤◌, ◌<◌}
use Rattle.std.specs.Prelude.{◌≡◌, List, [], ◌∷◌, Bool, cond, drop, get_or}
use Rattle.std.proofs.Math.Path.{refl, sym, ap}
use Rattle.std.proofs.Common.{subst, ◌∙◌, add-one, length-drop, drop-drop, get_or-drop}
use Rattle.std.proofs.Math.Bool.{true, false}
use native.Mathlib.Omega.{arith}
use Rattle.std.proofs.Math.ListN.{length}
use borrow.Author.Tests.{lt-ltb, le-ltb}
use Rattle.columns.specs.Number.{number_of}
use Rattle.layout.specs.Layout.{record_of, length_of, value_at, line_of, offset_of}
use Rattle.layout.specs.declared.RecordType.{RecordType}
use Rattle.layout.specs.declared.RecordType.TheVariants.{Operation}
use Rattle.layout.specs.declared.Run.{Run}
use Rattle.layout.specs.declared.Run.TheVariants.{Once, Hourly, Listed}
use Rattle.layout.specs.declared.Shape.{Shape}
use Rattle.lines.specs.LineFaults.{field_in, time_in, operates}
use Rattle.reading.specs.Recorded.{Line, records_of, value_on}
use Rattle.reading.specs.Places.{lines_at, numbered, having, line_at, Standing, operating_from, place_from, operating_place}
use Rattle.reading.specs.RecordLaws.{other_stands, operating_there}
use Rattle.reading.specs.Places.{Stands}

-- a value of a record is that on its line
pub value_stands : (file : List ℕ) (s : Shape) (t : RecordType) (k p : ℕ) → Stands file s t k p → (i : ℕ) →
    number_of (field_in (value_at t i) (line_at file s t p).text) ≡ value_on file t k i
unfolding value_on
value_stands file s t k p e i = ap (λ (l : Line). number_of (field_in (value_at t i) l.text)) (sym e.there)

-- a record that is no 300 line stands at its rank: that of an hour, and that which stands once
module _ (file : List ℕ) (s : Shape) (d : Standing file s) (t : RecordType) where
  of_run : (run : Run) → (record_of t).run ≡ run → t ≡ Operation → run ≡ Listed
  of_run run e o = sym e ∙ ap (λ t. (record_of t).run) o

  pub hour_stands : (record_of t).run ≡ Hourly → (k : ℕ) → k < s.hours → Stands file s t k k
  hour_stands e k h =
      other_stands file s d t (λ o. let z : Hourly ≡ Listed = of_run Hourly e o in let y : ◌≡◌ {A = ℕ} 0 1 = cc in omega arith) k
      (rw e h)

  pub once_stands : (record_of t).run ≡ Once → Stands file s t 0 0
  once_stands e =
      other_stands file s d t (λ o. let z : Once ≡ Listed = of_run Once e o in let y : ◌≡◌ {A = ℕ} 0 1 = cc in omega arith) 0
      (rw e (omega arith))

module _ (file : List ℕ) (s : Shape) where
  -- of the operating lines from a place on, the first and those from the next place on
  operating_step : (p : ℕ) → p < s.operations →
      operating_from file s p
      ≡ elim (operates (line_at file s Operation p).text) [
        | true ↦ line_at file s Operation p ∷ operating_from file s (suc p)
        | false ↦ operating_from file s (suc p)
      ]
  unfolding operating_from lines_at numbered having
  operating_step p h =
      let l : s.operations - p ≡ suc (s.operations - suc p) = omega arith in
      let n : suc (line_of s Operation p) ≡ line_of s Operation (suc p) = omega arith in
      let o : offset_of s Operation p + (length_of Operation + 1) ≡ offset_of s Operation (suc p) = omega arith in
      rw (l, n, o)

  -- no line is left
  operating_over : (p : ℕ) → s.operations ≤ p → operating_from file s p ≡ []
  unfolding operating_from lines_at numbered having
  operating_over p h = let l : s.operations - p ≡ 0 = omega arith in rw l

  -- the first of them stands at the first place that operates
  pub record Found (p q : ℕ) : Type 0 where
    pub inside : q < s.operations
    pub first : operating_from file s p ≡ line_at file s Operation q ∷ operating_from file s (suc q)

  place_found : (left p : ℕ) → p + left ≡ s.operations → 0 < length (operating_from file s p) → Found p (place_from file s p left)
  unfolding place_from
  place_found zero p e h = absurd (let z = ap length (operating_over p (omega arith)) in omega arith)
  place_found (suc left) p e h = go (operates (line_at file s Operation p).text) refl (place_found left (suc p) (omega arith))
    where
      step : (b : Bool) → operates (line_at file s Operation p).text ≡ b →
          operating_from file s p ≡ elim b [ true ↦ line_at file s Operation p ∷ operating_from file s (suc p) | false ↦ operating_from file s (suc p) ]
      step b o = operating_step p (omega arith) ∙ rw o

      go : (b : Bool) → operates (line_at file s Operation p).text ≡ b →
          (0 < length (operating_from file s (suc p)) → Found (suc p) (place_from file s (suc p) left)) →
          Found p (cond b p (place_from file s (suc p) left))
      go true o ih = record { inside = omega arith; first = step true o }
      go false o ih =
          let f = ih (rw (← step false o) h) in
          record { inside = f.inside; first = step false o ∙ f.first }

  -- the search, one place further: a time above 0.00 ends it, and so does the last line
  module _ (p time : ℕ) (e : time ≡ number_of (time_in (line_at file s Operation p).text)) (h : p < s.operations) where
    place_at : (b : Bool) → operates (line_at file s Operation p).text ≡ b →
        operating_place file s p ≡ cond b p (place_from file s (suc p) (s.operations - suc p))
    unfolding place_from
    place_at b o = let l : s.operations - p ≡ suc (s.operations - suc p) = omega arith in rw (l, o)

    pub place_here : (time ≡ 0 → ⊥) → p ≡ operating_place file s p
    unfolding operates
    place_here n = sym (place_at true (lt-ltb 0 (number_of (time_in (line_at file s Operation p).text)) (omega arith)))

    -- behind an idle hour the same hours operate
    pub place_idle : time ≡ 0 → (operating_place file s (p + 1) ≡ operating_place file s p) × (operating_from file s (p + 1) ≡ operating_from file s p)
    unfolding operates
    place_idle z =
        let o = le-ltb 0 (number_of (time_in (line_at file s Operation p).text)) (omega arith) in
        rw (add-one p) (sym (place_at false o), sym (operating_step p h ∙ rw o))

  pub operating_none : (p : ℕ) → s.operations ≤ p → length (operating_from file s p) ≡ 0
  operating_none p h = ap length (operating_over p h)

  -- the records from rank k on are the operating lines from place p on
  pub record Ahead (k p : ℕ) : Type 0 where
    pub few : p ≤ s.operations
    pub left : drop k (records_of file Operation) ≡ operating_from file s p

  module _ (d : Standing file s) where
    pub ahead_first : Ahead 0 0
    unfolding operating_from
    ahead_first =
        let z : s.operations - 0 ≡ s.operations = omega arith in
        record { few = omega arith; left = operating_there file s d ∙ rw z }

    module _ (k p : ℕ) (a : Ahead k p) (h : k < s.hours) where
      pub ahead_some : 0 < length (operating_from file s p)
      ahead_some = omega (arith, ap length a.left, length-drop k (records_of file Operation), d.operating)

      found : Found p (operating_place file s p)
      found = place_found (s.operations - p) p (omega (arith, a.few)) ahead_some

      found_stands : Stands file s Operation k (operating_place file s p)
      found_stands =
          let z : k + 0 ≡ k = omega arith in
          record {
            inside = found.inside;
            there =
                sym (get_or-drop k (records_of file Operation) 0 (record { number = 0; text = [] }) ∙ rw z)
                ∙ ap (λ (ls : List Line). get_or ls 0 (record { number = 0; text = [] })) (a.left ∙ found.first);
          }

      found_next : Ahead (k + 1) (operating_place file s p + 1)
      found_next =
          record {
            few = omega (arith, found.inside);
            left = rw (add-one (operating_place file s p)) (sym (drop-drop 1 k (records_of file Operation)) ∙ ap (drop 1) (a.left ∙ found.first));
          }

      module _ (place : ℕ) (e : place ≡ operating_place file s p) where
        -- the record of rank k stands there
        pub ahead_stands : Stands file s Operation k place
        ahead_stands = subst (Stands file s Operation k) (sym e) found_stands

        pub ahead_next : Ahead (k + 1) (place + 1)
        ahead_next = subst (λ (q : ℕ). Ahead (k + 1) (q + 1)) (sym e) found_next
