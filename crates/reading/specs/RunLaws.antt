-- The records of lines that come in runs, each of one type: the lines of that type's run.
use Prim.Native.Nat.{ℕ, zero, suc, ◌+◌, ◌<◌}
use Rattle.std.specs.Prelude.{◌≡◌, refl, Bool, not, ◌&&◌, eqb, get_or}
use Rattle.std.proofs.Common.{ap, ◌∙◌, le_of_suc-le-suc, not-suc-le-zero, eq-eqb}
use mathlib.Core.List.{List, [], ◌∷◌, ◌++◌, append-nil}
use Rattle.std.proofs.Math.Bool.{true, false}
use native.Mathlib.Omega.{arith}
use Rattle.std.proofs.Math.ListN.{length}
use Rattle.std.proofs.lemmas.Bool.{not-true}
use Rattle.exact.specs.Sums.{total_of}
use Rattle.layout.specs.Layout.{code_of, order, earlier, later}
use Rattle.exact.specs.Logic.{both, All}
use Rattle.layout.proofs.PlaceLaws.{order_split}
use Rattle.layout.proofs.TypeLaws.{absent, only_once}
use Rattle.layout.specs.declared.RecordType.{RecordType}
use Rattle.lines.specs.LineFaults.{type_is}
use Rattle.lines.proofs.FaultLaws.{type_same}
use Rattle.reading.specs.Recorded.{Line, lines_with}
use Rattle.reading.specs.Places.{numbered, having}

-- lines of one type that follow each other
pub record LineRun : Type 0 where
  pub type : RecordType
  pub texts : List (List ℕ)

abbrev pub AllOf : RecordType → List (List ℕ) → Type 0
AllOf t ls = All (λ l. type_is t l ≡ true) ls

abbrev pub Typed : List LineRun → Type 0
Typed [] = Unit {0}
Typed (r ∷ rs) = AllOf r.type r.texts × Typed rs

abbrev pub joined : List LineRun → List (List ℕ)
joined [] = []
joined (r ∷ rs) = r.texts ++ joined rs

-- the lines of the type's own runs, with their numbers
abbrev chosen : RecordType → ℕ → List LineRun → List Line
chosen t number [] = []
chosen t number (r ∷ rs) =
    elim (eqb (code_of r.type) (code_of t)) [
      | true ↦ numbered number r.texts ++ chosen t (number + length r.texts) rs
      | false ↦ chosen t (number + length r.texts) rs
    ]

module _ (u t : RecordType) where
  own_run : eqb (code_of u) (code_of t) ≡ true → (ls rest : List (List ℕ)) (number : ℕ) → AllOf u ls →
      lines_with (type_is t) number (ls ++ rest) ≡ numbered number ls ++ lines_with (type_is t) (number + length ls) rest
  unfolding lines_with numbered
  own_run s [] rest number a = let z : number + 0 ≡ number = omega arith in rw z
  own_run s (l ∷ ls) rest number a =
      let z : suc number + length ls ≡ number + suc (length ls) = omega arith in
      let e = type_same u t l a.0 ∙ s in
      rw (e, lines_with, own_run s ls rest (suc number) a.1, z)

  other_run : eqb (code_of u) (code_of t) ≡ false → (ls rest : List (List ℕ)) (number : ℕ) → AllOf u ls →
      lines_with (type_is t) number (ls ++ rest) ≡ lines_with (type_is t) (number + length ls) rest
  unfolding lines_with
  other_run s [] rest number a = let z : number + 0 ≡ number = omega arith in rw z
  other_run s (l ∷ ls) rest number a =
      let z : suc number + length ls ≡ number + suc (length ls) = omega arith in
      let e = type_same u t l a.0 ∙ s in
      rw (e, lines_with, other_run s ls rest (suc number) a.1, z)

runs_chosen : (t : RecordType) (rs : List LineRun) (number : ℕ) → Typed rs → lines_with (type_is t) number (joined rs) ≡ chosen t number rs
unfolding lines_with
runs_chosen t [] number a = refl
runs_chosen t (r ∷ rs) number a = go (eqb (code_of r.type) (code_of t)) refl (runs_chosen t rs (number + length r.texts) a.1)
  where
    rest : List Line
    rest = chosen t (number + length r.texts) rs

    go : (b : Bool) → eqb (code_of r.type) (code_of t) ≡ b → lines_with (type_is t) (number + length r.texts) (joined rs) ≡ rest →
        lines_with (type_is t) number (r.texts ++ joined rs) ≡ elim b [ true ↦ numbered number r.texts ++ rest | false ↦ rest ]
    go true s i = own_run r.type t s r.texts (joined rs) number a.0 ∙ ap (λ (l : List Line). numbered number r.texts ++ l) i
    go false s i = other_run r.type t s r.texts (joined rs) number a.0 ∙ i

-- runs of these types from a place on; the texts of a type may hang on the place where they stand
module _ (texts : ℕ → RecordType → List (List ℕ)) (count size : RecordType → ℕ) (counted : (at : ℕ) (t : RecordType) → length (texts at t) ≡ count t) where
  abbrev pub runs_from : List RecordType → ℕ → List LineRun
  runs_from [] at = []
  runs_from (t ∷ ts) at = record { type = t; texts = texts at t } ∷ runs_from ts (at + size t)

  -- the first run is the type's own, or not
  first : (t u : RecordType) (us : List RecordType) (number at : ℕ) (b : Bool) → eqb (code_of u) (code_of t) ≡ b →
      let rest = chosen t (number + length (texts at u)) (runs_from us (at + size u)) in
      chosen t number (runs_from (u ∷ us) at) ≡ elim b [ true ↦ numbered number (texts at u) ++ rest | false ↦ rest ]
  first t u us number at b e =
      let rest = chosen t (number + length (texts at u)) (runs_from us (at + size u)) in
      ap (λ (q : Bool). elim q [ true ↦ numbered number (texts at u) ++ rest | false ↦ rest ]) e

  none_chosen : (t : RecordType) (ts : List RecordType) (number at : ℕ) → absent (code_of t) ts ≡ true → chosen t number (runs_from ts at) ≡ []
  none_chosen t [] number at e = refl
  none_chosen t (u ∷ us) number at e =
      let f = both (not (eqb (code_of u) (code_of t))) (absent (code_of t) us) e in
      first t u us number at false (not-true _ f.0) ∙ none_chosen t us (number + length (texts at u)) (at + size u) f.1

  -- a type that stands once among them
  one_chosen : (t : RecordType) (ts us : List RecordType) (number at : ℕ) → absent (code_of t) ts ≡ true → absent (code_of t) us ≡ true →
      chosen t number (runs_from (ts ++ (t ∷ us)) at) ≡ numbered (number + total_of count ts) (texts (at + total_of size ts) t)
  unfolding total_of
  one_chosen t [] us number at a b =
      let z : number + 0 ≡ number = omega arith in
      let y : at + 0 ≡ at = omega arith in
      first t t us number at true (eq-eqb (code_of t) (code_of t) refl) ∙ rw (none_chosen t us (number + length (texts at t)) (at + size t) b, append-nil, z, y)
  one_chosen t (u ∷ ts) us number at a b =
      let f = both (not (eqb (code_of u) (code_of t))) (absent (code_of t) ts) a in
      let z : number + length (texts at u) + total_of count ts ≡ number + (count u + total_of count ts) = omega (arith, counted at u) in
      let y : at + size u + total_of size ts ≡ at + (size u + total_of size ts) = omega arith in
      first t u (ts ++ (t ∷ us)) number at false (not-true (eqb (code_of u) (code_of t)) f.0)
      ∙ rw (← z, ← y) (one_chosen t ts us (number + length (texts at u)) (at + size u) f.1 b)

  -- of runs in the order of a report
  pub order_chosen : (t : RecordType) (number at : ℕ) → Typed (runs_from order at) →
      lines_with (type_is t) number (joined (runs_from order at)) ≡ numbered (number + total_of count (earlier t)) (texts (at + total_of size (earlier t)) t)
  order_chosen t number at a =
      runs_chosen t (runs_from order at) number a
      ∙ ap (λ (ts : List RecordType). chosen t number (runs_from ts at)) (order_split t)
      ∙ one_chosen t (earlier t) (later t) number at (only_once t).0 (only_once t).1

-- a numbered list: as many lines, each with its place
pub numbered_length : (ls : List (List ℕ)) (number : ℕ) → length (numbered number ls) ≡ length ls
unfolding numbered
numbered_length [] number = refl
numbered_length (l ∷ ls) number = ap suc (numbered_length ls (suc number))

pub numbered_at : (ls : List (List ℕ)) (none : Line) (k number : ℕ) → k < length ls →
    get_or (numbered number ls) k none ≡ record { number = number + k; text = get_or ls k [] }
unfolding numbered
numbered_at [] none k number h = absurd (not-suc-le-zero h)
numbered_at (l ∷ ls) none zero number h = let z : number + 0 ≡ number = omega arith in rw z
numbered_at (l ∷ ls) none (suc k) number h =
    let z : suc number + k ≡ number + suc k = omega arith in
    rw z at (numbered_at ls none k (suc number) (le_of_suc-le-suc h))

-- the lines that pass a test: of all, numbered, those that pass it
pub with_numbered : (test : List ℕ → Bool) (ls : List (List ℕ)) (number : ℕ) → lines_with test number ls ≡ having test (numbered number ls)
unfolding lines_with having numbered
with_numbered test [] number = refl
with_numbered test (l ∷ ls) number =
    ap (λ (rest : List Line). elim (test l) [ true ↦ record { number = number; text = l } ∷ rest | false ↦ rest ]) (with_numbered test ls (suc number))

-- lines that pass two tests: of those that pass the one, those that pass the other
pub with_both : (p q : List ℕ → Bool) (ls : List (List ℕ)) (number : ℕ) → lines_with (λ l. p l && q l) number ls ≡ having q (lines_with p number ls)
unfolding lines_with having
with_both p q [] number = refl
with_both p q (l ∷ ls) number = go (p l) (with_both p q ls (suc number))
  where
    here : Line
    here = record { number = number; text = l }

    both_left : List Line
    both_left = lines_with (λ l. p l && q l) (suc number) ls

    left : List Line
    left = lines_with p (suc number) ls

    either : (b : Bool) → both_left ≡ having q left → ◌≡◌ {A = List Line}
        (elim b [ true ↦ here ∷ both_left | false ↦ both_left ]) (elim b [ true ↦ here ∷ having q left | false ↦ having q left ])
    either true e = ap (λ (ls : List Line). here ∷ ls) e
    either false e = e

    go : (a : Bool) → both_left ≡ having q left →
        elim (a && q l) [ true ↦ here ∷ both_left | false ↦ both_left ] ≡ having q (elim a [ true ↦ here ∷ left | false ↦ left ])
    go true e = either (q l) e
    go false e = e

-- tests that agree on every line
pub same_tests : (p q : List ℕ → Bool) (ls : List (List ℕ)) (number : ℕ) → All (λ l. p l ≡ q l) ls → lines_with p number ls ≡ lines_with q number ls
unfolding lines_with
same_tests p q [] number a = refl
same_tests p q (l ∷ ls) number a =
    rw (a.0, lines_with) (ap (λ (rest : List Line). elim (q l) [ true ↦ record { number = number; text = l } ∷ rest | false ↦ rest ])
    (same_tests p q ls (suc number) a.1))

-- a line that passes a test, of some that follow each other
pub record Passing (test : List ℕ → Bool) (number : ℕ) (ls : List (List ℕ)) (l : Line) : Type 0 where
  pub place : ℕ
  pub inside : place < length ls
  pub own : l ≡ record { number = number + place; text = get_or ls place [] }
  pub passes : test l.text ≡ true

pub having_at : (test : List ℕ → Bool) (ls : List (List ℕ)) (none : Line) (k number : ℕ) → k < length (having test (numbered number ls)) →
    Passing test number ls (get_or (having test (numbered number ls)) k none)
unfolding having numbered
having_at test [] none k number h = absurd (not-suc-le-zero h)
having_at test (l ∷ ls) none k number h = go (test l) refl k h (λ j. having_at test ls none j (suc number))
  where
    here : Line
    here = record { number = number; text = l }

    rest : List Line
    rest = having test (numbered (suc number) ls)

    later : {x : Line} → Passing test (suc number) ls x → Passing test number (l ∷ ls) x
    later p =
        let z : suc number + p.place ≡ number + suc p.place = omega arith in
        record { place = suc p.place; inside = omega (arith, p.inside); own = rw (← z) p.own; passes = p.passes }

    go : (b : Bool) → test l ≡ b → (k : ℕ) → k < length {A = Line} (elim b [ true ↦ here ∷ rest | false ↦ rest ]) →
        ((j : ℕ) → j < length rest → Passing test (suc number) ls (get_or rest j none)) →
        Passing test number (l ∷ ls) (get_or (elim b [ true ↦ here ∷ rest | false ↦ rest ]) k none)
    go true e zero h w = let z : number + 0 ≡ number = omega arith in record { place = 0; inside = omega arith; own = rw z; passes = e }
    go true e (suc k) h w = later (w k (le_of_suc-le-suc h))
    go false e k h w = later (w k h)

-- where every line passes, all are left
pub having_all : (test : List ℕ → Bool) (ls : List (List ℕ)) (number : ℕ) → All (λ l. test l ≡ true) ls → having test (numbered number ls) ≡ numbered number ls
unfolding having numbered
having_all test [] number a = refl
having_all test (l ∷ ls) number a =
    rw (a.0, having) (ap (λ (rest : List Line). record { number = number; text = l } ∷ rest) (having_all test ls (suc number) a.1))
