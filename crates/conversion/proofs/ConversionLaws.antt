-- The words of a kept sheet one by one: what a test of them all says of each, what each becomes, and that the refusal tells of the clauses.
use Prim.Native.Nat.{ℕ, zero, suc, ◌+◌, ◌*◌, ◌/◌, ◌%◌, ◌≤◌, ◌<◌}
use Rattle.std.specs.Prelude.{◌≡◌, Bool, false, not, ◌&&◌, ◌||◌, eqb, take, drop, set, get_or}
use Rattle.std.proofs.Math.Path.{refl}
use Rattle.std.proofs.Common.{sym, ap, ◌∙◌, not-suc-le-zero, le_of_suc-le-suc, add-one, drop_of_length-le, take-suc-set, drop-set-lt, eqb-true, eq-eqb, ne_eqb}
use Rattle.std.proofs.Math.Bool.{true}
use mathlib.Core.List.{List, [], ◌∷◌, ◌++◌, append-nil}
use native.Mathlib.Omega.{arith}
use Rattle.std.proofs.Math.ListN.{length}
use Rattle.std.proofs.Math.Seq.{drop-cons, append_snoc, take_all}
use Rattle.exact.specs.Logic.{both}
use Rattle.exact.specs.Faults.{◌or_else◌, unless}
use Rattle.exact.specs.Clauses.{clause}
use Rattle.exact.proofs.ClauseLaws.{Told, told_then, told_one}
use Rattle.layout.specs.Values.{thousands_of}
use Rattle.sheet.specs.Sheet.{hour_words, flow_kind, word_of, sheet_hour_count}
use Rattle.sheet.specs.SheetClauses.{EachHour}
use Rattle.conversion.specs.Conversion.{kind_right, flow_right, each_word, conversion_refusal, recoded, recoded_from}
use Rattle.conversion.proofs.HourLimitLaws.{hours, hours_few, few_says, says_few}
use Rattle.conversion.specs.ConversionPromise.{kept_kind, kept_value, conversion_clauses}

-- a test of every word
module _ (test : ℕ → ℕ → Bool) where
  -- word by word
  pub each_next : (sheet : List ℕ) (i : ℕ) → i < length sheet →
      each_word test i (drop i sheet) ≡ (test (i % hour_words) (get_or sheet i 0) && each_word test (i + 1) (drop (i + 1) sheet))
  unfolding each_word
  each_next sheet i h = rw (add-one i, drop-cons sheet i 0 h) refl

  pub each_end : (sheet : List ℕ) (i : ℕ) → length sheet ≤ i → each_word test i (drop i sheet) ≡ true
  unfolding each_word
  each_end sheet i h = rw (drop_of_length-le sheet h) refl

  -- it is one of each
  each_from : (i : ℕ) (ws : List ℕ) → each_word test i ws ≡ true → (j : ℕ) → j < length ws → test ((i + j) % hour_words) (get_or ws j 0) ≡ true
  unfolding each_word
  each_from i [] e j h = absurd (not-suc-le-zero h)
  each_from i (w ∷ ws) e zero h = let z : i + 0 ≡ i = omega arith in rw z (both _ _ e).0
  each_from i (w ∷ ws) e (suc j) h =
      let s : i + suc j ≡ suc i + j = omega arith in
      rw s (each_from (suc i) ws (both (test (i % hour_words) w) _ e).1 j (le_of_suc-le-suc h))

  from_each : (i : ℕ) (ws : List ℕ) → ((j : ℕ) → j < length ws → test ((i + j) % hour_words) (get_or ws j 0) ≡ true) → each_word test i ws ≡ true
  unfolding each_word
  from_each i [] each = refl
  from_each i (w ∷ ws) each =
      let z : i + 0 ≡ i = omega arith in
      let first : test (i % hour_words) w ≡ true = rw z at (each 0 (omega arith)) in
      let later : (j : ℕ) → j < length ws → test ((suc i + j) % hour_words) (get_or ws j 0) ≡ true =
      λ j h. let s : i + suc j ≡ suc i + j = omega arith in rw s at (each (suc j) (omega arith)) in
      rw (first, from_each (suc i) ws later)

  -- the word of place j in hour k
  pub each_says : (sheet : List ℕ) → each_word test 0 sheet ≡ true → (k j : ℕ) → hour_words * k + j < length sheet → j < hour_words →
      test j (get_or sheet (hour_words * k + j) 0) ≡ true
  each_says sheet e k j h l =
      let p : (0 + (hour_words * k + j)) % hour_words ≡ j = omega arith in
      rw p at (each_from 0 sheet e (hour_words * k + j) h)

  pub says_each : (sheet : List ℕ) → length sheet % hour_words ≡ 0 →
      EachHour sheet (λ k. (j : ℕ) → j < hour_words → test j (get_or sheet (hour_words * k + j) 0) ≡ true) → each_word test 0 sheet ≡ true
  says_each sheet whole each =
      from_each 0 sheet
      (λ i h.
      let z : 0 + i ≡ i = omega arith in
      let q : hour_words * (i / hour_words) + i % hour_words ≡ i = omega arith in
      rw z (rw q at (each (i / hour_words) (omega arith) (i % hour_words) (omega arith))))

-- the words afterwards

pub recode_more : (sheet : List ℕ) (i : ℕ) → i < length sheet →
    let next = set sheet i (recoded (i % hour_words) (get_or sheet i 0)) in
    take (i + 1) next ++ recoded_from (i + 1) (drop (i + 1) next) ≡ take i sheet ++ recoded_from i (drop i sheet)
unfolding recoded_from
recode_more sheet i h =
    let v = recoded (i % hour_words) (get_or sheet i 0) in
    rw (add-one i, take-suc-set sheet i v h, drop-set-lt (suc i) sheet i v (omega arith), drop-cons sheet i 0 h)
    (append_snoc (take i sheet) v (recoded_from (suc i) (drop (suc i) sheet)))

pub recode_end : (sheet : List ℕ) (i : ℕ) → length sheet ≤ i → sheet ≡ take i sheet ++ recoded_from i (drop i sheet)
unfolding recoded_from
recode_end sheet i h = rw (take_all i sheet h, drop_of_length-le sheet h) (sym (append-nil sheet))

pub recoded_length : (i : ℕ) (ws : List ℕ) → length (recoded_from i ws) ≡ length ws
unfolding recoded_from
recoded_length i [] = refl
recoded_length i (w ∷ ws) = ap suc (recoded_length (suc i) ws)

recoded_at : (i : ℕ) (ws : List ℕ) (j : ℕ) → j < length ws → get_or (recoded_from i ws) j 0 ≡ recoded ((i + j) % hour_words) (get_or ws j 0)
unfolding recoded_from
recoded_at i [] j h = absurd (not-suc-le-zero h)
recoded_at i (w ∷ ws) zero h = let z : i + 0 ≡ i = omega arith in rw z
recoded_at i (w ∷ ws) (suc j) h = let z : suc i + j ≡ i + suc j = omega arith in rw (← z) (recoded_at (suc i) ws j (le_of_suc-le-suc h))

-- the word of place j in hour k
module _ (sheet : List ℕ) (k : ℕ) where
  pub recoded_word_lem : (j : ℕ) → hour_words * k + j < length sheet → j < hour_words →
      get_or (recoded_from 0 sheet) (hour_words * k + j) 0 ≡ recoded j (get_or sheet (hour_words * k + j) 0)
  recoded_word_lem j h l =
      let p : (0 + (hour_words * k + j)) % hour_words ≡ j = omega arith in
      recoded_at 0 sheet (hour_words * k + j) h ∙ rw p

  pub other_kept : (j : ℕ) → hour_words * k + j < length sheet → j < hour_words → (j ≡ flow_kind → ⊥) →
      get_or (recoded_from 0 sheet) (hour_words * k + j) 0 ≡ get_or sheet (hour_words * k + j) 0
  other_kept j h l other = recoded_word_lem j h l ∙ rw (ne_eqb j flow_kind other)

  pub flow_word : hour_words * k + flow_kind < length sheet →
      get_or (recoded_from 0 sheet) (hour_words * k + flow_kind) 0 ≡ word_of flow_kind (thousands_of (kept_value sheet k 4))
  flow_word h = recoded_word_lem flow_kind h (omega arith)

-- the refusal tells of the clauses
module _ (sheet : List ℕ) where
  whole_says : eqb (length sheet % hour_words) 0 ≡ true → (n : ℕ) × (length sheet ≡ 6 * n)
  whole_says e = (sheet_hour_count sheet, omega (arith, eqb-true (length sheet % hour_words) 0 e))

  says_whole : (n : ℕ) × (length sheet ≡ 6 * n) → eqb (length sheet % hour_words) 0 ≡ true
  says_whole n = eq-eqb (length sheet % hour_words) 0 (omega (arith, n.1))

  module _ (whole : unless (eqb (length sheet % hour_words) 0) 31 ≡ 0) where
    abbrev Kinds : ℕ → Type 0
    Kinds k = (j : ℕ) → j < 6 → kept_kind sheet k j ≡ j

    kinds_say : each_word kind_right 0 sheet ≡ true → EachHour sheet Kinds
    kinds_say e k h j l = eqb-true _ _ (each_says kind_right sheet e k j (omega arith) l)

    say_kinds : EachHour sheet Kinds → each_word kind_right 0 sheet ≡ true
    say_kinds each = says_each kind_right sheet (hours sheet whole) (λ k h j l. eq-eqb _ _ (each k h j l))

    abbrev Whole : ℕ → Type 0
    Whole k = kept_value sheet k 4 % 1000 ≡ 0

    flows_say : each_word flow_right 0 sheet ≡ true → EachHour sheet Whole
    flows_say e k h = eqb-true (kept_value sheet k 4 % 1000) 0 (each_says flow_right sheet e k flow_kind (omega arith) (omega arith))

    say_flows : EachHour sheet Whole → each_word flow_right 0 sheet ≡ true
    say_flows each = says_each flow_right sheet (hours sheet whole) right
      where
        right : EachHour sheet (λ k. (j : ℕ) → j < hour_words → flow_right j (get_or sheet (hour_words * k + j) 0) ≡ true)
        right k h j l = go (eqb j flow_kind) refl
          where
            go : (b : Bool) → eqb j flow_kind ≡ b → (not b || eqb (kept_value sheet k j % 1000) 0) ≡ true
            go true e = rw (eqb-true j flow_kind e) (eq-eqb (kept_value sheet k 4 % 1000) 0 (each k h))
            go false e = refl

  pub refusal_told : Told (conversion_refusal sheet) (conversion_clauses sheet)
  unfolding conversion_refusal
  refusal_told =
      let whole = unless (eqb (length sheet % hour_words) 0) 31 in
      let few = unless (hours_few sheet) 31 in
      let kinds = unless (each_word kind_right 0 sheet) 31 in
      let flows = unless (each_word flow_right 0 sheet) 50 in
      told_then whole (few or_else kinds or_else flows) (clause 31 _ ∷ []) _ (told_one (eqb (length sheet % hour_words) 0) 30 _ whole_says says_whole)
      (λ w.
      told_then few (kinds or_else flows) (clause 31 _ ∷ []) _ (told_one (hours_few sheet) 30 _ (few_says sheet w) (says_few sheet w))
      (λ f.
      told_then kinds flows (clause 31 _ ∷ []) (clause 50 _ ∷ []) (told_one (each_word kind_right 0 sheet) 30 _ (kinds_say w) (say_kinds w))
      (λ k. told_one (each_word flow_right 0 sheet) 49 _ (flows_say w) (say_flows w))))
