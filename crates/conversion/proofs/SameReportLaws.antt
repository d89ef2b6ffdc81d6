-- What the writer says of a converted sheet is what it said of the kept one: both have the same hours. So the promise holds.
use Rattle.std.specs.Prelude.{ℕ, zero, suc, ◌+◌, ◌*◌, ◌/◌, ◌%◌, ◌≤◌, ◌<◌, ◌≡◌, refl, Bool, true, false, ◌&&◌, List, ◌++◌, eqb, length, drop, Ok, Err}
use Rattle.std.proofs.Common.{sym, ap₂, ◌∙◌, true≢false, arith}
use Rattle.std.proofs.Math.Path.{ap}
use Rattle.std.proofs.Math.Dec.{leb}
use Rattle.std.proofs.Math.ListN.{get_or}
use borrow.Author.Tests.{eqb-true, eq-eqb, le-leb}
use Rattle.exact.specs.Logic.{ranked}
use Rattle.exact.specs.Faults.{◌or_else◌, unless}
use Rattle.exact.proofs.ClauseLaws.{told_wrong}
use Rattle.layout.specs.Layout.{report_length, shape}
use Rattle.layout.specs.Values.{within}
use Rattle.layout.specs.declared.Shape.{Shape}
use Rattle.sheet.specs.Sheet.{hour_words, flow_kind, word_of, first_form, present_form, sheet_kind_in, sheet_hour_in, sheet_hour_count, shape_of, sheet_hours_in}
use Rattle.sheet.specs.SheetTests.{every, kinds_hold_in, sheet_holds_in, readings_hold_in}
use Rattle.sheet.specs.SheetClauses.{kind_at, value_at}
use Rattle.sheet.proofs.SheetClauseLaws.{say_kinds}
use Rattle.sheet.specs.declared.SheetHour.{SheetHour}
use Rattle.writer.specs.Recorded.{report_hours}
use Rattle.writer.specs.Refusals.{figures_fit, refusal_in}
use Rattle.writer.specs.Written.{Written, answered, answered_in, buffered, buffered_in, report}
use Rattle.conversion.specs.Conversion.{conversion_refusal, recoded_from}
use Rattle.conversion.specs.ConversionPromise.{kept_kind, kept_value, OldFlows, ConversionPromise}
use Rattle.conversion.proofs.ConversionLaws.{recoded_length, other_kept, flow_word, refusal_told}

-- lists that have the same at each rank are the same, and so are tests of their members

ranked_same : {A : Type 0} (f g : ℕ → A) (n k left : ℕ) → ((j : ℕ) → j < n → f j ≡ g j) → k + left ≤ n → ranked f k left ≡ ranked g k left
unfolding ranked
ranked_same f g n k zero e h = refl
ranked_same f g n k (suc left) e h = rw (e k (omega arith), ranked_same f g n (suc k) left e (omega arith))

every_same : (p q : SheetHour → Bool) (f : ℕ → SheetHour) (n k left : ℕ) → ((j : ℕ) → j < n → p (f j) ≡ q (f j)) → k + left ≤ n →
    every p (ranked f k left) ≡ every q (ranked f k left)
unfolding ranked every
every_same p q f n k zero e h = refl
every_same p q f n k (suc left) e h = ap₂ ◌&&◌ (e k (omega arith)) (every_same p q f n (suc k) left e (omega arith))

-- the refusal that four tests leave, and what a refusal leaves of an answer and of a buffer

abbrev number : (shaped readings figures room : Bool) → ℕ
number a b c d = unless a 31 or_else unless b 32 or_else unless c 33 or_else unless d 34

number_same : {a b c d a' b' c' d' : Bool} → a ≡ a' → b ≡ b' → c ≡ c' → d ≡ d' → number a b c d ≡ number a' b' c' d'
number_same e f g h = cc

answer_same : {r r' long long' : ℕ} → r ≡ r' → long ≡ long' →
    ◌≡◌ {A = Written} (elim r [ zero ↦ Ok long | suc c ↦ Err (suc c) ]) (elim r' [ zero ↦ Ok long' | suc c ↦ Err (suc c) ])
answer_same e f = cc

bytes_same : {r r' long long' : ℕ} {file file' : List ℕ} (b : List ℕ) → r ≡ r' → file ≡ file' → long ≡ long' →
    ◌≡◌ {A = List ℕ} (elim r [ zero ↦ file ++ drop long b | suc c ↦ b ]) (elim r' [ zero ↦ file' ++ drop long' b | suc c ↦ b ])
bytes_same b e f g = cc

-- a sheet that is converted
module _ (sheet : List ℕ) (right : conversion_refusal sheet ≡ 0) where
  abbrev n : ℕ
  n = sheet_hour_count sheet

  abbrev new : List ℕ
  new = recoded_from 0 sheet

  -- its words
  old_kind : (k j : ℕ) → k < n → j < hour_words → kept_kind sheet k j ≡ j
  old_kind k j h l = ((refusal_told sheet).right right).1.1.0 k (omega arith) j l

  whole_flow : (k : ℕ) → k < n → kept_value sheet k 4 % 1000 ≡ 0
  whole_flow k h = ((refusal_told sheet).right right).1.1.1.0 k (omega arith)

  kept : (k j : ℕ) → k < n → j < hour_words → (j ≡ flow_kind → ⊥) → get_or new (hour_words * k + j) 0 ≡ get_or sheet (hour_words * k + j) 0
  kept k j h l other = other_kept sheet k j (omega arith) l other

  flow_there : (k : ℕ) → k < n → get_or new (hour_words * k + flow_kind) 0 ≡ word_of flow_kind (kept_value sheet k 4 / 1000)
  flow_there k h = flow_word sheet k (omega arith)

  new_flow : (k : ℕ) → k < n → (kind_at new k 4 ≡ 4) × (1000 * value_at new k 4 ≡ kept_value sheet k 4)
  new_flow k h = let w = flow_there k h in rw w (omega (arith, whole_flow k h))

  new_kind : (k j : ℕ) → k < n → j < hour_words → sheet_kind_in present_form new k j ≡ j
  new_kind k j h l = go (eqb j flow_kind) refl
    where
      go : (b : Bool) → eqb j flow_kind ≡ b → sheet_kind_in present_form new k j ≡ j
      go true e = rw (eqb-true j flow_kind e) (new_flow k h).0
      go false e = rw (kept k j h l (λ z. absurd (true≢false (sym (eq-eqb j flow_kind z) ∙ e)))) (old_kind k j h l)

  -- its hours
  same_count : sheet_hour_count new ≡ n
  same_count = ap (λ (l : ℕ). l / hour_words) (recoded_length 0 sheet)

  same_hour : (k : ℕ) → k < n → sheet_hour_in present_form new k ≡ sheet_hour_in first_form sheet k
  unfolding sheet_hour_in
  same_hour k h =
      let z : (j : ℕ) → j < hour_words → (j ≡ flow_kind → ⊥) → get_or new (hour_words * k + j) 0 ≡ get_or sheet (hour_words * k + j) 0 = λ j. kept k j h in
      rw (
        z 0 (omega arith) (λ e. omega arith),
        z 1 (omega arith) (λ e. omega arith),
        z 2 (omega arith) (λ e. omega arith),
        z 3 (omega arith) (λ e. omega arith),
        (new_flow k h).1,
        z 5 (omega arith) (λ e. omega arith),
      )

  same_hours : sheet_hours_in present_form new ≡ sheet_hours_in first_form sheet
  unfolding sheet_hours_in
  same_hours = rw same_count (ranked_same _ _ n 0 n same_hour (omega arith))

  -- 31
  same_kinds : kinds_hold_in present_form new 0 (sheet_hour_count new) ≡ kinds_hold_in first_form sheet 0 n
  same_kinds =
      say_kinds new present_form (λ k h j l. new_kind k j (omega (arith, recoded_length 0 sheet)) l)
      ∙ sym (say_kinds sheet first_form (λ k h j l. old_kind k j (omega arith) l))

  same_holds : (year quarter : ℕ) (name : List ℕ) → sheet_holds_in present_form year quarter name new ≡ sheet_holds_in first_form year quarter name sheet
  unfolding sheet_holds_in
  same_holds year quarter name = rw (same_kinds, same_hours, recoded_length 0 sheet)

  same_shape : shape_of new ≡ shape_of sheet
  same_shape = ap shape same_count

  module _ (old : OldFlows sheet) where
    -- 32
    flow_same : (v : ℕ) → v ≤ 500_000_000 → within present_form.flow v ≡ within first_form.flow v
    unfolding within
    flow_same v h = rw (le-leb v 9_999_999_000 (omega arith), le-leb v 500_000_000 h)

    same_readings : every (readings_hold_in present_form) (sheet_hours_in present_form new) ≡ every (readings_hold_in first_form) (sheet_hours_in first_form sheet)
    unfolding sheet_hours_in sheet_hour_in readings_hold_in
    same_readings =
        ap (every (readings_hold_in present_form)) same_hours
        ∙ every_same (readings_hold_in present_form) (readings_hold_in first_form) (sheet_hour_in first_form sheet) n 0 n
        (λ k h. rw (flow_same (kept_value sheet k 4) (old k (omega arith)))) (omega arith)

    -- 33 and 34 look at hours and shape
    same_refusal : (year quarter : ℕ) (name : List ℕ) (room : ℕ) →
        refusal_in present_form year quarter name new room ≡ refusal_in first_form year quarter name sheet room
    unfolding refusal_in
    same_refusal year quarter name room =
        number_same (same_holds year quarter name) same_readings (ap (every figures_fit) same_hours)
        (ap (λ (s : Shape). leb (report_length s) room) same_shape)

    pub same_report : (year quarter : ℕ) (name b : List ℕ) →
        (answered year quarter name new (length b) ≡ answered_in first_form year quarter name sheet (length b))
        × (buffered year quarter name new b ≡ buffered_in first_form year quarter name sheet b)
    unfolding answered_in buffered_in
    same_report year quarter name b =
        let r = same_refusal year quarter name (length b) in (
          answer_same r (ap report_length same_shape),
          bytes_same b r (ap (λ hs. report year quarter name (report_hours hs)) same_hours) (ap report_length same_shape),
        )

-- the promise

pub kept_promise : (sheet : List ℕ) → (conversion_refusal sheet ≡ 0 → ⊥) → ConversionPromise sheet (conversion_refusal sheet) sheet
kept_promise sheet wrong = record {
  refused = λ z. (told_wrong _ _ (refusal_told sheet) wrong, refl);
  taken = λ z. absurd (wrong z);
  as_long = refl;
  others_kept = λ k j h l o. refl;
  thousands = λ z. absurd (wrong z);
  converted_same = λ z. absurd (wrong z);
}

pub new_promise : (sheet : List ℕ) → conversion_refusal sheet ≡ 0 → ConversionPromise sheet 0 (recoded_from 0 sheet)
new_promise sheet right = record {
  refused = λ z. absurd (z refl);
  taken = λ z. (refusal_told sheet).right right;
  as_long = recoded_length 0 sheet;
  others_kept = λ k j h l o. other_kept sheet k j h l o;
  thousands = λ z k h. new_flow sheet right k (omega arith);
  converted_same = λ z old year quarter name b. same_report sheet right old year quarter name b;
}
