-- Four tests leave a refusal, and one word more of them is tried.
use Prim.Native.Nat.{ℕ, ◌+◌, ◌%◌, ◌≤◌, ◌<◌}
use mathlib.Core.Path.{◌≡◌, refl, sym, ap, ◌∙◌}
use mathlib.Core.Bool.{Bool, true, false, ◌&&◌}
use mathlib.Core.List.{List}
use lib.Dec.{eqb, leb}
use lib.ListN.{length, drop, get_or}
use Rattle.exact.specs.Faults.{◌or_else◌, unless}
use Rattle.calendar.specs.Calendar.{most_hours}
use Rattle.sheet.specs.Sheet.{hour_words, sheet_hour_count}
use Rattle.conversion.specs.Conversion.{kind_right, flow_right, each_word, conversion_refusal}
use Rattle.conversion.proofs.ConversionLaws.{each_next, each_end}

pub told : (sheet : List ℕ) {whole few kinds flows : Bool} → eqb (length sheet % hour_words) 0 ≡ whole → leb (sheet_hour_count sheet) most_hours ≡ few →
    each_word kind_right 0 sheet ≡ kinds → each_word flow_right 0 sheet ≡ flows →
    (unless whole 31 or_else unless few 31 or_else unless kinds 31 or_else unless flows 50) ≡ conversion_refusal sheet
unfolding conversion_refusal
told sheet a b c d = rw (a, b, c, d)

-- of one test, where the word of rank i is tried next
module _ (test : ℕ → ℕ → Bool) (sheet : List ℕ) (i : ℕ) (h : i < length sheet) where
  abbrev own : Bool
  own = test (i % hour_words) (get_or sheet i 0)

  pub tried_wrong : own ≡ false → each_word test i (drop i sheet) ≡ false
  tried_wrong e = each_next test sheet i h ∙ ap (λ (b : Bool). b && each_word test (i + 1) (drop (i + 1) sheet)) e

  pub tried_right : own ≡ true → each_word test (i + 1) (drop (i + 1) sheet) ≡ each_word test i (drop i sheet)
  tried_right e = sym (each_next test sheet i h ∙ ap (λ (b : Bool). b && each_word test (i + 1) (drop (i + 1) sheet)) e)

  pub tried_with : (before : Bool) → (before && own && each_word test (i + 1) (drop (i + 1) sheet)) ≡ (before && each_word test i (drop i sheet))
  tried_with true = sym (each_next test sheet i h)
  tried_with false = refl

-- all words are tried
pub flows_ended : (sheet : List ℕ) (i : ℕ) → length sheet ≤ i → (flows : Bool) →
    (flows && each_word flow_right i (drop i sheet)) ≡ each_word flow_right 0 sheet → each_word flow_right 0 sheet ≡ flows
flows_ended sheet i h true e = sym e ∙ each_end flow_right sheet i h
flows_ended sheet i h false e = sym e
