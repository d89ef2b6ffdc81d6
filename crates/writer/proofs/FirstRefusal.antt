-- What the pass over the hours finds, and 34 after it, is what refusal_of gives.
use Prim.Native.Nat.{ℕ, zero, suc, ◌%◌, ◌≤◌, ◌<◌}
use mathlib.Core.Path.{◌≡◌, refl, sym, ◌∙◌}
use mathlib.Core.List.{List}
use mathlib.Core.Bool.{Bool, true, false, ◌&&◌}
use native.Mathlib.Omega.{arith}
use lib.Dec.{leb}
use lib.ListN.{length}
use borrow.Author.Tests.{eq-eqb, ne_eqb, le-leb, lt-leb}
use Rattle.exact.specs.Faults.{◌or_else◌, unless}
use Rattle.calendar.specs.Calendar.{hours_in_quarter}
use Rattle.layout.specs.Layout.{report_length}
use Rattle.sheet.specs.Sheet.{hour_words, sheet_hour_count, shape_of, sheet_hours, sheet_hours_in}
use Rattle.sheet.specs.SheetTests.{every, heading_holds, kinds_hold, hours_rise, sheet_holds, readings_hold, sheet_holds_in}
use Rattle.writer.specs.Refusals.{figures_fit, refusal_of, refusal_in}
use Rattle.writer.specs.OnePass.{values_refusal, hours_refusal, first_tried, in_order, refusal_from}

-- what the pass finds over all hours
abbrev pub passed : ℕ → ℕ → List ℕ → ℕ
passed year quarter sheet = refusal_from (hours_in_quarter year quarter) sheet 0 (sheet_hour_count sheet) 0 0

module _ (year quarter : ℕ) (name sheet : List ℕ) (room : ℕ) where
  unshaped : sheet_holds year quarter name sheet ≡ false → 31 ≡ refusal_of year quarter name sheet room
  unfolding refusal_in
  unshaped e = rw (e, refusal_in)

  pub heading_wrong : heading_holds year quarter name ≡ false → 31 ≡ refusal_of year quarter name sheet room
  unfolding sheet_holds_in
  heading_wrong e = unshaped (rw e)

  pub words_wrong : heading_holds year quarter name ≡ true → (length sheet % hour_words ≡ 0 → ⊥) → 31 ≡ refusal_of year quarter name sheet room
  unfolding sheet_holds_in
  words_wrong e w = unshaped (rw (e, ne_eqb _ _ w))

  module _ (e : heading_holds year quarter name ≡ true) (w : length sheet % hour_words ≡ 0) where
    shaped : sheet_holds year quarter name sheet ≡ (kinds_hold sheet 0 (sheet_hour_count sheet) && hours_rise (hours_in_quarter year quarter) 0 (sheet_hours sheet))
    unfolding sheet_holds_in
    shaped = rw (e, eq-eqb _ _ w)

    -- 34 is tried last
    told : refusal_of year quarter name sheet room ≡ (passed year quarter sheet or_else unless (leb (report_length (shape_of sheet)) room) 34)
    unfolding refusal_in refusal_from in_order hours_refusal sheet_hours_in first_tried
    told =
        rw (shaped, refusal_in)
        (go (kinds_hold sheet 0 (sheet_hour_count sheet)) (hours_rise (hours_in_quarter year quarter) 0 (sheet_hours sheet)) (every readings_hold (sheet_hours sheet))
        (every figures_fit (sheet_hours sheet)))
      where
        fits : Bool
        fits = leb (report_length (shape_of sheet)) room

        go : (a b c d : Bool) →
            ◌≡◌ {A = ℕ}
            (unless (a && b) 31 or_else unless c 32 or_else unless d 33 or_else unless fits 34)
            (in_order a b (values_refusal c d) or_else unless fits 34)
        go false b c d = refl
        go true false c d = refl
        go true true false d = refl
        go true true true false = refl
        go true true true true = refl

    pub found_first : (found : ℕ) → found ≡ passed year quarter sheet → (found ≡ 0 → ⊥) → found ≡ refusal_of year quarter name sheet room
    found_first zero f h = absurd (h refl)
    found_first (suc found) f h = sym (told ∙ rw (← f))

    module _ {bytes : ℕ} (f : passed year quarter sheet ≡ 0) (b : bytes ≡ report_length (shape_of sheet)) where
      pub room_short : room < bytes → 34 ≡ refusal_of year quarter name sheet room
      room_short h = sym (told ∙ rw (f, lt-leb _ _ (rw b at h)))

      pub room_enough : bytes ≤ room → 0 ≡ refusal_of year quarter name sheet room
      room_enough h = sym (told ∙ rw (f, le-leb _ _ (rw b at h)))

    pub none_found : passed year quarter sheet ≡ 0 → sheet_holds year quarter name sheet ≡ true
    unfolding refusal_from in_order sheet_hours_in
    none_found f = shaped ∙ go (kinds_hold sheet 0 (sheet_hour_count sheet)) (hours_rise (hours_in_quarter year quarter) 0 (sheet_hours sheet)) _ f
      where
        go : (a b : Bool) (values : ℕ) → in_order a b values ≡ 0 → (a && b) ≡ true
        go false b values h = absurd (omega arith)
        go true false values h = absurd (omega arith)
        go true true values h = refl
