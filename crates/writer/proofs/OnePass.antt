-- The pass over the hours, one hour further, broken off, and at the end.
use Prim.Native.Nat.{ℕ, zero, suc, ◌+◌, ◌-◌, ◌≤◌, ◌<◌}
use mathlib.Core.Path.{◌≡◌, refl, sym, ap, ◌∙◌}
use mathlib.Core.List.{List, ◌∷◌}
use mathlib.Core.Bool.{Bool, true, false, ◌&&◌}
use native.Mathlib.Nat.{sub-zero}
use native.Mathlib.Numerals.{add-one}
use native.Mathlib.Omega.{arith}
use Rattle.exact.specs.Logic.{ranked, ranked_next, ranked_end}
use Rattle.sheet.specs.Sheet.{sheet_hour}
use Rattle.sheet.specs.SheetTests.{every, hour_kinds, kinds_hold, hour_holds, hours_rise, readings_hold, kinds_hold_in}
use Rattle.sheet.specs.declared.SheetHour.{SheetHour}
use Rattle.writer.specs.Refusals.{figures_fit}
use Rattle.writer.specs.OnePass.{values_refusal, hour_refusal, hours_refusal, first_tried, in_order, refusal_from}

-- the earlier of two refusals

pub tried_second : (a b : ℕ) → a ≡ 0 → b ≡ first_tried a b
unfolding first_tried
tried_second a b e = rw e

pub tried_first : (a b : ℕ) → b ≡ 0 → a ≡ first_tried a b
unfolding first_tried
tried_first zero b e = sym e
tried_first (suc a) b e = rw e

pub tried_least : (a b : ℕ) → 1 ≤ a → 1 ≤ b → b < a → b ≡ first_tried a b
unfolding first_tried
tried_least zero b p q h = absurd (omega arith)
tried_least (suc a) zero p q h = absurd (omega arith)
tried_least (suc a) (suc b) p q h = omega arith

pub tried_kept : (a b : ℕ) → 1 ≤ a → 1 ≤ b → a ≤ b → a ≡ first_tried a b
unfolding first_tried
tried_kept zero b p q h = absurd (omega arith)
tried_kept (suc a) zero p q h = absurd (omega arith)
tried_kept (suc a) (suc b) p q h = omega arith

tried_assoc : (a b c : ℕ) → first_tried (first_tried a b) c ≡ first_tried a (first_tried b c)
unfolding first_tried
tried_assoc zero b c = refl
tried_assoc (suc a) zero c = refl
tried_assoc (suc a) (suc b) zero = refl
tried_assoc (suc a) (suc b) (suc c) = omega arith

hours_first : (h : SheetHour) (hs : List SheetHour) → hours_refusal (h ∷ hs) ≡ first_tried (hour_refusal h) (hours_refusal hs)
unfolding hours_refusal hour_refusal every first_tried
hours_first h hs = go (readings_hold h) (figures_fit h) (every readings_hold hs) (every figures_fit hs)
  where
    go : (a b c d : Bool) → values_refusal (a && c) (b && d) ≡ first_tried (values_refusal a b) (values_refusal c d)
    go true true c d = refl
    go true false true true = refl
    go true false true false = refl
    go true false false d = refl
    go false b true true = refl
    go false b true false = refl
    go false b false d = refl

-- of n hours, those from hour k on
module _ (sheet : List ℕ) (n k : ℕ) where
  kinds_next : k < n → kinds_hold sheet k (n - k) ≡ (hour_kinds sheet k && kinds_hold sheet (k + 1) (n - (k + 1)))
  unfolding kinds_hold_in
  kinds_next h =
      let s : n - k ≡ suc (n - (k + 1)) = omega arith in
      rw (s, add-one k)

  kinds_end : n ≤ k → kinds_hold sheet k (n - k) ≡ true
  unfolding kinds_hold_in
  kinds_end h =
      let s : n - k ≡ 0 = omega arith in
      rw s

  rise_next : (below from : ℕ) → k < n → hours_rise below from (ranked (sheet_hour sheet) k (n - k))
      ≡ (hour_holds below from (sheet_hour sheet k) && hours_rise below ((sheet_hour sheet k).hour + 1) (ranked (sheet_hour sheet) (k + 1) (n - (k + 1))))
  unfolding hours_rise
  rise_next below from h = rw (ranked_next (sheet_hour sheet) n k h, add-one (sheet_hour sheet k).hour)

unrising : (kinds : Bool) (values : ℕ) → 31 ≡ in_order kinds false values
unfolding in_order
unrising true values = refl
unrising false values = refl

pub pass_whole : (below : ℕ) (sheet : List ℕ) (n : ℕ) → refusal_from below sheet 0 (n - 0) 0 0 ≡ refusal_from below sheet 0 n 0 0
pass_whole below sheet n = rw (sub-zero n)

module _ (below : ℕ) (sheet : List ℕ) (n k from found : ℕ) where
  pub pass_kinds : k < n → hour_kinds sheet k ≡ false → 31 ≡ refusal_from below sheet k (n - k) from found
  unfolding refusal_from in_order
  pass_kinds j e = rw (kinds_next sheet n k j, e)

  module _ {h : SheetHour} (e : h ≡ sheet_hour sheet k) where
    pub pass_hour : k < n → hour_holds below from h ≡ false → 31 ≡ refusal_from below sheet k (n - k) from found
    unfolding refusal_from
    pass_hour j f = rw (rise_next sheet n k below from j, rw e at f) (unrising _ _)

    pub pass_more : k < n → hour_kinds sheet k ≡ true → hour_holds below from h ≡ true
        → refusal_from below sheet (k + 1) (n - (k + 1)) (h.hour + 1) (first_tried found (hour_refusal h)) ≡ refusal_from below sheet k (n - k) from found
    unfolding refusal_from
    pass_more j t f =
        let d = ap hours_refusal (ranked_next (sheet_hour sheet) n k j) ∙ hours_first (sheet_hour sheet k) (ranked (sheet_hour sheet) (k + 1) (n - (k + 1))) in
        let a = tried_assoc found (hour_refusal (sheet_hour sheet k)) (hours_refusal (ranked (sheet_hour sheet) (k + 1) (n - (k + 1)))) in
        rw (kinds_next sheet n k j, t, rise_next sheet n k below from j, rw e at f, d, e, a)

  pub pass_end : n ≤ k → found ≡ refusal_from below sheet k (n - k) from found
  unfolding refusal_from in_order hours_rise hours_refusal every
  pass_end h = rw (kinds_end sheet n k h, ranked_end (sheet_hour sheet) n k h) (tried_first found 0 refl)
