-- Of the words of hour k, those from word j on.
use Prim.Native.Nat.{ℕ, suc, ◌+◌, ◌-◌, ◌≤◌, ◌<◌}
use mathlib.Core.Path.{◌≡◌}
use mathlib.Core.List.{List}
use mathlib.Core.Bool.{true, false}
use native.Mathlib.Omega.{arith}
use native.Mathlib.Numerals.{add-one}
use borrow.Author.Tests.{eq-eqb, ne_eqb}
use Rattle.sheet.specs.Sheet.{hour_words, sheet_kind}
use Rattle.sheet.specs.SheetTests.{kinds_rise, kinds_rise_in}

module _ (sheet : List ℕ) (k j : ℕ) where
  pub kinds_more : j < hour_words → sheet_kind sheet k j ≡ j → kinds_rise sheet k (j + 1) (hour_words - (j + 1)) ≡ kinds_rise sheet k j (hour_words - j)
  unfolding kinds_rise_in
  kinds_more h e =
      let s : hour_words - j ≡ suc (hour_words - (j + 1)) = omega arith in
      rw (s, eq-eqb _ _ e, add-one j)

  pub kinds_stop : j < hour_words → (sheet_kind sheet k j ≡ j → ⊥) → false ≡ kinds_rise sheet k j (hour_words - j)
  unfolding kinds_rise_in
  kinds_stop h e =
      let s : hour_words - j ≡ suc (hour_words - (j + 1)) = omega arith in
      rw (s, ne_eqb _ _ e)

  pub kinds_end : hour_words ≤ j → true ≡ kinds_rise sheet k j (hour_words - j)
  unfolding kinds_rise_in
  kinds_end h =
      let s : hour_words - j ≡ 0 = omega arith in
      rw s
