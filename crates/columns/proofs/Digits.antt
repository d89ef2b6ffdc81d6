-- Digits are read from the left: what is left from place i on, behind digits worth v, is what the whole is, and there is room for it.
use Rattle.std.proofs.Common.{◌≡◌, ℕ, suc, ◌+◌, ◌-◌, ◌*◌, ◌%◌, ◌^◌, ◌<◌, ◌≤◌, false, List, length, get_or, drop, sym, refl, ap, ◌∙◌, arith}
use native.Mathlib.Decide.{dec_lt}
use native.Mathlib.Nat.{sub-zero}
use Rattle.columns.specs.Bytes.{is_digit}
use Rattle.columns.specs.Number.{digits_from}
use Rattle.columns.specs.declared.Field.TheVariants.{Malformed, Number}
use Rattle.columns.proofs.Reading.{leb_both, below, above, digits_one, digits_stop, digits_end, room_one, room_ten}

pub record Left (before : ℕ) (bytes : List ℕ) (v i : ℕ) : Type 0 where
  pub within : i ≤ length bytes
  pub room : (v + 1) * 10 ^ (length bytes - i) ≤ 10 ^ 18
  pub same : digits_from v (drop i bytes) ≡ digits_from before bytes

pub left_first : (before : ℕ) (bytes : List ℕ) → (before + 1) * 10 ^ length bytes ≤ 10 ^ 18 → Left before bytes before 0
left_first before bytes h = record { within = omega arith; room = rw sub-zero h; same = refl }

-- a byte's distance above 48, modulo 256, tells whether it is a digit
no_digit : (b : ℕ) → b < 2 ^ 8 → 9 < (b + 208) % 256 → is_digit b ≡ false
no_digit b f k = go (dec_lt b 48)
  where
    go : Dec (b < 48) → is_digit b ≡ false
    go (yes low) = below 48 57 b low
    go (no high) = above 48 57 b (omega arith) (omega arith)

pub left_end : (before : ℕ) (bytes : List ℕ) (v i : ℕ) → Left before bytes v i → length bytes ≤ i → Number v ≡ digits_from before bytes
left_end before bytes v i l h = sym (sym l.same ∙ digits_end bytes i h v)

module _ (before : ℕ) (bytes : List ℕ) (v i : ℕ) (l : Left before bytes v i) (inside : i < length bytes) where
  pub left_stop : get_or bytes i 0 < 2 ^ 8 → 9 < (get_or bytes i 0 + 208) % 256 → Malformed ≡ digits_from before bytes
  left_stop f k = sym (sym l.same ∙ digits_stop bytes i inside v (no_digit (get_or bytes i 0) f k))

  room : (v + 1) * 10 ^ suc (length bytes - (i + 1)) ≤ 10 ^ 18
  room =
      let e : suc (length bytes - (i + 1)) ≡ length bytes - i = omega arith in
      rw e l.room

  pub left_room : (d : ℕ) → d ≤ 9 → v * 10 + d < 2 ^ 64
  left_room d h = omega (arith, room_ten v (length bytes - (i + 1)) (10 ^ 18) room)

  pub left_next : (d : ℕ) → get_or bytes i 0 < 2 ^ 8 → d ≡ (get_or bytes i 0 + 208) % 256 → d ≤ 9 → Left before bytes (v * 10 + d) (i + 1)
  left_next d f e h =
      let k : d ≡ get_or bytes i 0 - 48 = omega arith in
      let g = leb_both 48 57 (get_or bytes i 0) (omega arith) (omega arith) in
      record {
        within = omega arith;
        room = room_one v (length bytes - (i + 1)) (10 ^ 18) room d h;
        same = ap (λ (k : ℕ). digits_from (v * 10 + k) (drop (i + 1) bytes)) k ∙ digits_one bytes i inside v g ∙ l.same;
      }
