-- An hour's words, or the refusal, in a call of the right form.
use Rattle.std.specs.Prelude.{Ok, Err}
use Prim.Native.Nat.{ℕ, ◌≤◌, ◌<◌}
use mathlib.Core.Path.{◌≡◌, refl, sym, ◌∙◌}
use mathlib.Core.List.{List, [], ◌∷◌, ◌++◌}
use mathlib.Core.Bool.{Bool, true, false, not, ◌&&◌, ◌||◌}
use native.Mathlib.Omega.{arith}
use lib.Dec.{eqb, ltb}
use lib.ListN.{length, get_or, drop, set}
use lib.Ieee.{Float}
use borrow.Author.Tests.{eq-eqb, ne_eqb, lt-ltb, le-ltb}
use Rattle.std.proofs.Math.Bool.{or-true}
use Rattle.columns.specs.Bytes.{all}
use Rattle.recorder.specs.Recording.{recorder_numbers, recorded_of}
use Rattle.recorder.specs.declared.RecorderReading.{RecorderReading}
use Rattle.recorder.specs.declared.RecorderHour.{RecorderHour}
use Rattle.recorder.specs.declared.HourWords.{HourWords}
use Rattle.edr_c.specs.RecorderCall.{reading_count, words_length, is_state, hour_in, wrong_form, recorder_code, recorder_filled}
use Rattle.edr_c.proofs.Filling.{set_front}

-- an hour by its readings
pub same_hour : {a b c d p q r s : RecorderReading} → a ≡ p → b ≡ q → c ≡ r → d ≡ s →
    ◌≡◌ {A = RecorderHour} (record { so2 = a; nox = b; co2 = c; flow = d }) (record { so2 = p; nox = q; co2 = r; flow = s })
same_hour e f g h = rw (e, f, g, h)

-- the tests as the code makes them: the lengths, then the states one by one

abbrev pub wrong_lengths : List ℕ → List Float → List ℕ → Bool
wrong_lengths states readings buffer =
    not (eqb (length states) reading_count) || not (eqb (length readings) reading_count) || ltb (length buffer) words_length

abbrev pub known_states : List ℕ → Bool
known_states states = is_state (get_or states 0 0) && is_state (get_or states 1 0) && is_state (get_or states 2 0) && is_state (get_or states 3 0)

-- four states, each tried
four_states : (p : ℕ → Bool) (l : List ℕ) → length l ≡ reading_count → p (get_or l 0 0) && p (get_or l 1 0) && p (get_or l 2 0) && p (get_or l 3 0) ≡ all p l
unfolding all
four_states p [] e = absurd (omega arith)
four_states p (a ∷ []) e = absurd (omega arith)
four_states p (a ∷ b ∷ []) e = absurd (omega arith)
four_states p (a ∷ b ∷ c ∷ []) e = absurd (omega arith)
four_states p (a ∷ b ∷ c ∷ d ∷ []) e = go (p a) (p b) (p c) (p d)
  where
    go : (q r s t : Bool) → q && r && s && t
        ≡ elim q [ true ↦ elim r [ true ↦ elim s [ true ↦ elim t [ true ↦ true | false ↦ false ] | false ↦ false ] | false ↦ false ] | false ↦ false ]
    go false r s t = refl
    go true false s t = refl
    go true true false t = refl
    go true true true true = refl
    go true true true false = refl
four_states p (a ∷ b ∷ c ∷ d ∷ x ∷ l) e = absurd (omega arith)

module _ (states : List ℕ) (readings : List Float) (buffer : List ℕ) where
  wrong : wrong_form states readings buffer ≡ true →
      (2 ≡ recorder_code states readings buffer) × (buffer ≡ recorder_filled states readings buffer)
  unfolding recorder_code recorder_filled
  wrong e = (rw (e, recorder_code), rw (e, recorder_filled))

  pub wrong_lengths_lem : wrong_lengths states readings buffer ≡ true →
      (2 ≡ recorder_code states readings buffer) × (buffer ≡ recorder_filled states readings buffer)
  wrong_lengths_lem e = wrong (rw e)

  pub wrong_states : (length states ≡ reading_count → ⊥) → (2 ≡ recorder_code states readings buffer) × (buffer ≡ recorder_filled states readings buffer)
  wrong_states n = wrong_lengths_lem (rw (ne_eqb (length states) reading_count n))

  pub wrong_readings : (length readings ≡ reading_count → ⊥) →
      (2 ≡ recorder_code states readings buffer) × (buffer ≡ recorder_filled states readings buffer)
  wrong_readings n = wrong_lengths_lem (rw (ne_eqb (length readings) reading_count n, or-true (not (eqb (length states) reading_count))))

  pub wrong_room : length buffer < words_length → (2 ≡ recorder_code states readings buffer) × (buffer ≡ recorder_filled states readings buffer)
  wrong_room h =
      wrong_lengths_lem
      (rw (lt-ltb (length buffer) words_length h, or-true (not (eqb (length states) reading_count) || not (eqb (length readings) reading_count))))

  module _ (s : length states ≡ reading_count) (r : length readings ≡ reading_count) (b : words_length ≤ length buffer) where
    long : wrong_lengths states readings buffer ≡ false
    long = rw (eq-eqb (length states) reading_count s, eq-eqb (length readings) reading_count r, le-ltb (length buffer) words_length b)

    tried : known_states states ≡ all is_state states
    tried = four_states is_state states s

    pub wrong_state : known_states states ≡ false → (2 ≡ recorder_code states readings buffer) × (buffer ≡ recorder_filled states readings buffer)
    wrong_state e = wrong (rw (long, sym tried ∙ e))

    right : known_states states ≡ true → wrong_form states readings buffer ≡ false
    right e = rw (long, sym tried ∙ e)

    pub words : known_states states ≡ true → (w : HourWords) → recorded_of (hour_in states readings) ≡ Ok w →
        (front : List ℕ) → front ≡ recorder_numbers (Ok w) →
        (1 ≡ recorder_code states readings buffer) × (front ++ drop words_length buffer ≡ recorder_filled states readings buffer)
    unfolding recorder_code recorder_filled
    words k w e front f = (rw (right k, recorder_code, e), rw (right k, recorder_filled, e, f))

    pub refused : known_states states ≡ true → (number : ℕ) → recorded_of (hour_in states readings) ≡ Err number →
        (0 ≡ recorder_code states readings buffer) × (set buffer 0 number ≡ recorder_filled states readings buffer)
    unfolding recorder_code recorder_filled
    refused k number e = (rw (right k, recorder_code, e), rw (right k, recorder_filled, e) (set_front number buffer (omega arith)))
