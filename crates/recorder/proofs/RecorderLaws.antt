-- What refuses a reading, and which reading refuses an hour.
use Prim.Native.Nat.{ℕ, zero, suc}
use Rattle.std.proofs.Math.Path.{◌≡◌, refl}
use Rattle.std.proofs.Common.{sym, ap, ◌∙◌, inl, inr, ⊎_elim, arith}
use Rattle.std.specs.Prelude.{true, false, ◌⊎◌, List, [], ◌∷◌, ◌++◌, Float, Result, Ok, Err}
use Rattle.exact.specs.Faults.{◌or_else◌, or_first, or_zero}
use Rattle.exact.specs.Logic.{All}
use Rattle.layout.specs.Values.{in_range}
use Rattle.recorder.specs.Recording.{usable, channels, kind_of, column_of, reading_of, column_number, float_fault, fault_of, first_fault}
use Rattle.recorder.specs.Recording.{word_for, words_for, Recorded, recorded_of}
use Rattle.recorder.specs.Parts.{FloatUnits, ReadingUnits}
use Rattle.sheet.specs.Sheet.{word_of}
use Rattle.refusals.specs.Refusals.{recorder_number}
use Rattle.refusals.specs.declared.RecorderRefusal.{RecorderRefusal}
use Rattle.refusals.specs.declared.RecorderRefusal.TheVariants as refusal
use Rattle.refusals.proofs.Numbers.{recorder_positive}
use Rattle.recorder.specs.declared.RecorderReading.TheVariants.{Measured, Substituted, Absent}
use Rattle.recorder.specs.declared.RecorderHour.{RecorderHour}
use Rattle.recorder.specs.declared.HourWords.{HourWords}
use Rattle.recorder.specs.declared.Channel.{Channel}
use Rattle.recorder.specs.declared.Channel.TheVariants.{So2, Nox, Co2, Flow}

module _ (c : Channel) (x : Float) where
  pub fault_45 : usable x ≡ false → 45 ≡ float_fault c x
  unfolding float_fault
  fault_45 e = rw (e, float_fault)

  pub fault_46 : usable x ≡ true → in_range (column_of c) (column_number c x) ≡ false → 46 ≡ float_fault c x
  unfolding float_fault
  fault_46 e i = rw (e, float_fault, i)

  pub fault_none : usable x ≡ true → in_range (column_of c) (column_number c x) ≡ true → 0 ≡ float_fault c x
  unfolding float_fault
  fault_none e i = rw (e, float_fault, i)

-- a reading with a float is tried as its float is, and an absent one is not

module _ (c : Channel) (x : Float) where
  pub measured_tries : (r : Result ℕ RecorderRefusal) → FloatUnits c x r → ReadingUnits c (Measured x) r
  measured_tries (Ok units) t = (t.0, t.1, ap (word_of (kind_of c)) t.2)
  measured_tries (Err e) t = t

  pub substituted_tries : (r : Result ℕ RecorderRefusal) → FloatUnits c x r → ReadingUnits c (Substituted x) r
  substituted_tries (Ok units) t = (t.0, t.1, ap (word_of (kind_of c)) t.2)
  substituted_tries (Err e) t = t

pub absent_tries : (c : Channel) → ReadingUnits c Absent (Err refusal.Absent)
absent_tries c = refl

-- the first fault of an hour

pub some_number : (e : RecorderRefusal) → recorder_number e ≡ 0 → ⊥
some_number e z = omega (arith, recorder_positive e)

split_first : (a b n : ℕ) → a or_else b ≡ n → (a ≡ n) ⊎ ((a ≡ 0) × (b ≡ n))
split_first zero b n e = inr (refl, e)
split_first (suc a) b n e = inl e

module _ (h : RecorderHour) where
  refused_by : (n : ℕ) → first_fault h channels ≡ n → (n ≡ 0 → ⊥) → Err n ≡ recorded_of h
  unfolding recorded_of
  refused_by zero e z = absurd (z refl)
  refused_by (suc n) e z = rw (e, recorded_of)

  module _ (n : ℕ) (some : n ≡ 0 → ⊥) where
    pub so2_refuses : n ≡ fault_of So2 h.so2 → Err n ≡ recorded_of h
    so2_refuses e = refused_by n (rw (← e) (or_first n _ some)) some

    pub nox_refuses : 0 ≡ fault_of So2 h.so2 → n ≡ fault_of Nox h.nox → Err n ≡ recorded_of h
    nox_refuses a e = refused_by n (rw (← a, ← e) (or_first n _ some)) some

    pub co2_refuses : 0 ≡ fault_of So2 h.so2 → 0 ≡ fault_of Nox h.nox → n ≡ fault_of Co2 h.co2 → Err n ≡ recorded_of h
    co2_refuses a b e = refused_by n (rw (← a, ← b, ← e) (or_first n _ some)) some

    pub flow_refuses : 0 ≡ fault_of So2 h.so2 → 0 ≡ fault_of Nox h.nox → 0 ≡ fault_of Co2 h.co2 → n ≡ fault_of Flow h.flow →
        Err n ≡ recorded_of h
    flow_refuses a b d e = refused_by n (rw (← a, ← b, ← d, ← e) (or_first n 0 some)) some

  pub all_taken : 0 ≡ fault_of So2 h.so2 → 0 ≡ fault_of Nox h.nox → 0 ≡ fault_of Co2 h.co2 → 0 ≡ fault_of Flow h.flow →
      Ok (words_for h) ≡ recorded_of h
  unfolding recorded_of
  all_taken a b d e = let z : first_fault h channels ≡ 0 = rw (← a, ← b, ← d, ← e) in rw (z, recorded_of)

  -- the words one by one
  pub words_made : {so2 nox co2 flow substituted : ℕ} → so2 ≡ word_for So2 h.so2 → nox ≡ word_for Nox h.nox → co2 ≡ word_for Co2 h.co2 →
      flow ≡ word_for Flow h.flow → substituted ≡ (words_for h).substituted → Ok (words_for h) ≡ recorded_of h →
      Ok (record { so2 = so2; nox = nox; co2 = co2; flow = flow; substituted = substituted }) ≡ recorded_of h
  words_made a b d e n t = rw (a, b, d, e, n) t

  -- what an answer tells of the faults

  none_there : (cs : List Channel) → first_fault h cs ≡ 0 → All (λ c. fault_of c (reading_of c h) ≡ 0) cs
  none_there [] e = tt
  none_there (c ∷ cs) e = let b = or_zero (fault_of c (reading_of c h)) (first_fault h cs) e in (b.0, none_there cs b.1)

  none_of_lem : All (λ c. fault_of c (reading_of c h) ≡ 0) channels → (c : Channel) → fault_of c (reading_of c h) ≡ 0
  none_of_lem a So2 = a.0
  none_of_lem a Nox = a.1.0
  none_of_lem a Co2 = a.1.1.0
  none_of_lem a Flow = a.1.1.1.0

  pub record Given (w : HourWords) : Type 0 where
    pub none : (c : Channel) → fault_of c (reading_of c h) ≡ 0
    pub words : words_for h ≡ w

  pub words_given : (w : HourWords) → recorded_of h ≡ Ok w → Given w
  unfolding recorded_of
  words_given w e = go (first_fault h channels) refl e
    where
      go : (n : ℕ) → first_fault h channels ≡ n →
          ◌≡◌ {A = Recorded} (elim n [ zero ↦ Ok (words_for h) | suc number ↦ Err (suc number) ]) (Ok w) → Given w
      go zero f g = record { none = none_of_lem (none_there channels f); words = cc }
      go (suc n) f g = absurd (let z : ◌≡◌ {A = ℕ} 0 1 = cc in omega arith)

  -- the first channel with a fault
  pub record Faulty (cs : List Channel) (n : ℕ) : Type 0 where
    pub before : List Channel
    pub channel : Channel
    pub after : List Channel
    pub place : cs ≡ before ++ channel ∷ after
    pub none : All (λ c. fault_of c (reading_of c h) ≡ 0) before
    pub fault : fault_of channel (reading_of channel h) ≡ n

  -- behind one without a fault
  behind : (c : Channel) (cs : List Channel) (n : ℕ) → fault_of c (reading_of c h) ≡ 0 → Faulty cs n → Faulty (c ∷ cs) n
  behind c cs n e f = record {
    before = c ∷ f.before;
    channel = f.channel;
    after = f.after;
    place = ap (λ (l : List Channel). c ∷ l) f.place;
    none = (e, f.none);
    fault = f.fault;
  }

  faulty : (cs : List Channel) (n : ℕ) → first_fault h cs ≡ n → (n ≡ 0 → ⊥) → Faulty cs n
  faulty [] n e z = absurd (z (sym e))
  faulty (c ∷ cs) n e z =
      ⊎_elim
      (λ f. record { before = []; channel = c; after = cs; place = refl; none = tt; fault = f })
      (λ f. behind c cs n f.0 (faulty cs n f.1 z))
      (split_first (fault_of c (reading_of c h)) (first_fault h cs) n e)

  pub number_refused : (n : ℕ) → recorded_of h ≡ Err n → Faulty channels n × (n ≡ 0 → ⊥)
  unfolding recorded_of
  number_refused n e = go (first_fault h channels) refl e
    where
      go : (m : ℕ) → first_fault h channels ≡ m →
          ◌≡◌ {A = Recorded} (elim m [ zero ↦ Ok (words_for h) | suc number ↦ Err (suc number) ]) (Err n) →
          Faulty channels n × (n ≡ 0 → ⊥)
      go zero f g = absurd (let z : ◌≡◌ {A = ℕ} 0 1 = cc in omega arith)
      go (suc m) f g =
          let s : suc m ≡ n = cc in
          let some : n ≡ 0 → ⊥ = (λ (z : n ≡ 0). omega arith) in
          (faulty channels n (f ∙ s) some, some)
