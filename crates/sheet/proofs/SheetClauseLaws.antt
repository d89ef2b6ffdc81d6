-- The tests of 31 and 32 tell of the clauses: passed, that a sheet meets them all, and failed, which is the first that it does not meet.
use Prim.Native.Nat.{ℕ, zero, suc, ◌+◌, ◌-◌, ◌≤◌, ◌<◌}
use Rattle.std.specs.Prelude.{◌≡◌, Bool, true, ◌&&◌, List, [], ◌∷◌, ◌++◌}
use Rattle.std.proofs.Math.Path.{refl}
use Rattle.std.proofs.Math.Bool.{not}
use native.Mathlib.Omega.{arith}
use Rattle.std.proofs.Math.Dec.{eqb, ltb}
use borrow.Author.Tests.{eqb-true, eq-eqb, le-leb, ltb-true, lt-ltb}
use Rattle.exact.specs.Logic.{ranked, counted_each, each_counted}
use Rattle.exact.specs.Faults.{unless}
use Rattle.exact.specs.Clauses.{clause}
use Rattle.exact.proofs.ClauseLaws.{Told, told_one, told_both, told_two}
use Rattle.columns.specs.Bytes.{all, is_blank, is_printable}
use Rattle.calendar.specs.Calendar.{hours_in_quarter}
use Rattle.layout.specs.Values.{Within, within, year_digits, quarter_digit, time_hours, so2_ppm, nox_ppm, co2_percent, flow_scfh, f_factor}
use Rattle.layout.specs.LayoutLaws.{within_true, true_within}
use Rattle.columns.proofs.EachLaws.{printable_says, says_printable, named_told}
use Rattle.sheet.specs.Sheet.{hour_words, SheetForm, present_form, sheet_kind_in, sheet_hour, sheet_hour_in, sheet_hour_count, sheet_hours, sheet_hours_in}
use Rattle.sheet.specs.SheetTests.{every, heading_holds, kinds_rise_in, hour_kinds_in, kinds_hold, kinds_hold_in, hour_holds, hours_rise}
use Rattle.sheet.specs.SheetTests.{sheet_holds, sheet_holds_in, readings_hold, readings_hold_in}
use Rattle.sheet.specs.SheetClauses.{hour_at, EachHour, heading_clauses, shape_clauses, ValuesInRange, value_clauses}
use Rattle.sheet.proofs.TestLaws.{every_hour, hour_every, rise_first, rise_hour, readings_true}
use Rattle.sheet.proofs.WordLaws.{words_whole, words_say, say_words}
use Rattle.sheet.specs.declared.SheetHour.{SheetHour}

-- year, quarter and stack name

module _ (year quarter : ℕ) (name : List ℕ) where
  heading_told : Told (unless (heading_holds year quarter name) 31) (heading_clauses year quarter name)
  unfolding heading_holds
  heading_told =
      let y = within year_digits year in
      let q = within quarter_digit quarter in
      let named = not (all is_blank name) in
      told_both (y && q && named) (all is_printable name) 30 (clause 31 _ ∷ clause 31 _ ∷ clause 31 _ ∷ []) (clause 31 _ ∷ [])
      (told_both (y && q) named 30 (clause 31 _ ∷ clause 31 _ ∷ []) (clause 31 _ ∷ [])
      (told_both y q 30 (clause 31 _ ∷ []) (clause 31 _ ∷ [])
      (told_one y 30 _ (λ e. let w = within_true year_digits year e in (w.least, w.most)) (λ w. true_within year_digits year (omega arith)))
      (told_one q 30 _ (λ e. let w = within_true quarter_digit quarter e in (w.least, w.most)) (λ w. true_within quarter_digit quarter (omega arith))))
      (named_told 30 name))
      (told_one (all is_printable name) 30 _ (printable_says name) (says_printable name))

-- the hours

module _ (sheet : List ℕ) where
  -- a test of every hour
  module _ (p : SheetHour → Bool) where
    pub each_says : every p (sheet_hours sheet) ≡ true → EachHour sheet (λ k. p (sheet_hour sheet k) ≡ true)
    each_says e k h = every_hour p sheet k e (omega arith)

    pub says_each : EachHour sheet (λ k. p (sheet_hour sheet k) ≡ true) → every p (sheet_hours sheet) ≡ true
    says_each each = hour_every p sheet (λ k h. each k (omega arith))

  -- kinds

  -- of any form
  module _ (f : SheetForm) where
    abbrev Kinds : ℕ → Type 0
    Kinds k = (j : ℕ) → j < hour_words → sheet_kind_in f sheet k j ≡ j

    pub kinds_say : kinds_hold_in f sheet 0 (sheet_hour_count sheet) ≡ true → EachHour sheet Kinds
    unfolding kinds_hold_in kinds_rise_in
    kinds_say e k h j l =
        let own = counted_each (hour_kinds_in f sheet) (kinds_hold_in f sheet) (λ k. refl) (λ k left. refl) (sheet_hour_count sheet) e k (omega arith) in
        eqb-true _ _ (counted_each (λ j. eqb (sheet_kind_in f sheet k j) j) (kinds_rise_in f sheet k) (λ j. refl) (λ j left. refl) hour_words own j l)

    pub say_kinds : EachHour sheet Kinds → kinds_hold_in f sheet 0 (sheet_hour_count sheet) ≡ true
    unfolding kinds_hold_in kinds_rise_in
    say_kinds each =
        each_counted (hour_kinds_in f sheet) (kinds_hold_in f sheet) (λ k. refl) (λ k left. refl) (sheet_hour_count sheet)
        (λ k h. each_counted (λ j. eqb (sheet_kind_in f sheet k j) j) (kinds_rise_in f sheet k) (λ j. refl) (λ j left. refl) hour_words
        (λ j l. eq-eqb _ _ (each k (omega arith) j l)))

  -- hours that rise below a number
  module _ (below : ℕ) where
    later_from : (from k left : ℕ) → hours_rise below from (ranked (sheet_hour sheet) k left) ≡ true → (j : ℕ) → suc j < left →
        hour_at sheet (k + j) < hour_at sheet (k + suc j)
    unfolding ranked sheet_hour_in
    later_from from k zero e j h = absurd (omega arith)
    later_from from k (suc zero) e j h = absurd (omega arith)
    later_from from k (suc (suc left)) e zero h =
        let a = rise_first below from (sheet_hour sheet k) (ranked (sheet_hour sheet) (suc k) (suc left)) e in
        let b = rise_first below _ (sheet_hour sheet (suc k)) (ranked (sheet_hour sheet) (suc (suc k)) left) a.2 in
        let z : k + 0 ≡ k = omega arith in
        let s : k + 1 ≡ suc k = omega arith in
        rw (z, s) b.0
    later_from from k (suc (suc left)) e (suc j) h =
        let a = rise_first below from (sheet_hour sheet k) (ranked (sheet_hour sheet) (suc k) (suc left)) e in
        let z : k + suc j ≡ suc k + j = omega arith in
        let s : k + suc (suc j) ≡ suc k + suc j = omega arith in
        rw (z, s) (later_from (suc (hour_at sheet k)) (suc k) (suc left) a.2 j (omega arith))

    from_later : (from k left : ℕ) → (1 ≤ left → from ≤ hour_at sheet k) → ((j : ℕ) → j < left → hour_at sheet (k + j) < below) →
        ((j : ℕ) → suc j < left → hour_at sheet (k + j) < hour_at sheet (k + suc j)) → hours_rise below from (ranked (sheet_hour sheet) k left) ≡ true
    unfolding ranked sheet_hour_in hours_rise hour_holds
    from_later from k zero first each later = refl
    from_later from k (suc left) first each later =
        let z : k + 0 ≡ k = omega arith in
        let b : hour_at sheet k < below = rw z at (each 0 (omega arith)) in
        let next : 1 ≤ left → suc (hour_at sheet k) ≤ hour_at sheet (suc k) =
        λ h. let s : k + 1 ≡ suc k = omega arith in rw (z, s) at (later 0 (omega arith)) in
        let ahead : (j : ℕ) → j < left → hour_at sheet (suc k + j) < below =
        λ j h. let s : k + suc j ≡ suc k + j = omega arith in rw s at (each (suc j) (omega arith)) in
        let on : (j : ℕ) → suc j < left → hour_at sheet (suc k + j) < hour_at sheet (suc k + suc j) =
        λ j h.
        let s : k + suc j ≡ suc k + j = omega arith in
        let t : k + suc (suc j) ≡ suc k + suc j = omega arith in
        rw (s, t) at (later (suc j) (omega arith)) in
        rw (le-leb from _ (first (omega arith)), lt-ltb _ below b, from_later (suc (hour_at sheet k)) (suc k) left next ahead on)

    abbrev Later : ℕ → Type 0
    Later k = 1 ≤ k → hour_at sheet (k - 1) < hour_at sheet k

    rise_says : hours_rise below 0 (sheet_hours sheet) ≡ true → EachHour sheet (λ k. hour_at sheet k < below) × EachHour sheet Later
    unfolding sheet_hours_in sheet_hour_in
    rise_says e = ((λ k h. rise_hour below sheet k e (omega arith)), later)
      where
        later : EachHour sheet Later
        later zero h l = absurd (omega arith)
        later (suc k) h l =
            let z : 0 + k ≡ k = omega arith in
            let s : 0 + suc k ≡ suc k = omega arith in
            let m : suc k - 1 ≡ k = omega arith in
            rw m (rw (z, s) at (later_from 0 0 (sheet_hour_count sheet) e k (omega arith)))

    says_rise : EachHour sheet (λ k. hour_at sheet k < below) → EachHour sheet Later → hours_rise below 0 (sheet_hours sheet) ≡ true
    unfolding sheet_hours_in
    says_rise each later =
        from_later 0 0 (sheet_hour_count sheet) (λ h. omega arith) (λ j h. let z : 0 + j ≡ j = omega arith in rw z (each j (omega arith)))
        (λ j h.
        let z : 0 + j ≡ j = omega arith in
        let s : 0 + suc j ≡ suc j = omega arith in
        let m : suc j - 1 ≡ j = omega arith in
        rw (z, s) (rw m at (later (suc j) (omega arith) (omega arith))))

    rise_told : Told (unless (hours_rise below 0 (sheet_hours sheet)) 31)
        (clause 31 (EachHour sheet (λ k. hour_at sheet k < below)) ∷ clause 31 (EachHour sheet Later) ∷ [])
    unfolding sheet_hour_in
    rise_told =
        told_two (every (λ h. ltb h.hour below) (sheet_hours sheet)) (hours_rise below 0 (sheet_hours sheet)) 30 _ _
        (λ e k h. ltb-true _ _ (each_says (λ h. ltb h.hour below) e k h))
        (λ each. says_each (λ h. ltb h.hour below) (λ k h. lt-ltb _ _ (each k h)))
        rise_says says_rise

-- 31

module _ (year quarter : ℕ) (name sheet : List ℕ) where
  pub shape_told : Told (unless (sheet_holds year quarter name sheet) 31) (shape_clauses year quarter name sheet)
  unfolding sheet_holds_in
  shape_told =
      let heading = heading_holds year quarter name in
      let words = words_whole sheet in
      let kinds = kinds_hold sheet 0 (sheet_hour_count sheet) in
      let rises = hours_rise (hours_in_quarter year quarter) 0 (sheet_hours sheet) in
      told_both (heading && words && kinds) rises 30 (heading_clauses year quarter name ++ (clause 31 _ ∷ clause 31 _ ∷ [])) (clause 31 _ ∷ clause 31 _ ∷ [])
      (told_both (heading && words) kinds 30 (heading_clauses year quarter name ++ (clause 31 _ ∷ [])) (clause 31 _ ∷ [])
      (told_both heading words 30 (heading_clauses year quarter name) (clause 31 _ ∷ []) (heading_told year quarter name)
      (told_one words 30 _ (words_say sheet) (say_words sheet)))
      (told_one kinds 30 _ (kinds_say sheet present_form) (say_kinds sheet present_form)))
      (rise_told sheet (hours_in_quarter year quarter))

-- 32

module _ (sheet : List ℕ) where
  values_say : (k : ℕ) → readings_hold (sheet_hour sheet k) ≡ true → ValuesInRange sheet k
  unfolding sheet_hour_in
  values_say k e =
      let w = readings_true (sheet_hour sheet k) e in
      let r = w.2 in
      record {
        time = (w.0.least, w.0.most);
        so2 = r.so2.most;
        nox = r.nox.most;
        co2 = (r.co2.least, r.co2.most);
        flow = omega (arith, w.1.most);
        fc = (r.fc.least, r.fc.most);
      }

  say_values : (k : ℕ) → ValuesInRange sheet k → readings_hold (sheet_hour sheet k) ≡ true
  unfolding sheet_hour_in readings_hold_in
  say_values k v =
      let t : Within time_hours (sheet_hour sheet k).time = omega arith in
      let a : Within so2_ppm (sheet_hour sheet k).so2 = omega arith in
      let b : Within nox_ppm (sheet_hour sheet k).nox = omega arith in
      let c : Within co2_percent (sheet_hour sheet k).co2 = omega arith in
      let d : Within flow_scfh (sheet_hour sheet k).scfh = omega arith in
      let f : Within f_factor (sheet_hour sheet k).fc = omega arith in
      rw (true_within _ _ t, true_within _ _ a, true_within _ _ b) (rw (true_within _ _ c, true_within _ _ d, true_within _ _ f) refl)

  pub values_told : Told (unless (every readings_hold (sheet_hours sheet)) 32) (value_clauses sheet)
  values_told =
      told_one (every readings_hold (sheet_hours sheet)) 31 _ (λ e k h. values_say k (each_says sheet readings_hold e k h))
      (λ each. says_each sheet readings_hold (λ k h. say_values k (each k h)))
