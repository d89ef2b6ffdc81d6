-- What 31 and 32 leave: a right heading, hours of the quarter that rise, no more of them than it has, values within their ranges.
use Prim.Native.Nat.{ℕ, zero, suc, ◌+◌, ◌-◌, ◌≤◌, ◌<◌}
use Rattle.std.specs.Prelude.{◌≡◌, refl, List, [], ◌∷◌, Bool, true, length}
use native.Mathlib.Omega.{arith}
use borrow.Author.Tests.{leb-true, ltb-true, eqb-true}
use Rattle.exact.specs.Logic.{ranked, both, counted_each, each_counted}
use Rattle.calendar.specs.Calendar.{most_hours}
use Rattle.calendar.specs.CalendarLaws.{hours_in_quarter_lem}
use Rattle.layout.specs.Layout.{Held}
use Rattle.layout.specs.Values.{Within, time_hours, flow_scfh, scfh_of}
use Rattle.layout.specs.LayoutLaws.{within_true, scfh_back, flow_within}
use Rattle.formulas.specs.Hour.{ReadingsWithin}
use Rattle.stamp.specs.StampLaws.{is_quarter_lem}
use Rattle.sheet.specs.Sheet.{sheet_hour, recorded_readings, sheet_hour_count, shape_of, sheet_hours, sheet_hours_in}
use Rattle.sheet.specs.TestLaws.{Shaped}
use Rattle.sheet.specs.SheetTests.{Heading, every, heading_holds, hour_holds, hours_rise, sheet_holds, readings_hold, sheet_holds_in, readings_hold_in}
use Rattle.sheet.proofs.SheetLaws.{sheet_hours_count}
use Rattle.sheet.specs.declared.SheetHour.{SheetHour}

pub heading_true : (year quarter : ℕ) (name : List ℕ) → heading_holds year quarter name ≡ true → Heading year quarter name
unfolding heading_holds
heading_true year quarter name e =
    let a = both _ _ e in
    let b = both _ _ a.0 in
    let c = both _ _ b.0 in
    record { year_within = within_true _ year c.0; is_quarter = is_quarter_lem quarter (within_true _ quarter c.1); named = b.1; printable = a.1 }

pub sheet_true : (year quarter : ℕ) (name sheet : List ℕ) → sheet_holds year quarter name sheet ≡ true → Shaped year quarter name sheet
unfolding sheet_holds_in
sheet_true year quarter name sheet e =
    let a = both _ _ e in
    let b = both _ _ a.0 in
    let c = both (heading_holds year quarter name) _ b.0 in
    record { heading = heading_true year quarter name c.0; words = eqb-true _ _ c.1; kinds = b.1; rises = a.1 }

-- a test of all hours is one of each
module _ (p : SheetHour → Bool) (sheet : List ℕ) where
  abbrev holds_at : ℕ → Bool
  holds_at k = p (sheet_hour sheet k)

  abbrev hold_from : (k left : ℕ) → Bool
  hold_from k left = every p (ranked (sheet_hour sheet) k left)

  pub every_hour : (k : ℕ) → every p (sheet_hours sheet) ≡ true → k < sheet_hour_count sheet → p (sheet_hour sheet k) ≡ true
  unfolding sheet_hours_in every ranked
  every_hour k e h = counted_each holds_at hold_from (λ k. refl) (λ k left. refl) (sheet_hour_count sheet) e k h

  pub hour_every : ((k : ℕ) → k < sheet_hour_count sheet → p (sheet_hour sheet k) ≡ true) → every p (sheet_hours sheet) ≡ true
  unfolding sheet_hours_in every ranked
  hour_every each = each_counted holds_at hold_from (λ k. refl) (λ k left. refl) (sheet_hour_count sheet) each

-- hours that rise below a number are no more than it, and each is below it
module _ (below : ℕ) where
  pub hour_true : (from : ℕ) (h : SheetHour) → hour_holds below from h ≡ true → (from ≤ h.hour) × (h.hour < below)
  unfolding hour_holds
  hour_true from h e = let b = both _ _ e in (leb-true from h.hour b.0, ltb-true h.hour below b.1)

  pub rise_first : (from : ℕ) (h : SheetHour) (hs : List SheetHour) → hours_rise below from (h ∷ hs) ≡ true →
      (from ≤ h.hour) × (h.hour < below) × (hours_rise below (suc h.hour) hs ≡ true)
  unfolding hours_rise
  rise_first from h hs e =
      let a = both (hour_holds below from h) _ e in
      let b = hour_true from h a.0 in
      (b.0, b.1, a.1)

  pub rise_count : (from : ℕ) (hs : List SheetHour) → hours_rise below from hs ≡ true → length hs ≤ below - from
  rise_count from [] e = omega arith
  rise_count from (h ∷ hs) e =
      let r = rise_first from h hs e in
      omega (arith, r, rise_count (suc h.hour) hs r.2)

  rise_at : (from : ℕ) (sheet : List ℕ) (k left j : ℕ) → hours_rise below from (ranked (sheet_hour sheet) k left) ≡ true → j < left →
      (sheet_hour sheet (k + j)).hour < below
  unfolding ranked
  rise_at from sheet k zero j e h = absurd (omega arith)
  rise_at from sheet k (suc left) zero e h =
      let z : k + 0 ≡ k = omega arith in
      rw z (rise_first from (sheet_hour sheet k) (ranked (sheet_hour sheet) (suc k) left) e).1
  rise_at from sheet k (suc left) (suc j) e h =
      let s : k + suc j ≡ suc k + j = omega arith in
      let r = rise_first from (sheet_hour sheet k) (ranked (sheet_hour sheet) (suc k) left) e in
      rw s (rise_at (suc (sheet_hour sheet k).hour) sheet (suc k) left j r.2 (omega arith))

  pub rise_hour : (sheet : List ℕ) (k : ℕ) → hours_rise below 0 (sheet_hours sheet) ≡ true → k < sheet_hour_count sheet → (sheet_hour sheet k).hour < below
  unfolding sheet_hours_in
  rise_hour sheet k e h =
      let z : 0 + k ≡ k = omega arith in
      rw z at (rise_at 0 sheet 0 (sheet_hour_count sheet) k e h)

pub shape_held : (year quarter : ℕ) (name sheet : List ℕ) → Shaped year quarter name sheet → Held (shape_of sheet)
shape_held year quarter name sheet s =
    let few : sheet_hour_count sheet ≤ most_hours =
    omega (arith, rise_count _ _ _ s.rises, sheet_hours_count sheet, hours_in_quarter_lem year quarter s.heading.is_quarter) in
    record { hours = few; operations = few }

-- an hour that 32 does not refuse
pub readings_true : (h : SheetHour) → readings_hold h ≡ true →
    Within time_hours h.time × Within flow_scfh h.scfh × ReadingsWithin (recorded_readings h)
unfolding readings_hold_in
readings_true h e =
    let a = both _ _ e in
    let b = both _ _ a.0 in
    let c = both _ _ b.0 in
    let d = both _ _ c.0 in
    let f = both _ _ d.0 in
    let flow : Within flow_scfh h.scfh = within_true _ _ b.1 in (
      within_true _ _ f.0,
      flow,
      record {
        so2 = within_true _ _ f.1;
        nox = within_true _ _ d.1;
        co2 = within_true _ _ c.1;
        flow = flow_within h.scfh flow;
        fc = within_true _ _ a.1;
      },
    )

-- its flow, as it is recorded, is the number of scfh that the hour has
pub flow_word : (h : SheetHour) → readings_hold h ≡ true → scfh_of (recorded_readings h).flow ≡ h.scfh
flow_word h e = scfh_back h.scfh (readings_true h e).1
