-- The 200 lines of a right file: each stands in its place, and their hours rise within the quarter.
use Prim.Native.Nat.{ℕ, suc, ◌+◌, ◌≤◌}
use Rattle.std.specs.Prelude.{◌≡◌, drop}
use mathlib.Core.List.{List, [], ◌∷◌, ◌++◌}
use native.Mathlib.Omega.{arith}
use Rattle.std.proofs.Common.{not-suc-le-zero}
use Rattle.std.proofs.Math.ListN.{length}
use Rattle.calendar.specs.Calendar.{most_hours, IsQuarter, hours_in_quarter}
use Rattle.exact.specs.Logic.{ranked}
use Rattle.layout.specs.Layout.{length_of}
use Rattle.layout.specs.declared.RecordType.TheVariants.{So2Concentration}
use Rattle.lines.specs.Lines.{lines, last}
use Rattle.lines.specs.LineFaults.{hour_in}
use Rattle.lines.proofs.FaultLaws.{hour_shape, hour_formed, hour_values_lem, hour_rises, hour_inside}
use Rattle.lines.proofs.RightLaws.{right_hour}
use Rattle.calendar.specs.Calendar.{Period}
use Rattle.reading.specs.Places.{hour_start, hour_line_in, Rising}
use Rattle.reading.specs.RightFile.{RightHours}
use Rattle.reading.specs.CleanLaws.{RunRight, line_right, run_more}

module _ (file : List ℕ) (ends : last file ≡ 10) (facility : List ℕ) (period : Period) (quarter : IsQuarter period.quarter) where
  -- the 200 lines from rank k on, of hours from `from` on
  pub record HoursRight (k from : ℕ) (hours rest : List (List ℕ)) : Type 0 where
    pub most : from + length hours ≤ most_hours
    pub each : RunRight file ends facility So2Concentration (hour_start k) (length hours)
    pub rises : Rising (hours_in_quarter period.year period.quarter) from
        (ranked (λ (j : ℕ). hour_in period So2Concentration (hour_line_in file j)) k (length hours))
    pub next : lines (drop (hour_start (k + length hours)) file) ≡ rest
    pub room : hour_start (k + length hours) ≤ length file

  pub hours_right : (hours rest : List (List ℕ)) (k from : ℕ) → RightHours facility period from hours → lines (drop (hour_start k) file) ≡ hours ++ rest →
      hour_start k ≤ length file → from ≤ most_hours → HoursRight k from hours rest
  unfolding ranked
  hours_right [] rest k from r e b m =
      let z : k + 0 ≡ k = omega arith in
      record { most = omega arith; each = λ j h. absurd (not-suc-le-zero h); rises = tt; next = rw z e; room = rw z b }
  hours_right (x ∷ xs) rest k from r e b m =
      let f = right_hour facility period from x r.0 r.1 r.2 in
      let l = line_right file ends facility So2Concentration x (xs ++ rest) (hour_start k) e (hour_shape facility period from x f.0)
      (hour_formed facility period from x f.0) (λ i. hour_values_lem facility period from x f.0) in
      let n : hour_start k + (length_of So2Concentration + 1) ≡ hour_start (suc k) = omega arith in
      let below = hour_rises facility period from x f.0 quarter in
      let i = hours_right xs rest (suc k) (suc r.0) r.3 (rw n at l.1) (rw n at l.2) (omega (arith, below.1, f.1)) in
      let there : x ≡ hour_line_in file k = let y = l.0.next in cc in
      let named : hour_in period So2Concentration (hour_line_in file k) ≡ r.0 = rw (← there) f.1 in
      let z : suc k + length xs ≡ k + suc (length xs) = omega arith in
      record {
        most = omega (arith, i.most, r.1);
        each = run_more file ends facility So2Concentration (hour_start k) (length xs) l.0 (rw n i.each);
        rises = rw named (r.1, omega (arith, hour_inside facility period from x f.0, f.1), i.rises);
        next = rw z at i.next;
        room = rw z at i.room;
      }
