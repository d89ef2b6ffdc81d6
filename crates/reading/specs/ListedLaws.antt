-- The 300 lines of a right file: where they stand, how many there are, and how many of them operate.
use Prim.Native.Nat.{ℕ, suc, ◌+◌, ◌*◌, ◌≤◌}
use Rattle.std.proofs.Math.Path.{◌≡◌}
use Rattle.std.specs.Prelude.{refl, List, ◌∷◌, ◌++◌, Bool, drop}
use Rattle.std.proofs.Common.{sym, ap, ◌∙◌, not-suc-le-zero}
use Rattle.std.proofs.Math.Bool.{true, false}
use native.Mathlib.Omega.{arith}
use Rattle.std.proofs.Math.ListN.{length, take}
use borrow.Author.Tests.{not-false}
use Rattle.calendar.specs.Calendar.{most_hours, IsQuarter}
use Rattle.columns.specs.Columns.{columns}
use Rattle.layout.specs.Layout.{length_of}
use Rattle.layout.specs.declared.RecordType.TheVariants.{Operation}
use Rattle.lines.specs.Lines.{lines, last}
use Rattle.lines.specs.LineFaults.{operates}
use Rattle.lines.specs.FaultLaws.{ValuesRight}
use Rattle.lines.proofs.FaultLaws.{shape_type, values_right, dated_rises}
use Rattle.lines.proofs.OperationLaws.{operation_dated, operation_shape, operation_formed, operating_values}
use Rattle.lines.specs.RightLine.{RightListed}
use Rattle.lines.proofs.RightLaws.{RightTime, right_operation}
use Rattle.lines.proofs.RightLaws.RightTime.{runs, rests}
use Rattle.calendar.specs.Calendar.{Period}
use Rattle.reading.specs.Reading.{next_date}
use Rattle.reading.specs.Recorded.{idle}
use Rattle.reading.specs.RecordedLaws.{operation_idle}
use Rattle.reading.specs.Places.{lines_at, numbered, having}
use Rattle.reading.specs.RightFile.{RightOperations}
use Rattle.reading.specs.RightFile.RightOperations.{done, operating, idling}
use Rattle.reading.specs.CleanLaws.{RunRight, line_right, run_more}

-- one line more among those that operate
operating_more : (l : List ℕ) (ls : List (List ℕ)) (number left all : ℕ) (b : Bool) → operates l ≡ b →
    length (having operates (numbered (suc number) ls)) ≡ left → (b ≡ false → left ≡ all) → (b ≡ true → suc left ≡ all) →
    length (having operates (numbered number (l ∷ ls))) ≡ all
unfolding having numbered
operating_more l ls number left all true o e f t = rw (o, having) (ap suc e ∙ t refl)
operating_more l ls number left all false o e f t = rw (o, having) (e ∙ f refl)

module _ (file : List ℕ) (ends : last file ≡ 10) (facility : List ℕ) (period : Period) (quarter : IsQuarter period.quarter) where
  abbrev size : ℕ
  size = length_of Operation + 1

  -- the 300 lines from `at` on, of hours from `from` on; the operating hours of these 200 lines are among them
  pub record ListedRight (at from : ℕ) (hours ls rest : List (List ℕ)) : Type 0 where
    pub most : from + length ls ≤ most_hours
    pub each : RunRight file ends facility Operation at (length ls)
    pub operating : (number : ℕ) → length (having operates (numbered number (lines_at file Operation at (length ls)))) ≡ length hours
    pub next : lines (drop (at + (length_of Operation + 1) * length ls) file) ≡ rest
    pub room : at + (length_of Operation + 1) * length ls ≤ length file

  -- one line more in front, which operates or not
  listed_more : (at from hour : ℕ) (date l : List ℕ) (hours left ls rest : List (List ℕ)) → lines (drop at file) ≡ l ∷ (ls ++ rest) →
      from ≤ hour → RightListed facility period hour l → (b : Bool) → RightTime date l b →
      (b ≡ false → length left ≡ length hours) → (b ≡ true → suc (length left) ≡ length hours) →
      (lines (drop (at + (length_of Operation + 1)) file) ≡ ls ++ rest → at + (length_of Operation + 1) ≤ length file → suc hour ≤ most_hours →
      ListedRight (at + (length_of Operation + 1)) (suc hour) left ls rest) →
      ListedRight at from hours (l ∷ ls) rest
  unfolding lines_at
  listed_more at from hour date l hours left ls rest e b w running t idles operated ih =
      let f = right_operation facility period from date l hour b w running t in
      let shaped = operation_shape facility period from date l f.0 in
      let works : idle l ≡ false → operates l ≡ true = λ i. not-false (operates l) (sym (operation_idle l (shape_type Operation l shaped)) ∙ i) in
      let values : idle l ≡ false → ValuesRight Operation l =
      λ i. values_right Operation l (operating_values facility period from date l f.0 (works i)) in
      let r = line_right file ends facility Operation l (ls ++ rest) at e shaped (operation_formed facility period from date l f.0) values in
      let n = dated_rises facility period Operation from l (operation_dated facility period from date l f.0) quarter in
      let i = ih r.1 r.2 (omega (arith, n.1, f.1)) in
      let z : at + size + size * length ls ≡ at + size * suc (length ls) = omega arith in
      let there : take (length_of Operation) (drop at file) ≡ l = let y = r.0.next in cc in
      record {
        most = omega (arith, i.most);
        each = run_more file ends facility Operation at (length ls) r.0 i.each;
        operating = λ number.
            operating_more (take (length_of Operation) (drop at file)) (lines_at file Operation (at + size) (length ls)) number (length left) (length hours)
            running (ap operates there ∙ f.2) (i.operating (suc number)) idles operated;
        next = rw z at i.next;
        room = rw z at i.room;
      }

  pub listed_right : (from at : ℕ) (hours ls rest : List (List ℕ)) → RightOperations facility period from hours ls → lines (drop at file) ≡ ls ++ rest →
      at ≤ length file → from ≤ most_hours → ListedRight at from hours ls rest
  unfolding lines_at numbered having
  listed_right from at hours ls rest done e b f =
      let z : at + (length_of Operation + 1) * 0 ≡ at = omega arith in
      record { most = omega arith; each = λ j h. absurd (not-suc-le-zero h); operating = λ n. refl; next = rw z e; room = rw z b }
  listed_right from at hours ls rest (operating hour {h = h} {l = l} {hs = hs} {ls = more} g w d m) e b f =
      listed_more at from hour (columns 16 8 h) l (h ∷ hs) hs more rest e g w true (runs d.date d.time d.heat)
      (λ z. absurd (let y : ◌≡◌ {A = ℕ} 0 1 = cc in omega arith)) (λ z. refl)
      (λ a c k. listed_right (suc hour) (at + (length_of Operation + 1)) hs more rest m a c k)
  listed_right from at hours ls rest (idling hour {l = l} {hs = hs} {ls = more} g w d m) e b f =
      listed_more at from hour (next_date hs) l hs hs more rest e g w false (rests d) (λ z. refl)
      (λ z. absurd (let y : ◌≡◌ {A = ℕ} 0 1 = cc in omega arith))
      (λ a c k. listed_right (suc hour) (at + (length_of Operation + 1)) hs more rest m a c k)
