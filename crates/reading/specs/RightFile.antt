-- A file whose lines are right, in the words of the paper. No test of the check is called here: RightFileLaws.antt proves that the files
-- without fault in their lines are these, and no others.
use Rattle.std.specs.Prelude.{ℕ, suc, ◌≤◌, ◌≡◌, List, [], ◌∷◌, ◌++◌, length}
use Rattle.layout.specs.declared.RecordType.{RecordType}
use Rattle.layout.specs.declared.RecordType.TheVariants.{NoxConcentration, Co2Concentration, VolumetricFlow, QuarterTotals, So2Mass, NoxRate, Co2Mass}
use Rattle.lines.specs.Lines.{lines, last}
use Rattle.lines.specs.RightLine.{RightFacility, RightHour, RightDue, RightListed, Operates, Idles}
use Rattle.calendar.specs.Calendar.{Period}
use Rattle.reading.specs.declared.Report.{Report}

-- the 200 lines: of hours of the quarter, from this one on, each later than the one before
abbrev pub RightHours : List ℕ → Period → (from : ℕ) → List (List ℕ) → Type 0
RightHours facility p from [] = Unit {0}
RightHours facility p from (l ∷ ls) = (hour : ℕ) × (from ≤ hour) × RightHour facility p hour l × RightHours facility p (suc hour) ls

-- the lines of another type: one for each 200 line, in their order
abbrev pub RightRun : List ℕ → RecordType → (hours ls : List (List ℕ)) → Type 0
RightRun facility t [] [] = Unit {0}
RightRun facility t [] (l ∷ ls) = ⊥
RightRun facility t (h ∷ hs) [] = ⊥
RightRun facility t (h ∷ hs) (l ∷ ls) = RightDue facility t h l × RightRun facility t hs ls

-- the 300 lines: of hours from this one on, each later than the one before; one operates for each 200 line, in their order, and idle ones may
-- stand among them
pub data RightOperations (facility : List ℕ) (p : Period) : (from : ℕ) (hours ls : List (List ℕ)) → Type 0 where
  done : {from : ℕ} → RightOperations facility p from [] []
  operating : {from : ℕ} (hour : ℕ) {h l : List ℕ} {hs ls : List (List ℕ)} → from ≤ hour → RightListed facility p hour l → Operates h l →
      RightOperations facility p (suc hour) hs ls → RightOperations facility p from (h ∷ hs) (l ∷ ls)
  idling : {from : ℕ} (hour : ℕ) {l : List ℕ} {hs ls : List (List ℕ)} → from ≤ hour → RightListed facility p hour l → Idles l →
      RightOperations facility p (suc hour) hs ls → RightOperations facility p from hs (l ∷ ls)

pub record RightFile (file : List ℕ) (r : Report) : Type 0 where
  pub ended : last file ≡ 10
  -- line 100, the lines of each type behind it, and line 301
  pub facility : List ℕ
  pub hours : List (List ℕ)
  pub nox : List (List ℕ)
  pub co2 : List (List ℕ)
  pub flow : List (List ℕ)
  pub operations : List (List ℕ)
  pub totals : List ℕ
  pub so2_mass : List (List ℕ)
  pub nox_rate : List (List ℕ)
  pub co2_mass : List (List ℕ)
  pub order : lines file ≡ facility ∷ (hours ++ (nox ++ (co2 ++ (flow ++ (operations ++ (totals ∷ (so2_mass ++ (nox_rate ++ co2_mass))))))))
  pub right_facility : RightFacility facility r.period
  pub right_hours : RightHours facility r.period 0 hours
  pub right_nox : RightRun facility NoxConcentration hours nox
  pub right_co2 : RightRun facility Co2Concentration hours co2
  pub right_flow : RightRun facility VolumetricFlow hours flow
  pub right_operations : RightOperations facility r.period 0 hours operations
  pub right_totals : RightDue facility QuarterTotals [] totals
  pub right_so2_mass : RightRun facility So2Mass hours so2_mass
  pub right_nox_rate : RightRun facility NoxRate hours nox_rate
  pub right_co2_mass : RightRun facility Co2Mass hours co2_mass
  -- what the check goes on with
  pub hour_count : r.shape.hours ≡ length hours
  pub operation_count : r.shape.operations ≡ length operations
