-- What one call leaves is what the next takes: the answer of `edr_check`, and a year's record, are read back from a slice's front.
use Rattle.std.specs.Prelude.{ℕ, ◌≡◌, refl, List, Ok}
use Rattle.totals.specs.declared.Quarter.{Quarter}
use Rattle.judging.specs.Judged.{acceptance}
use Rattle.annual.specs.Joined.{year_numbers}
use Rattle.annual.specs.declared.YearToDate.{YearToDate}
use Rattle.edr_c.specs.Boundary.{filled, quarter_in, year_in}

pub answer_read : (r : Quarter) (buffer : List ℕ) → quarter_in (filled (acceptance r) buffer) ≡ r
answer_read r buffer = refl

pub record_read : (y : YearToDate) (buffer : List ℕ) → year_in (filled (year_numbers (Ok y)) buffer) ≡ y
record_read y buffer = refl
