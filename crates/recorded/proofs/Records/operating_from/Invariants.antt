use Rattle.std.proofs.Common.{◌≡◌}
use Rattle.reading.specs.Places.{operating_from, operating_place}
use Rattle.recorded.proofs.Records.operating_from.Given as goal

-- from `place` on the search comes to what it comes to from p on
abbrev pub invariant-loop-place : goal.invariant-loop-place
invariant-loop-place l =
    record {
      same : operating_place l.self.file.now l.self.shape l.place ≡ operating_place l.self.file.now l.self.shape l.p;
      left : operating_from l.self.file.now l.self.shape l.place ≡ operating_from l.self.file.now l.self.shape l.p;
    }
