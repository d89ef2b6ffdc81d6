use Rattle.reading.specs.RankLaws.{Ahead}
use Rattle.recorded.proofs.Records.operating_place.Given as goal

abbrev pub invariant-loop : goal.invariant-loop
invariant-loop l = Ahead l.self.file.now l.self.shape l.counter l.from
