use Rattle.std.proofs.Common.{◌≡◌, ℕ, ◌<◌, List, length, sym, ap, subst, ◌∙◌, ⊎_elim, arith}
use Rattle.layout.specs.Layout.{record_of, shape, lines_of}
use Rattle.layout.specs.declared.RecordType.{RecordType}
use Rattle.layout.specs.declared.Row.{Row}
use Rattle.layout.specs.declared.Run.{Run}
use Rattle.layout.specs.declared.Run.TheVariants.{Once, Hourly}
use Rattle.layout.specs.declared.Shape.{Shape}
use Rattle.reading.specs.Recorded.{records_of}
use Rattle.reading.specs.Places.{Standing, Stands}
use Rattle.reading.specs.RecordLaws.{records_standing}
use Rattle.reading.specs.RankLaws.{hour_stands, once_stands}
use Rattle.recorded.proofs.Records.place_of.Goals as goal

module _ (file : List ℕ) (s : Shape) (d : Standing file s) (t : RecordType) (k : ℕ) (some : k < length (records_of file t)) where
  -- there are as many records as the run has operating hours, or one
  below : (r : Run) → (record_of t).run ≡ r → k < lines_of r (shape s.hours)
  below r e = subst (λ (r : Run). k < lines_of r (shape s.hours)) e (subst (λ (n : ℕ). k < n) (records_standing file s d t) some)

  once : (record_of t).run ≡ Once → Stands file s t k k
  once e = let z : 0 ≡ k = omega (arith, below Once e) in subst (λ (k : ℕ). Stands file s t k k) z (once_stands file s d t e)

  hourly : (record_of t).run ≡ Hourly → Stands file s t k k
  hourly e = hour_stands file s d t e k (below Hourly e)

pub returns-in-Once : goal.returns-in-Once
returns-in-Once c =
    let r = c.args.self in
    let row = sym (ap (λ (r : Row). r.run) c.row_of.ensures) in
    ⊎_elim
    (λ e. once r.file.now r.shape r.standing c.args.t c.args.k c.requires (row ∙ e))
    (λ e. hourly r.file.now r.shape r.standing c.args.t c.args.k c.requires (row ∙ e))
    c.in-Once.is
