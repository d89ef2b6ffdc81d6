use Rattle.std.proofs.Common.{◌≡◌, ℕ, ◌<◌, List, refl, sym, ap, ◌∙◌}
use Rattle.columns.specs.Number.{number_of}
use Rattle.layout.specs.Layout.{record_of, value_at}
use Rattle.layout.specs.Values.{thousands_of}
use Rattle.layout.specs.declared.RecordType.{RecordType}
use Rattle.layout.specs.declared.RecordType.TheVariants.{So2Concentration, NoxConcentration, Co2Concentration, VolumetricFlow, Operation}
use Rattle.layout.specs.declared.RecordType.TheVariants.{So2Mass, NoxRate, Co2Mass}
use Rattle.layout.specs.declared.Run.TheVariants.{Hourly}
use Rattle.layout.specs.declared.Shape.{Shape}
use Rattle.lines.specs.LineFaults.{field_in, has_gas}
use Rattle.reading.specs.Recorded.{Line, record_at, value_on, hour_at}
use Rattle.reading.specs.Places.{line_at, Standing}
use Rattle.reading.specs.RankLaws.{value_stands, hour_stands}
use Rattle.recorded.specs.declared.ListedHour.{ListedHour}
use Rattle.recorded.proofs.LineLaws.{on_line}
use Rattle.recorded.proofs.Records.hour.Goals as goal

-- the values of the hour's records, by rank
module _ (file : List ℕ) (s : Shape) (d : Standing file s) (t : RecordType) (e : (record_of t).run ≡ Hourly) (k : ℕ) (h : k < s.hours) where
  own_text : (line_at file s t k).text ≡ (record_at file t k).text
  own_text = sym (ap (λ (l : Line). l.text) (hour_stands file s d t e k h).there)

  ranked : (i : ℕ) → number_of (field_in (value_at t i) (line_at file s t k).text) ≡ value_on file t k i
  ranked i = value_stands file s t k k (hour_stands file s d t e k h) i

pub returns : goal.returns
unfolding hour_at
returns c =
    let x = c.args in
    let r = x.self in
    let listed = value_stands r.file.now r.shape Operation x.k x.at.place c.requires.1 in
    let own : (t : RecordType) → (record_of t).run ≡ Hourly → (i : ℕ) →
    number_of (field_in (value_at t i) (line_at r.file.now r.shape t x.k).text) ≡ value_on r.file.now t x.k i =
    λ t e. ranked r.file.now r.shape r.standing t e x.k c.requires.0 in
    λ i. record {
      time = (ap (λ (at : ListedHour). at.time) c.requires.2 ∙ listed 0) i;
      gas = (c.has_gas.ensures ∙ ap has_gas (c.line_at-mass.ensures.1 ∙ own_text r.file.now r.shape r.standing So2Mass refl x.k c.requires.0)) i;
      readings = record {
        so2 = (c.value.ensures ∙ on_line c.line_at.ensures 0 ∙ own So2Concentration refl 0) i;
        nox = (c.value-2.ensures ∙ on_line c.line_at-2.ensures 0 ∙ own NoxConcentration refl 0) i;
        co2 = (c.value-3.ensures ∙ on_line c.line_at-3.ensures 0 ∙ own Co2Concentration refl 0) i;
        flow = (c.thousands_of.ensures ∙ ap thousands_of (c.value-4.ensures ∙ on_line c.line_at-4.ensures 0 ∙ own VolumetricFlow refl 0)) i;
        fc = (c.value-5.ensures ∙ on_line c.line_at-rate.ensures 0 ∙ own NoxRate refl 0) i;
      };
      figures = record {
        heat = (c.value-6.ensures ∙ on_line c.line_at-5.ensures 1 ∙ listed 1) i;
        so2 = (c.value-7.ensures ∙ on_line c.line_at-mass.ensures 0 ∙ own So2Mass refl 0) i;
        nox = (c.value-8.ensures ∙ on_line c.line_at-rate.ensures 1 ∙ own NoxRate refl 1) i;
        co2 = (c.value-9.ensures ∙ on_line c.line_at-6.ensures 0 ∙ own Co2Mass refl 0) i;
      };
    }
