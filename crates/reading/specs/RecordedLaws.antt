-- Every record of a type, of any file, is a line of the file with that line's number, and no idle one.
use Rattle.std.specs.Prelude.{ℕ, ◌+◌, ◌-◌, ◌<◌, ◌≡◌, List, [], true, false, not, length, get_or}
use Rattle.std.proofs.Common.{sym, ap, ◌∙◌, arith, ne_eqb}
use Rattle.std.proofs.lemmas.Bool.{not-true}
use Rattle.exact.specs.Logic.{both}
use Rattle.layout.proofs.TypeLaws.{code_tells}
use Rattle.layout.specs.declared.RecordType.{RecordType}
use Rattle.layout.specs.declared.RecordType.TheVariants.{Operation}
use Rattle.lines.specs.Lines.{lines, text_of}
use Rattle.lines.specs.LineFaults.{type_is, operates}
use Rattle.lines.proofs.FaultLaws.{type_same}
use Rattle.reading.specs.RunLaws.{with_numbered, Passing, having_at}
use Rattle.reading.specs.Recorded.{Line, idle, record_of_type, records_of, HasRecord, record_at}

-- which lines are idle: 300 lines that do not operate

pub operation_idle : (l : List ℕ) → type_is Operation l ≡ true → idle l ≡ not (operates l)
unfolding idle
operation_idle l e = rw e

pub other_idle : (l : List ℕ) → type_is Operation l ≡ false → idle l ≡ false
unfolding idle
other_idle l e = rw e

pub typed_idle : (t : RecordType) → (t ≡ Operation → ⊥) → (l : List ℕ) → type_is t l ≡ true → idle l ≡ false
typed_idle t other l e = other_idle l (type_same t Operation l e ∙ ne_eqb _ _ (λ c. other (code_tells t Operation c)))

-- a record is one of the lines, and passes the test of its type
passing : (file : List ℕ) (t : RecordType) (k : ℕ) → k < length (records_of file t) → Passing (record_of_type t) 1 (lines file) (record_at file t k)
unfolding records_of
passing file t k h =
    let e = with_numbered (record_of_type t) (lines file) 1 in
    rw e (having_at (record_of_type t) (lines file) (record { number = 0; text = [] }) k 1 (rw (← e) h))

pub has_record : (file : List ℕ) (t : RecordType) (k : ℕ) → k < length (records_of file t) → HasRecord file t (record_at file t k).number
has_record file t k h =
    let p = passing file t k h in
    let n : (record_at file t k).number ≡ 1 + p.place = ap (λ (l : Line). l.number) p.own in
    let i : (record_at file t k).number - 1 ≡ p.place = omega arith in
    let text : text_of file (record_at file t k).number ≡ (record_at file t k).text =
    ap (λ (i : ℕ). get_or (lines file) i []) i ∙ sym (ap (λ (l : Line). l.text) p.own) in
    record { stands = record { first = omega arith; last = omega (arith, p.inside) }; type = rw text p.passes }

-- none of them is idle
pub record_runs : (file : List ℕ) (t : RecordType) (k : ℕ) → k < length (records_of file t) → idle (record_at file t k).text ≡ false
record_runs file t k h =
    not-true _ (both (type_is t (record_at file t k).text) (not (idle (record_at file t k).text)) (passing file t k h).passes).1
