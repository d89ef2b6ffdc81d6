-- What is read from a line is what stands on it.
use Rattle.std.specs.Prelude.{ℕ, ◌≡◌, List}
use Rattle.std.proofs.Common.{ap₂}
use Rattle.columns.specs.Number.{number_of}
use Rattle.layout.specs.Layout.{value_at}
use Rattle.layout.specs.declared.RecordType.{RecordType}
use Rattle.lines.specs.LineFaults.{field_in}

pub on_line : {t u : RecordType} {text line : List ℕ} → (t ≡ u) × (text ≡ line) → (i : ℕ) →
    number_of (field_in (value_at t i) text) ≡ number_of (field_in (value_at u i) line)
on_line e i = ap₂ (λ (t : RecordType) (line : List ℕ). number_of (field_in (value_at t i) line)) e.0 e.1
