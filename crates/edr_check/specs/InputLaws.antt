-- What an input says of the reads: it is too long exactly where a byte came behind a full report, and a report is all that came before.
use Rattle.std.specs.Prelude.{ℕ, zero, suc, ◌≡◌, refl, ◌↔◌, ℤ, pos, negsuc}
use Rattle.std.proofs.Common.{ap, arith}
use Rattle.edr_check.specs.Input.{returned, input_of, ReadTo}
use Rattle.edr_check.specs.declared.Reads.{Reads}
use Rattle.edr_check.specs.declared.Input.TheVariants.{Report, TooLong}

brought : (size : ℕ) (z : ℤ) → input_of size z ≡ TooLong → (k : ℕ) × (z ≡ pos (suc k))
unfolding input_of
brought size (negsuc k) e = absurd (let y : ◌≡◌ {A = ℕ} 0 1 = cc in omega arith)
brought size (pos zero) e = absurd (let y : ◌≡◌ {A = ℕ} 0 1 = cc in omega arith)
brought size (pos (suc k)) e = (k, refl)

pub too_long : (room : ℕ) (reads : Reads) → ReadTo room reads →
    (input_of reads.size (returned reads.last) ≡ TooLong) ↔ ((reads.size ≡ room) × ((k : ℕ) × (returned reads.last ≡ pos (suc k))))
unfolding input_of
too_long room reads r = (
  (λ e. let b = brought reads.size (returned reads.last) e in (r.beyond b.0 b.1, b)),
  (λ b. ap (input_of reads.size) b.1.1),
)

pub report_size : (size came : ℕ) (z : ℤ) → Report size ≡ input_of came z → size ≡ came
unfolding input_of
report_size size came (negsuc k) e = absurd (let y : ◌≡◌ {A = ℕ} 0 1 = cc in omega arith)
report_size size came (pos zero) e = cc
report_size size came (pos (suc k)) e = absurd (let y : ◌≡◌ {A = ℕ} 0 1 = cc in omega arith)
