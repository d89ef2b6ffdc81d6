-- What a refusal leaves, and what none does.
use Rattle.std.specs.Prelude.{Ok, Err}
use Prim.Native.Nat.{ℕ, zero, suc, ◌≤◌}
use mathlib.Core.Path.{◌≡◌, sym}
use mathlib.Core.List.{List}
use native.Mathlib.Omega.{arith}
use Rattle.refusals.specs.Refusals.{convert_number}
use Rattle.refusals.specs.declared.ConvertRefusal.{ConvertRefusal}
use Rattle.refusals.proofs.Numbers.{convert_positive}
use Rattle.conversion.specs.Conversion.{Converted, conversion_refusal, recoded_from, converted, conversion_answer, converted_number}
use Rattle.conversion.specs.ConversionPromise.{ConversionPromise}
use Rattle.conversion.proofs.SameReportLaws.{kept_promise, new_promise}

-- the contract of a conversion
abbrev pub Told : List ℕ → Converted → List ℕ → Type 0
Told sheet answer after = (answer ≡ conversion_answer sheet) × (after ≡ converted sheet) × ConversionPromise sheet (converted_number answer) after

pub refused_by : (sheet : List ℕ) (number : ℕ) → number ≡ conversion_refusal sheet → 1 ≤ number → Told sheet (Err number) sheet
unfolding converted conversion_answer
refused_by sheet zero e some = absurd (omega arith)
refused_by sheet (suc c) e some =
    (rw (← e, conversion_answer), rw (← e, converted), rw e (kept_promise sheet (λ z. omega arith)))

pub refused : (sheet : List ℕ) (e : ConvertRefusal) → convert_number e ≡ conversion_refusal sheet → Told sheet (Err (convert_number e)) sheet
refused sheet e told = refused_by sheet (convert_number e) told (convert_positive e)

pub done : (sheet after : List ℕ) → 0 ≡ conversion_refusal sheet → after ≡ recoded_from 0 sheet → Told sheet (Ok tt) after
unfolding converted conversion_answer
done sheet after e f = (rw (← e, conversion_answer), rw (← e, converted) f, rw f (new_promise sheet (sym e)))
