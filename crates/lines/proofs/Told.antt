-- What a call that may refuse returns, beside its definition: a fault is told as its number, which is never 0.
use Rattle.std.specs.Prelude.{Result, Ok, Err, is_ok, IsErrAnd}
use Rattle.std.proofs.lemmas.Result.{err_from_is_err_and}
use Rattle.std.proofs.Common.{◌≡◌, ℕ, zero, suc, true, sym, ap, ◌∙◌, arith}
use Rattle.std.proofs.lemmas.Bool.{false≢true}
use Rattle.exact.specs.Faults.{◌or_else◌, or_first, or_next}
use Rattle.refusals.specs.Refusals.{fault_number, fault_in}
use Rattle.refusals.specs.declared.Fault.{Fault}
use Rattle.refusals.proofs.Numbers.{fault_positive}
use Rattle.lines.specs.LineFaults.{hour_said, said_of}
use Rattle.lines.specs.declared.operation.OperationLine.{OperationLine}

module _ (e : Fault) where
  pub some_fault : fault_number e ≡ 0 → ⊥
  some_fault z = let p = fault_positive e in omega arith

  -- what refuses is the first of what is tried
  pub first_told : (a rest : ℕ) → fault_number e ≡ a → fault_number e ≡ a or_else rest
  first_told a rest f = f ∙ sym (or_first a rest (λ z. some_fault (f ∙ z)))

  -- a line with this fault says it, and not its hour
  pub hour_told : (f hour : ℕ) → fault_number e ≡ f → Err (fault_number e) ≡ hour_said f hour
  hour_told zero hour k = absurd (some_fault k)
  hour_told (suc c) hour k = ap Err k

  pub operation_told : (f : ℕ) (hour : OperationLine) → fault_number e ≡ f → Err (fault_number e) ≡ said_of f hour
  unfolding said_of
  operation_told zero hour k = absurd (some_fault k)
  operation_told (suc c) hour k = ap Err k

-- where nothing refuses, what is tried next answers
pub next_told : (f a rest : ℕ) → 0 ≡ a → f ≡ rest → f ≡ a or_else rest
next_told f a rest z e = e ∙ sym (or_next a rest (sym z))

-- a call that is looked at only for whether it refuses
pub none_told : {A : Type 0} (r : Result A Fault) (a : ℕ) → fault_in fault_number r ≡ a → is_ok r ≡ true → a ≡ 0
none_told (Ok x) a e h = sym e
none_told (Err x) a e h = absurd (false≢true h)

-- what the exit of a `?` returns
pub exit_told : {A : Type 0} (r : Result A Fault) (e : Fault) → IsErrAnd r (λ x. x ≡ e) → r ≡ Err e
exit_told r e h = let p = err_from_is_err_and r h in p.1 ∙ ap Err p.2
