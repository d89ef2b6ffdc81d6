-- What a line is tried for, refused there: from the refusal to the fault, and from what passes to what was tried.
use Rattle.std.specs.Prelude.{ℕ, ◌≡◌, Result, Ok, Err, IsErrAnd}
use Rattle.std.proofs.lemmas.Result.{err_from_is_err_and}
use Rattle.std.proofs.Common.{refl, ap, ◌∙◌, arith}
use Rattle.refusals.specs.Refusals.{fault_number, on_paper, refusal_at, told, fault_in}
use Rattle.refusals.specs.declared.PaperRefusal.{PaperRefusal}
use Rattle.refusals.specs.declared.Fault.{Fault}
use Rattle.refusals.specs.declared.Refusal.{Refusal}
use Rattle.refusals.proofs.Numbers.{fault_positive}

-- on paper
abbrev pub there : (number line : ℕ) → PaperRefusal
there number line = record { number = number; line = line }

module _ {A : Type 0} where
  pub refused_there : (r : Result A Fault) (line : ℕ) (e : Refusal) → ◌≡◌ {A = Result A Refusal} (Err e) (told (refusal_at line) r) →
      on_paper e ≡ there (fault_in fault_number r) line
  refused_there (Ok x) line e h = absurd (let z : ◌≡◌ {A = ℕ} 0 1 = cc in omega arith)
  refused_there (Err f) line e h = let k : e ≡ refusal_at line f = cc in ap on_paper k

  pub some_there : (r : Result A Fault) (line : ℕ) (e : Refusal) → ◌≡◌ {A = Result A Refusal} (Err e) (told (refusal_at line) r) →
      fault_in fault_number r ≡ 0 → ⊥
  some_there (Ok x) line e h = absurd (let z : ◌≡◌ {A = ℕ} 0 1 = cc in omega arith)
  some_there (Err f) line e h = λ z. let p = fault_positive f in omega arith

  -- the number that is said
  pub faulty_there : (r : Result A Fault) (line : ℕ) (e : Refusal) → ◌≡◌ {A = Result A Refusal} (Err e) (told (refusal_at line) r) →
      ◌≡◌ {A = Result A ℕ} (told fault_number r) (Err (fault_in fault_number r))
  faulty_there (Ok x) line e h = absurd (let z : ◌≡◌ {A = ℕ} 0 1 = cc in omega arith)
  faulty_there (Err f) line e h = refl

  pub passed_there : (r : Result A Fault) (line : ℕ) (x : A) → ◌≡◌ {A = Result A Refusal} (Ok x) (told (refusal_at line) r) → r ≡ Ok x
  passed_there (Ok y) line x h = let k : y ≡ x = cc in ap Ok k
  passed_there (Err f) line x h = absurd (let z : ◌≡◌ {A = ℕ} 0 1 = cc in omega arith)

  pub none_there : (r : Result A Fault) (line : ℕ) (x : A) → ◌≡◌ {A = Result A Refusal} (Ok x) (told (refusal_at line) r) → fault_in fault_number r ≡ 0
  none_there r line x h = ap (fault_in fault_number) (passed_there r line x h)

-- what the exit of a `?` returns
pub exit_there : {A E : Type 0} (r : Result A E) (e : E) → IsErrAnd r (λ x. x ≡ e) → r ≡ Err e
exit_there r e h = let p = err_from_is_err_and r h in p.1 ∙ ap Err p.2
