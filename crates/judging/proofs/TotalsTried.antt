-- Totals tried one after the other: a fault found, joined by the next total's, and what follows.
use Rattle.std.proofs.Common.{◌≡◌, ℕ, zero, suc, refl, ap, ◌∙◌}
use Rattle.exact.specs.Faults.{◌or_else◌}

pub joined : (found own rest : ℕ) {fault : ℕ} → fault ≡ found or_else own → fault or_else rest ≡ found or_else (own or_else rest)
joined found own rest e = ap (λ (n : ℕ). n or_else rest) e ∙ go found
  where
    go : (found : ℕ) → (found or_else own) or_else rest ≡ found or_else (own or_else rest)
    go zero = refl
    go (suc found) = refl
