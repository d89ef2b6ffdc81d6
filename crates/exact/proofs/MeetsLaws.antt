-- Two ranges meet where two strict comparisons hold; two ways to compute the comparisons are one test.
use Rattle.std.specs.Prelude.{◌≡◌, ◌↔◌, true, ◌&&◌, ℕ, ◌*◌, ◌≤◌, ◌<◌, ltb}
use Rattle.std.proofs.Common.{sym, ◌∙◌, ap₂, arith, ltb-true, lt-ltb, le-ltb}
use Rattle.std.proofs.Math.Nat.{mul-lt-mul_of_pos_left, lt_of_mul-lt-mul_left}
use Rattle.std.proofs.Math.Decide.{dec_lt}
use Rattle.exact.specs.Logic.{both}
use Rattle.exact.specs.Behind.{meets}

pub meets_true : (low high from below : ℕ) → (meets low high from below ≡ true) ↔ ((low < below) × (from < high))
unfolding meets
meets_true low high from below = (
  λ e. let h = both (ltb low below) (ltb from high) e in (ltb-true low below h.0, ltb-true from high h.1),
  λ h. rw (lt-ltb low below h.0, lt-ltb from high h.1),
)

same_test : (a b c d : ℕ) → (a < b) ↔ (c < d) → ltb a b ≡ ltb c d
same_test a b c d e = go (dec_lt a b)
  where
    le_of_not_lt : {a b : ℕ} → ¬ (a < b) → b ≤ a
    le_of_not_lt h = omega arith

    go : Dec (a < b) → ltb a b ≡ ltb c d
    go (yes h) = lt-ltb a b h ∙ sym (lt-ltb c d (e.0 h))
    go (no h) = le-ltb a b (le_of_not_lt h) ∙ sym (le-ltb c d (le_of_not_lt (λ l. h (e.1 l))))

pub same_meets : {a b c d a' b' c' d' : ℕ} → ((a < d) ↔ (a' < d')) × ((c < b) ↔ (c' < b')) → meets a b c d ≡ meets a' b' c' d'
unfolding meets
same_meets {a} {b} {c} {d} {a'} {b'} {c'} {d'} e = ap₂ ◌&&◌ (same_test a d a' d' e.0) (same_test c b c' b' e.1)

pub meets_at : {a b c d a' b' c' d' : ℕ} → a ≡ a' → b ≡ b' → c ≡ c' → d ≡ d' → meets a b c d ≡ meets a' b' c' d'
meets_at e f g h = rw (e, f, g, h)

reduced : (m a b a' b' : ℕ) → 0 < m → m * a ≡ a' → m * b ≡ b' → (a < b) ↔ (a' < b')
reduced m a b a' b' h p q = (λ l. omega (arith, mul-lt-mul_of_pos_left l h), λ l. lt_of_mul-lt-mul_left m (omega arith))

-- what is compared may be reduced by a common factor
pub meets_reduced : (m a b c d : ℕ) {a' b' c' d' : ℕ} → 0 < m → m * a ≡ a' → m * b ≡ b' → m * c ≡ c' → m * d ≡ d' →
    meets a b c d ≡ meets a' b' c' d'
meets_reduced m a b c d h p q r s = same_meets (reduced m a d _ _ h p s, reduced m c b _ _ h r q)
