-- A test of every byte is a statement of every byte: all printable, all digits, all blank; and what a test that a name is not blank tells.
use Rattle.std.specs.Prelude.{◌≡◌, ℕ, suc, ◌≤◌, Bool, true, false, not, List, [], ◌∷◌, nat_le}
use Rattle.std.proofs.Math.Path.{refl}
use Rattle.std.proofs.Common.{sym, ◌∙◌, inl, inr, arith, eqb-true, eq-eqb, leb-true, le-leb}
use Rattle.std.proofs.lemmas.Bool.{false≢true}
use Rattle.exact.specs.Logic.{All, both}
use Rattle.exact.specs.Faults.{unless}
use Rattle.exact.specs.Clauses.{clause}
use Rattle.exact.proofs.ClauseLaws.{Told, told_by}
use Rattle.columns.specs.Bytes.{all, is_blank, is_digit, is_printable}
use Rattle.columns.proofs.BytesLaws.{all_cons, all_head, all_tail}
use Rattle.columns.specs.Format.{Digits, Blanks}

module _ (p : ℕ → Bool) (P : ℕ → Type 0) where
  pub each_of : ((b : ℕ) → p b ≡ true → P b) → (bs : List ℕ) → all p bs ≡ true → All P bs
  each_of f [] e = tt
  each_of f (b ∷ bs) e = (f b (all_head p b bs e), each_of f bs (all_tail p b bs e))

  pub of_each : ((b : ℕ) → P b → p b ≡ true) → (bs : List ℕ) → All P bs → all p bs ≡ true
  unfolding all
  of_each f [] a = refl
  of_each f (b ∷ bs) a = all_cons p b bs (f b a.0) (of_each f bs a.1)

abbrev pub AllPrintable : List ℕ → Type 0
AllPrintable bs = All (λ (b : ℕ). (32 ≤ b) × (b ≤ 126)) bs

pub printable_says : (bs : List ℕ) → all is_printable bs ≡ true → AllPrintable bs
printable_says =
    each_of is_printable (λ (b : ℕ). (32 ≤ b) × (b ≤ 126)) (λ b e. let c = both (nat_le 32 b) (nat_le b 126) e in (leb-true 32 b c.0, leb-true b 126 c.1))

pub says_printable : (bs : List ℕ) → AllPrintable bs → all is_printable bs ≡ true
says_printable = of_each is_printable (λ (b : ℕ). (32 ≤ b) × (b ≤ 126)) (λ b w. rw (le-leb 32 b w.0, le-leb b 126 w.1))

pub digits_say : (bs : List ℕ) → all is_digit bs ≡ true → Digits bs
digits_say =
    each_of is_digit (λ (b : ℕ). (48 ≤ b) × (b ≤ 57)) (λ b e. let c = both (nat_le 48 b) (nat_le b 57) e in (leb-true 48 b c.0, leb-true b 57 c.1))

pub blank_says : (bs : List ℕ) → all is_blank bs ≡ true → Blanks bs
blank_says = each_of is_blank (λ (b : ℕ). b ≡ 32) (λ b. eqb-true b 32)

pub says_blank : (bs : List ℕ) → Blanks bs → all is_blank bs ≡ true
says_blank = of_each is_blank (λ (b : ℕ). b ≡ 32) (λ b. eq-eqb b 32)

pub named_told : (n : ℕ) (name : List ℕ) → Told (unless (not (all is_blank name)) (suc n)) (clause (suc n) (Blanks name → ⊥) ∷ [])
named_told n name = go (all is_blank name) refl
  where
    go : (b : Bool) → all is_blank name ≡ b → Told (unless (not b) (suc n)) (clause (suc n) (Blanks name → ⊥) ∷ [])
    go true e = told_by _ n _ (inr refl) (λ z. absurd (omega arith)) (λ m. absurd (m (blank_says name e)))
    go false e = told_by _ n _ (inl refl) (λ z bs. false≢true (sym e ∙ says_blank name bs)) (λ m. refl)
