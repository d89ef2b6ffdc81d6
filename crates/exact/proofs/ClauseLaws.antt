-- What a fault tells of clauses, and that the number of the first clause that fails is determined. Clauses.antt has the words.
use Rattle.std.specs.Prelude.{ℕ, zero, suc, ◌≤◌, ◌<◌, ◌≡◌, refl, ◌⊎◌, Bool, true, false, ◌&&◌}
use Rattle.std.proofs.Common.{sym, ◌∙◌, inl, inr, ⊎_elim, arith}
use mathlib.Core.List.{List, [], ◌∷◌, ◌++◌, Memᴰ}
use Rattle.std.proofs.lemmas.Bool.{false≢true}
use Rattle.exact.specs.Faults.{◌or_else◌, unless, first_failing}
use Rattle.exact.specs.Clauses.{Clause, clause, row_clauses, Hold, FirstFails, when}

-- clauses that hold have no first that fails, and there is one number of it
pub hold_none : (cs : List Clause) (n : ℕ) → Hold cs → FirstFails cs n → ⊥
hold_none [] n h f = f
hold_none (c ∷ cs) n h f = ⊎_elim (λ x. x.1 h.0) (λ x. hold_none cs n h.1 x.1) f

pub first_determined : (cs : List Clause) (m n : ℕ) → FirstFails cs m → FirstFails cs n → m ≡ n
first_determined [] m n f g = absurd f
first_determined (c ∷ cs) m n f g =
    ⊎_elim
    (λ x. ⊎_elim (λ y. x.0 ∙ sym y.0) (λ y. absurd (x.1 y.0)) g)
    (λ x. ⊎_elim (λ y. absurd (y.1 x.0)) (λ y. first_determined cs m n x.1 y.1) g) f

-- a fault tells of clauses: 0 that they hold, another number which is the first that does not
pub record Told (fault : ℕ) (cs : List Clause) : Type 0 where
  pub right : fault ≡ 0 → Hold cs
  pub wrong : (c : ℕ) → fault ≡ suc c → FirstFails cs (suc c)

pub hold_append : (cs ds : List Clause) → Hold cs → Hold ds → Hold (cs ++ ds)
hold_append [] ds h k = k
hold_append (c ∷ cs) ds h k = (h.0, hold_append cs ds h.1 k)

pub fails_later : (cs ds : List Clause) (n : ℕ) → Hold cs → FirstFails ds n → FirstFails (cs ++ ds) n
fails_later [] ds n h f = f
fails_later (c ∷ cs) ds n h f = inr (h.0, fails_later cs ds n h.1 f)

pub fails_sooner : (cs ds : List Clause) (n : ℕ) → FirstFails cs n → FirstFails (cs ++ ds) n
fails_sooner [] ds n f = absurd f
fails_sooner (c ∷ cs) ds n f = ⊎_elim (λ x. inl x) (λ x. inr (x.0, fails_sooner cs ds n x.1)) f

pub told_or : (a b : ℕ) (cs ds : List Clause) → Told a cs → Told b ds → Told (a or_else b) (cs ++ ds)
told_or zero b cs ds x y = record {
  right = λ e. hold_append cs ds (x.right refl) (y.right e);
  wrong = λ c e. fails_later cs ds (suc c) (x.right refl) (y.wrong c e);
}
told_or (suc a) b cs ds x y = record { right = λ e. absurd (omega arith); wrong = λ c e. fails_sooner cs ds (suc c) (x.wrong c e) }

-- of one clause: a fault that is 0 exactly where it holds, and else its number
pub told_by : (f n : ℕ) (P : Type 0) → (f ≡ 0) ⊎ (f ≡ suc n) → (f ≡ 0 → P) → (P → f ≡ 0) → Told f (clause (suc n) P ∷ [])
told_by f n P either there back = record {
  right = λ e. (there e, tt);
  wrong = λ c e. ⊎_elim (λ z. absurd (omega arith)) (λ z. inl (sym e ∙ z, λ p. absurd (omega (arith, back p)))) either;
}

pub told_one : (b : Bool) (n : ℕ) (P : Type 0) → (b ≡ true → P) → (P → b ≡ true) → Told (unless b (suc n)) (clause (suc n) P ∷ [])
told_one true n P f g = told_by 0 n P (inl refl) (λ e. f refl) (λ p. refl)
told_one false n P f g = told_by (suc n) n P (inr refl) (λ e. absurd (omega arith)) (λ p. absurd (false≢true (g p)))

-- two tests joined, whose clauses have one number
pub told_both : (p q : Bool) (n : ℕ) (cs ds : List Clause) → Told (unless p (suc n)) cs → Told (unless q (suc n)) ds →
    Told (unless (p && q) (suc n)) (cs ++ ds)
told_both true q n cs ds x y = told_or 0 (unless q (suc n)) cs ds x y
told_both false q n cs ds x y = record { right = λ e. absurd (omega arith); wrong = λ c e. fails_sooner cs ds (suc c) (x.wrong c e) }

pub told_then : (a b : ℕ) (cs ds : List Clause) → Told a cs → (a ≡ 0 → Told b ds) → Told (a or_else b) (cs ++ ds)
told_then zero b cs ds x y = told_or zero b cs ds x (y refl)
told_then (suc a) b cs ds x y = record { right = λ e. absurd (omega arith); wrong = λ c e. fails_sooner cs ds (suc c) (x.wrong c e) }

pub told_skip : (f : ℕ) (cs ds : List Clause) → Hold cs → Told f ds → Told f (cs ++ ds)
told_skip f cs ds h x = record { right = λ e. hold_append cs ds h (x.right e); wrong = λ c e. fails_later cs ds (suc c) h (x.wrong c e) }

-- one test of two clauses, the first of which some test decides
pub told_two : (a b : Bool) (n : ℕ) (P Q : Type 0) → (a ≡ true → P) → (P → a ≡ true) → (b ≡ true → P × Q) → (P → Q → b ≡ true) →
    Told (unless b (suc n)) (clause (suc n) P ∷ clause (suc n) Q ∷ [])
told_two true b n P Q f g there back =
    told_skip (unless b (suc n)) (clause (suc n) P ∷ []) (clause (suc n) Q ∷ []) (f refl, tt)
    (told_one b n Q (λ e. (there e).1) (back (f refl)))
told_two false true n P Q f g there back = absurd (false≢true (g (there refl).0))
told_two false false n P Q f g there back = record {
  right = λ e. absurd (omega arith);
  wrong = λ c e. inl (sym e, λ p. false≢true (g p));
}

pub told_more : (f : ℕ) (cs ds : List Clause) → Told f cs → Hold ds → Told f (cs ++ ds)
told_more f cs ds x h = record { right = λ e. hold_append cs ds (x.right e) h; wrong = λ c e. fails_sooner cs ds (suc c) (x.wrong c e) }

pub never : (G : Type 0) → (G → ⊥) → (cs : List Clause) → Hold (when G cs)
never G n [] = tt
never G n (c ∷ cs) = ((λ g. absurd (n g)), never G n cs)

pub told_when : (G : Type 0) → G → (f : ℕ) (cs : List Clause) → Told f cs → Told f (when G cs)
told_when G g f cs x = record { right = λ e. holds cs (x.right e); wrong = λ c e. fails cs (suc c) (x.wrong c e) }
  where
    holds : (cs : List Clause) → Hold cs → Hold (when G cs)
    holds [] h = tt
    holds (c ∷ cs) h = ((λ y. h.0), holds cs h.1)

    fails : (cs : List Clause) (n : ℕ) → FirstFails cs n → FirstFails (when G cs) n
    fails [] n f = absurd f
    fails (c ∷ cs) n f = ⊎_elim (λ x. inl (x.0, λ h. x.1 (h g))) (λ x. inr ((λ y. x.0), fails cs n x.1)) f

-- a fault that is a number is that of the first that fails
pub told_wrong : (f : ℕ) (cs : List Clause) → Told f cs → (f ≡ 0 → ⊥) → FirstFails cs f
told_wrong zero cs x n = absurd (n refl)
told_wrong (suc c) cs x n = x.wrong c refl

-- where all hold there is no fault
pub told_none : (f : ℕ) (cs : List Clause) → Told f cs → Hold cs → f ≡ 0
told_none zero cs x h = refl
told_none (suc c) cs x h = absurd (hold_none cs (suc c) h (x.wrong c refl))

-- where one fails, a fault that tells of clauses is a number, that of the first
pub told_first : (f n : ℕ) (cs : List Clause) → Told f cs → FirstFails cs n → (c : ℕ) × (f ≡ suc c) × (suc c ≡ n)
told_first zero n cs x g = absurd (hold_none cs n (x.right refl) g)
told_first (suc f) n cs x g = (f, refl, first_determined cs (suc f) n (x.wrong f refl) g)

-- a statement of every clause's number holds of the first that fails
abbrev pub Numbered : (ℕ → Type 0) → List Clause → Type 0
Numbered P [] = Unit {0}
Numbered P (c ∷ cs) = P c.number × Numbered P cs

pub first_among : (P : ℕ → Type 0) (cs : List Clause) (n : ℕ) → Numbered P cs → FirstFails cs n → P n
first_among P [] n a f = absurd f
first_among P (c ∷ cs) n a f = ⊎_elim (λ x. rw x.0 a.0) (λ x. first_among P cs n a.1 x.1) f

-- the numbers of the clauses rise, from above a number
abbrev pub Rise : ℕ → List Clause → Type 0
Rise least [] = Unit {0}
Rise least (c ∷ cs) = (least < c.number) × Rise c.number cs

-- then each clause is told by its number from the first that fails: that one does not hold, and those with a lesser number do
abbrev pub Apart : ℕ → List Clause → Type 0
Apart n [] = Unit {0}
Apart n (c ∷ cs) = ((c.number ≡ n → c.holds → ⊥) × (c.number < n → c.holds)) × Apart n cs

rise_over : (n least : ℕ) (cs : List Clause) → n ≤ least → Rise least cs → Numbered (λ m. n < m) cs
rise_over n least [] l r = tt
rise_over n least (c ∷ cs) l r = (omega (arith, r.0), rise_over n c.number cs (omega (arith, r.0)) r.1)

over_apart : (n : ℕ) (cs : List Clause) → Numbered (λ m. n < m) cs → Apart n cs
over_apart n [] a = tt
over_apart n (c ∷ cs) a = (((λ e. absurd (omega (arith, a.0))), (λ l. absurd (omega (arith, a.0)))), over_apart n cs a.1)

pub first_apart : (n least : ℕ) (cs : List Clause) → Rise least cs → FirstFails cs n → Apart n cs
first_apart n least [] r f = absurd f
first_apart n least (c ∷ cs) r f =
    ⊎_elim
    (λ x. (((λ e. x.1), (λ l. absurd (omega (arith, x.0)))), over_apart n cs (rise_over n c.number cs (omega (arith, x.0)) r.1)))
    (λ x.
    let above : c.number < n = first_among (λ m. c.number < m) cs n (rise_over c.number c.number cs (omega arith) r.1) x.1 in
    (((λ e. absurd (omega (arith, e))), (λ l. x.0)), first_apart n c.number cs r.1 x.1))
    f

-- rows: the first that fails a test tells of what the test decides
module _ {A : Type 0} (number : A → ℕ) (holds : A → Type 0) where
  row_told : (b : Bool) (n : ℕ) (P : Type 0) → 0 < n → (b ≡ true → P) → (P → b ≡ true) → Told (unless b n) (clause n P ∷ [])
  row_told b zero P l f g = absurd (omega arith)
  row_told b (suc n) P l f g = told_one b n P f g

  pub told_rows : (passes : A → Bool) → ((x : A) → passes x ≡ true → holds x) → ((x : A) → holds x → passes x ≡ true) →
      (xs : List A) → Numbered (λ n. 0 < n) (row_clauses number holds xs) → Told (first_failing passes number xs) (row_clauses number holds xs)
  unfolding first_failing
  told_rows passes there back [] a = record { right = λ e. tt; wrong = λ c e. absurd (omega arith) }
  told_rows passes there back (x ∷ xs) a =
      told_or _ _ (clause (number x) _ ∷ []) (row_clauses number holds xs) (row_told (passes x) (number x) _ a.0 (there x) (back x))
      (told_rows passes there back xs a.1)

  -- the clause that fails first is a row's
  pub first_row : (xs : List A) (n : ℕ) → FirstFails (row_clauses number holds xs) n → (x : A) × Memᴰ x xs × (number x ≡ n)
  first_row [] n f = absurd f
  first_row (x ∷ xs) n f =
      ⊎_elim (λ y. (x, Memᴰ.head refl, sym y.0)) (λ y. let r = first_row xs n y.1 in (r.0, Memᴰ.tail r.1, r.2)) f
