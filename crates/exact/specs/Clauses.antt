-- A table of clauses that something must meet, in the order in which they are tried, each with the number of its refusal.
use Rattle.std.specs.Prelude.{ℕ, ◌≡◌, ◌⊎◌, List, [], ◌∷◌}

pub record Clause : Type 1 where
  pub number : ℕ
  pub holds : Type 0

abbrev pub clause : ℕ → Type 0 → Clause
clause number holds = record { number = number; holds = holds }

-- what each of some rows says, with its number
abbrev pub row_clauses : {A : Type 0} → (A → ℕ) → (A → Type 0) → List A → List Clause
row_clauses number holds [] = []
row_clauses number holds (x ∷ xs) = clause (number x) (holds x) ∷ row_clauses number holds xs

-- they all hold
abbrev pub Hold : List Clause → Type 0
Hold [] = Unit {0}
Hold (c ∷ cs) = c.holds × Hold cs

-- the first that does not hold has this number
abbrev pub FirstFails : List Clause → ℕ → Type 0
FirstFails [] number = ⊥
FirstFails (c ∷ cs) number = ((number ≡ c.number) × (c.holds → ⊥)) ⊎ (c.holds × FirstFails cs number)

-- clauses that are tried where something holds
abbrev pub when : Type 0 → List Clause → List Clause
when G [] = []
when G (c ∷ cs) = clause c.number (G → c.holds) ∷ when G cs
