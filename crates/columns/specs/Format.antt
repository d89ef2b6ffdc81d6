-- The formats of numbers in columns, as the paper has them. No function that reads is called here: FormatLaws.antt proves that a number is read
-- from columns in its format, and from no others.
use Rattle.std.specs.Prelude.{◌≡◌, ℕ, zero, suc, ◌+◌, ◌-◌, ◌*◌, ◌^◌, ◌≤◌, List, [], ◌∷◌, ◌++◌, length}
use Rattle.exact.specs.Logic.{All}

abbrev pub Digits : List ℕ → Type 0
Digits bs = All (λ (b : ℕ). (48 ≤ b) × (b ≤ 57)) bs

-- the number that digits write
abbrev pub decimal : List ℕ → ℕ
decimal [] = 0
decimal (b ∷ bs) = (b - 48) * 10 ^ length bs + decimal bs

abbrev pub Blanks : List ℕ → Type 0
Blanks bs = All (λ (b : ℕ). b ≡ 32) bs

-- digits only
pub record DigitsOnly (bs : List ℕ) (number : ℕ) : Type 0 where
  pub digits : Digits bs
  pub own : number ≡ decimal bs

-- a point and the decimals, if there are to be any
abbrev pub pointed : (d : ℕ) → List ℕ → List ℕ
pointed zero decimals = []
pointed (suc d) decimals = 46 ∷ decimals

-- F.d, a number in units of 10^-d: blanks or none, at least one digit, a point and exactly d digits, to the end; I, where d is 0, has no point
pub record InFormat (d : ℕ) (bs : List ℕ) (number : ℕ) : Type 0 where
  pub blanks : List ℕ
  pub digits : List ℕ
  pub decimals : List ℕ
  pub parts : bs ≡ blanks ++ (digits ++ pointed d decimals)
  pub all_blanks : Blanks blanks
  pub some : 1 ≤ length digits
  pub all_digits : Digits digits
  pub exactly : length decimals ≡ d
  pub all_decimals : Digits decimals
  pub own : number ≡ decimal (digits ++ decimals)
