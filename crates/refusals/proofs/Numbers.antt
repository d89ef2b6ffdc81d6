-- No refusal has the number 0: so it is the first of what is tried behind it. No two of the check's have one number. The numbers of the paper's table.
use Rattle.std.specs.Prelude.{ℕ, ◌≡◌, ◌≤◌, List, [], ◌∷◌, map, cond, eqb}
use Rattle.std.proofs.Common.{refl, sym, ap, ◌∙◌, arith}
use Rattle.exact.specs.Faults.{◌or_else◌, or_first, or_next}
use Rattle.refusals.specs.Refusals.{fault_number, write_number, join_number, recorder_number, convert_number}
use Rattle.refusals.specs.declared.Fault.{Fault}
use Rattle.refusals.specs.declared.Fault.TheVariants as fault
use Rattle.refusals.specs.declared.WriteRefusal.{WriteRefusal}
use Rattle.refusals.specs.declared.WriteRefusal.TheVariants as writing
use Rattle.refusals.specs.declared.JoinRefusal.{JoinRefusal}
use Rattle.refusals.specs.declared.JoinRefusal.TheVariants as joining
use Rattle.refusals.specs.declared.RecorderRefusal.{RecorderRefusal}
use Rattle.refusals.specs.declared.RecorderRefusal.TheVariants as recording
use Rattle.refusals.specs.declared.ConvertRefusal.{ConvertRefusal}
use Rattle.refusals.specs.declared.ConvertRefusal.TheVariants as converting

pub fault_positive : (f : Fault) → 1 ≤ fault_number f
fault_positive fault.Unfinished = omega arith
fault_positive fault.Type = omega arith
fault_positive fault.Length = omega arith
fault_positive fault.Byte = omega arith
fault_positive fault.Stack = omega arith
fault_positive fault.Period = omega arith
fault_positive fault.Date = omega arith
fault_positive fault.Format = omega arith
fault_positive fault.Range = omega arith
fault_positive fault.Missing = omega arith
fault_positive fault.HeatRate = omega arith
fault_positive fault.So2Rate = omega arith
fault_positive fault.NoxRate = omega arith
fault_positive fault.Co2Rate = omega arith
fault_positive fault.So2Tons = omega arith
fault_positive fault.Co2Tons = omega arith
fault_positive fault.HeatInput = omega arith
fault_positive fault.NoxMean = omega arith
fault_positive fault.Thousands = omega arith
fault_positive fault.IdleHeat = omega arith
fault_positive fault.NoxTons = omega arith
fault_positive fault.Gas = omega arith

pub write_positive : (f : WriteRefusal) → 1 ≤ write_number f
write_positive writing.Sheet = omega arith
write_positive writing.Range = omega arith
write_positive writing.Figure = omega arith
write_positive writing.Buffer = omega arith

pub join_positive : (f : JoinRefusal) → 1 ≤ join_number f
join_positive joining.Order = omega arith
join_positive joining.Sum = omega arith

pub recorder_positive : (f : RecorderRefusal) → 1 ≤ recorder_number f
recorder_positive recording.Absent = omega arith
recorder_positive recording.Unusable = omega arith
recorder_positive recording.Range = omega arith

pub convert_positive : (f : ConvertRefusal) → 1 ≤ convert_number f
convert_positive converting.Sheet = omega arith
convert_positive converting.Thousands = omega arith

-- a number is the first of two faults where it is the first one
pub first_said : (n a b : ℕ) → 1 ≤ n → n ≡ a → n ≡ a or_else b
first_said n a b h e = e ∙ sym (or_first a b (λ z. omega arith))

-- and the second is said where the first is none
pub next_said : (a b : ℕ) → 0 ≡ a → a or_else b ≡ b
next_said a b e = or_next a b (sym e)

faults : List Fault
faults =
    fault.Unfinished ∷ fault.Type ∷ fault.Length ∷ fault.Byte ∷ fault.Stack ∷ fault.Period ∷ fault.Date ∷ fault.Format
    ∷ fault.Range ∷ fault.Missing ∷ fault.HeatRate ∷ fault.So2Rate ∷ fault.NoxRate ∷ fault.Co2Rate
    ∷ fault.So2Tons ∷ fault.Co2Tons ∷ fault.HeatInput ∷ fault.NoxMean ∷ fault.Thousands ∷ fault.IdleHeat ∷ fault.NoxTons ∷ fault.Gas ∷ []

numbered : List Fault → ℕ → Fault
numbered [] number = fault.Unfinished
numbered (f ∷ fs) number = cond (eqb (fault_number f) number) f (numbered fs number)

-- no two faults have one number
found : (f : Fault) → numbered faults (fault_number f) ≡ f
unfolding faults numbered
found fault.Unfinished = refl
found fault.Type = refl
found fault.Length = refl
found fault.Byte = refl
found fault.Stack = refl
found fault.Period = refl
found fault.Date = refl
found fault.Format = refl
found fault.Range = refl
found fault.Missing = refl
found fault.HeatRate = refl
found fault.So2Rate = refl
found fault.NoxRate = refl
found fault.Co2Rate = refl
found fault.So2Tons = refl
found fault.Co2Tons = refl
found fault.HeatInput = refl
found fault.NoxMean = refl
found fault.Thousands = refl
found fault.IdleHeat = refl
found fault.NoxTons = refl
found fault.Gas = refl

pub one_fault : (f g : Fault) → fault_number f ≡ fault_number g → f ≡ g
one_fault f g e = sym (found f) ∙ ap (numbered faults) e ∙ found g

-- the paper's table
pub check_numbers :
    map fault_number
    (fault.Unfinished ∷ fault.Type ∷ fault.Length ∷ fault.Byte ∷ fault.Stack ∷ fault.Period ∷ fault.Date ∷ fault.Format
    ∷ fault.Range ∷ fault.Missing ∷ fault.HeatRate ∷ fault.So2Rate ∷ fault.NoxRate ∷ fault.Co2Rate
    ∷ fault.So2Tons ∷ fault.Co2Tons ∷ fault.HeatInput ∷ fault.NoxMean ∷ fault.Thousands ∷ fault.IdleHeat ∷ fault.NoxTons ∷ fault.Gas ∷ [])
    ≡ 1 ∷ 2 ∷ 3 ∷ 4 ∷ 5 ∷ 6 ∷ 7 ∷ 8 ∷ 9 ∷ 10 ∷ 11 ∷ 12 ∷ 13 ∷ 14 ∷ 21 ∷ 22 ∷ 23 ∷ 24 ∷ 43 ∷ 47 ∷ 48 ∷ 49 ∷ []
check_numbers = refl

pub call_numbers :
    (map write_number (writing.Sheet ∷ writing.Range ∷ writing.Figure ∷ writing.Buffer ∷ []) ≡ 31 ∷ 32 ∷ 33 ∷ 34 ∷ [])
    × (map join_number (joining.Order ∷ joining.Sum ∷ []) ≡ 41 ∷ 42 ∷ [])
    × (map recorder_number (recording.Absent ∷ recording.Unusable ∷ recording.Range ∷ []) ≡ 44 ∷ 45 ∷ 46 ∷ [])
    × (map convert_number (converting.Sheet ∷ converting.Thousands ∷ []) ≡ 31 ∷ 50 ∷ [])
call_numbers = (refl, refl, refl, refl)
