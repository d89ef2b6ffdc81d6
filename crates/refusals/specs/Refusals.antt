-- The paper's numbers: of each refusal, and of what a call returns. Definitions of answers speak of numbers.
use Rattle.std.specs.Prelude.{ℕ, Result, Ok, Err}
use Rattle.refusals.specs.declared.Fault.{Fault}
use Rattle.refusals.specs.declared.Fault.TheVariants as fault
use Rattle.refusals.specs.declared.Refusal.{Refusal}
use Rattle.refusals.specs.declared.PaperRefusal.{PaperRefusal}
use Rattle.refusals.specs.declared.WriteRefusal.{WriteRefusal}
use Rattle.refusals.specs.declared.WriteRefusal.TheVariants as writing
use Rattle.refusals.specs.declared.JoinRefusal.{JoinRefusal}
use Rattle.refusals.specs.declared.JoinRefusal.TheVariants as joining
use Rattle.refusals.specs.declared.RecorderRefusal.{RecorderRefusal}
use Rattle.refusals.specs.declared.RecorderRefusal.TheVariants as recording
use Rattle.refusals.specs.declared.ConvertRefusal.{ConvertRefusal}
use Rattle.refusals.specs.declared.ConvertRefusal.TheVariants as converting

abbrev pub fault_number : Fault → ℕ
fault_number fault.Unfinished = 1
fault_number fault.Type = 2
fault_number fault.Length = 3
fault_number fault.Byte = 4
fault_number fault.Stack = 5
fault_number fault.Period = 6
fault_number fault.Date = 7
fault_number fault.Format = 8
fault_number fault.Range = 9
fault_number fault.Missing = 10
fault_number fault.HeatRate = 11
fault_number fault.So2Rate = 12
fault_number fault.NoxRate = 13
fault_number fault.Co2Rate = 14
fault_number fault.So2Tons = 21
fault_number fault.Co2Tons = 22
fault_number fault.HeatInput = 23
fault_number fault.NoxMean = 24
fault_number fault.Thousands = 43
fault_number fault.IdleHeat = 47
fault_number fault.NoxTons = 48
fault_number fault.Gas = 49

abbrev pub write_number : WriteRefusal → ℕ
write_number writing.Sheet = 31
write_number writing.Range = 32
write_number writing.Figure = 33
write_number writing.Buffer = 34

abbrev pub join_number : JoinRefusal → ℕ
join_number joining.Order = 41
join_number joining.Sum = 42

abbrev pub recorder_number : RecorderRefusal → ℕ
recorder_number recording.Absent = 44
recorder_number recording.Unusable = 45
recorder_number recording.Range = 46

abbrev pub convert_number : ConvertRefusal → ℕ
convert_number converting.Sheet = 31
convert_number converting.Thousands = 50

-- of a line, or of the whole file, line 0
abbrev pub refusal_at : ℕ → Fault → Refusal
refusal_at line fault = record { fault = fault; line = line }

-- a refusal of a file as the paper has it: its number, and its line
abbrev pub on_paper : Refusal → PaperRefusal
on_paper r = record { number = fault_number r.fault; line = r.line }

-- what a call returns, with the paper's word for what refuses it
abbrev pub told : {A E N : Type 0} → (E → N) → Result A E → Result A N
told name (Ok a) = Ok a
told name (Err e) = Err (name e)

-- the number of what refuses it; 0 where nothing does
abbrev pub fault_in : {A E : Type 0} → (E → ℕ) → Result A E → ℕ
fault_in number (Ok a) = 0
fault_in number (Err e) = number e
