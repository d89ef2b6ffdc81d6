-- With each line, what is left to do against what is due is what the whole was.
use Rattle.std.proofs.Common.{ℕ, ◌+◌, List, ◌++◌, drop, take}
use Rattle.layout.specs.Layout.{order}
use Rattle.layout.specs.declared.RecordType.{RecordType}
use Rattle.lines.specs.LineFaults.{Due}
use Rattle.reading.specs.Reading.{run_of, runs_of}
use Rattle.reading.specs.Places.{hour_lines_in}
use Rattle.reading.proofs.Walking.{Walked}
use Rattle.reading.proofs.walk.walk_runs.Given as goal

-- what is due from a place of the order on, and of a type from a rank on with the types behind it
abbrev pub due_from : List ℕ → ℕ → ℕ → ℕ → List Due
due_from file n end place = runs_of (drop place (take end order)) (hour_lines_in file n)

abbrev pub due_at : List ℕ → ℕ → ℕ → ℕ → RecordType → ℕ → List Due
due_at file n end place t k = drop k (run_of t (hour_lines_in file n)) ++ due_from file n end (place + 1)

abbrev pub invariant-loop-place : goal.invariant-loop-place
invariant-loop-place l = Walked l.file l.n l.fn.start (due_from l.file l.n l.end l.first) l.at l.line (due_from l.file l.n l.end l.place)

abbrev pub invariant-loop-k : goal.invariant-loop-k
invariant-loop-k l =
    Walked l.file l.n (record { line = l.initial.line; at = l.initial.at }) (due_at l.file l.n l.end l.place l.t 0) l.at l.line (due_at l.file l.n l.end l.place l.t l.k)
