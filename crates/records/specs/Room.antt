-- What the functions that write lines may rely on.
use Rattle.std.specs.Prelude.{ℕ, ◌≤◌, ◌<◌, ◌≡◌, List, length}
use Rattle.layout.specs.Layout.{stack_width, Held, report_length}
use Rattle.layout.specs.declared.Shape.{Shape}

-- an hour of a report that a buffer has room for
pub record HourFits (s : Shape) (k : ℕ) (name buffer : List ℕ) : Type 0 where
  pub rank : k < s.hours
  pub listed : k < s.operations
  pub held : Held s
  pub named : length name ≡ stack_width
  pub room : report_length s ≤ length buffer
