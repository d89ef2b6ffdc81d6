-- What stands in front of a type, by kind of run: the coefficients of the counts.
use Rattle.std.specs.Prelude.{ℕ, ◌+◌, ◌*◌, ◌≤◌, ◌≡◌, refl, Bool, true, false, cond, List, [], ◌∷◌, eqb}
use Rattle.std.proofs.Common.{ap, ◌∙◌, arith}
use Rattle.layout.specs.Layout.{record_of, code_of, length_of, lines_of, order, past, up_to, front_of}
use Rattle.layout.specs.LayoutLaws.{each_le}
use Rattle.layout.specs.declared.RecordType.{RecordType}
use Rattle.layout.specs.declared.Run.{Run}
use Rattle.layout.specs.declared.Run.TheVariants.{Once, Hourly, Listed}
use Rattle.layout.specs.declared.Shape.{Shape}
use Rattle.layout.specs.declared.Front.{Front}
use Rattle.layout.specs.declared.Lead.{Lead}

-- lines of their own and their bytes, those of one operating hour, and that of one hour listed
abbrev front_by : (lines bytes : ℕ) → Front
front_by lines bytes = record { lines = lines; bytes = bytes }

abbrev pub lead_by : (lines bytes hour_lines hour_bytes listed_lines listed_bytes : ℕ) → Lead
lead_by lines bytes hour_lines hour_bytes listed_lines listed_bytes =
    record { once = front_by lines bytes; hourly = front_by hour_lines hour_bytes; listed = front_by listed_lines listed_bytes }

-- one line more, of so many bytes
abbrev longer : ℕ → Front → Front
longer size f = record { lines = f.lines + 1; bytes = f.bytes + size }

abbrev add_run : Run → ℕ → Lead → Lead
add_run Once size b = record { once = longer size b.once; hourly = b.hourly; listed = b.listed }
add_run Hourly size b = record { once = b.once; hourly = longer size b.hourly; listed = b.listed }
add_run Listed size b = record { once = b.once; hourly = b.hourly; listed = longer size b.listed }

abbrev lead_to : ℕ → Lead → List RecordType → Lead
lead_to code b [] = b
lead_to code b (t ∷ ts) = cond (eqb (code_of t) code) b (lead_to code (add_run (record_of t).run (length_of t + 1) b) ts)

abbrev none : Lead
none = lead_by 0 0 0 0 0 0

abbrev pub lead_of : RecordType → Lead
lead_of t = lead_to (code_of t) none order

-- in a report of a shape
abbrev pub sized_by : Shape → Lead → Front
sized_by s b = record {
  lines = b.once.lines + b.hourly.lines * s.hours + b.listed.lines * s.operations;
  bytes = b.once.bytes + b.hourly.bytes * s.hours + b.listed.bytes * s.operations;
}

front : (l b m c : ℕ) → l ≡ m → b ≡ c → ◌≡◌ {A = Front} (record { lines = l; bytes = b }) (record { lines = m; bytes = c })
front l b m c e f = cc

add_run_lem : (s : Shape) (b : Lead) (run : Run) (size : ℕ) →
    ◌≡◌ {A = Front} (record { lines = (sized_by s b).lines + lines_of run s; bytes = (sized_by s b).bytes + size * lines_of run s }) (sized_by s (add_run run size b))
add_run_lem s b Once size = front _ _ _ _ (omega arith) (omega arith)
add_run_lem s b Hourly size = front _ _ _ _ (omega arith) (omega arith)
add_run_lem s b Listed size = front _ _ _ _ (omega arith) (omega arith)

lead_to_lem : (code : ℕ) (s : Shape) (b : Lead) (ts : List RecordType) → up_to code s (sized_by s b) ts ≡ sized_by s (lead_to code b ts)
lead_to_lem code s b [] = refl
lead_to_lem code s b (t ∷ ts) =
    go (eqb (code_of t) code) (ap (λ f. up_to code s f ts) (add_run_lem s b (record_of t).run (length_of t + 1))
    ∙ lead_to_lem code s (add_run (record_of t).run (length_of t + 1) b) ts)
  where
    go : (here : Bool) → up_to code s (past s (sized_by s b) t) ts ≡ sized_by s (lead_to code (add_run (record_of t).run (length_of t + 1) b) ts) →
        cond here (sized_by s b) (up_to code s (past s (sized_by s b) t) ts) ≡ sized_by s
        (cond here b (lead_to code (add_run (record_of t).run (length_of t + 1) b) ts))
    go true e = refl
    go false e = e

pub lead_front : (s : Shape) (t : RecordType) → front_of s t ≡ sized_by s (lead_of t)
lead_front s t =
    ap (λ f. up_to (code_of t) s f order) (front _ _ _ _ (omega arith) (omega arith))
    ∙ lead_to_lem (code_of t) s none order

pub record Small (b : Lead) : Type 0 where
  pub lines : b.once.lines ≤ 1000
  pub bytes : b.once.bytes ≤ 1000
  pub hour_lines : b.hourly.lines ≤ 1000
  pub hour_bytes : b.hourly.bytes ≤ 1000
  pub listed_lines : b.listed.lines ≤ 1000
  pub listed_bytes : b.listed.bytes ≤ 1000

pub lead_small : (t : RecordType) → Small (lead_of t)
lead_small t = record {
  lines = each_le (λ t. (lead_of t).once.lines) (λ t. 1000) refl t;
  bytes = each_le (λ t. (lead_of t).once.bytes) (λ t. 1000) refl t;
  hour_lines = each_le (λ t. (lead_of t).hourly.lines) (λ t. 1000) refl t;
  hour_bytes = each_le (λ t. (lead_of t).hourly.bytes) (λ t. 1000) refl t;
  listed_lines = each_le (λ t. (lead_of t).listed.lines) (λ t. 1000) refl t;
  listed_bytes = each_le (λ t. (lead_of t).listed.bytes) (λ t. 1000) refl t;
}
