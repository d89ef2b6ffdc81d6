-- Where the runs of a report join: each type starts behind those before it, and the order is those, the type and those behind it.
use Rattle.std.specs.Prelude.{ℕ, suc, ◌+◌, ◌*◌, ◌≤◌, ◌<◌, ◌≡◌, Bool, true, false, cond, eqb, length, take, drop}
use Rattle.std.proofs.Math.Path.{refl, sym, ap}
use Rattle.std.proofs.Common.{◌∙◌, arith, mul-le-mul_left, add-one, drop_at, drop-drop}
use mathlib.Core.List.{List, [], ◌∷◌, ◌++◌}
use Rattle.std.proofs.Math.Seq.{split_at}
use Rattle.exact.specs.Sums.{total_of}
use Rattle.layout.specs.Layout.{joined_runs, code_of, length_of, order, place_of, rank_of, earlier, later, count_of}
use Rattle.layout.specs.Layout.{bytes_of, past, up_to, nothing, front_of, offset_of, report_length}
use Rattle.layout.specs.LayoutLaws.{in_order_lem}
use Rattle.layout.specs.declared.RecordType.{RecordType}
use Rattle.layout.specs.declared.RecordType.TheVariants.{Facility, Co2Mass}
use Rattle.layout.specs.declared.Front.{Front}
use Rattle.layout.specs.declared.Shape.{Shape}

pub order_split : (t : RecordType) → order ≡ earlier t ++ (t ∷ later t)
order_split t =
    let p = in_order_lem t in
    split_at order (rank_of t) Facility p.0
    ∙ rw (add-one (rank_of t)) (ap (λ u. earlier t ++ (u ∷ drop (suc (rank_of t)) order)) p.1)

-- what is counted of the types in front of one is the sum over them
up_to_lem : (count : Front → ℕ) (of : RecordType → ℕ) (s : Shape) → ((b : Front) (t : RecordType) → count (past s b t) ≡ count b + of t) →
    (code : ℕ) (b : Front) (ts : List RecordType) → count (up_to code s b ts) ≡ count b + total_of of (take (place_of code ts) ts)
unfolding total_of
up_to_lem count of s step code b [] = omega arith
up_to_lem count of s step code b (t ∷ ts) = go (eqb (code_of t) code) (up_to_lem count of s step code (past s b t) ts)
  where
    go : (here : Bool) → count (up_to code s (past s b t) ts) ≡ count (past s b t) + total_of of (take (place_of code ts) ts) →
        count (cond here b (up_to code s (past s b t) ts)) ≡ count b + total_of of (take (cond here 0 (suc (place_of code ts))) (t ∷ ts))
    go true e = omega arith
    go false e = omega (arith, e, step b t)

pub front_bytes : (s : Shape) (t : RecordType) → (front_of s t).bytes ≡ total_of (bytes_of s) (earlier t)
front_bytes s t = up_to_lem (λ b. b.bytes) (bytes_of s) s (λ b u. refl) (code_of t) nothing order ∙ omega arith

pub front_lines : (s : Shape) (t : RecordType) → (front_of s t).lines ≡ total_of (count_of s) (earlier t)
front_lines s t = up_to_lem (λ b. b.lines) (count_of s) s (λ b u. refl) (code_of t) nothing order ∙ omega arith

total_append : (f : RecordType → ℕ) (ts us : List RecordType) → total_of f (ts ++ us) ≡ total_of f ts + total_of f us
unfolding total_of
total_append f [] us = omega arith
total_append f (t ∷ ts) us = omega (arith, total_append f ts us)

-- a report: what stands in front of a type, the type's run, and the runs behind it
pub report_around : (s : Shape) (t : RecordType) → report_length s ≡ (front_of s t).bytes + (bytes_of s t + total_of (bytes_of s) (later t))
unfolding report_length total_of
report_around s t =
    ap (total_of (bytes_of s)) (order_split t)
    ∙ total_append (bytes_of s) (earlier t) (t ∷ later t)
    ∙ ap (λ (n : ℕ). n + (bytes_of s t + total_of (bytes_of s) (later t))) (sym (front_bytes s t))

-- the last type ends it
pub report_ends : (s : Shape) → offset_of s Co2Mass s.hours ≡ report_length s
unfolding total_of
report_ends s = omega (arith, report_around s Co2Mass)

-- every line lies in the report
pub line_inside : (s : Shape) (t : RecordType) (k : ℕ) → k < count_of s t → offset_of s t k + length_of t < report_length s
line_inside s t k h =
    let m : (length_of t + 1) * (k + 1) ≤ (length_of t + 1) * count_of s t = mul-le-mul_left (length_of t + 1) (omega arith) in
    omega (arith, report_around s t)

-- a report is the runs of its types, one after the other
module _ (run : RecordType → List ℕ) where
  -- behind the bytes of some types stand the runs of the others
  module _ (s : Shape) (long : (t : RecordType) → length (run t) ≡ bytes_of s t) where
    behind : (ts us : List RecordType) → drop (total_of (bytes_of s) ts) (joined_runs run (ts ++ us)) ≡ joined_runs run us
    unfolding total_of
    behind [] us = refl
    behind (t ∷ ts) us =
        sym (drop-drop (total_of (bytes_of s) ts) (bytes_of s t) (run t ++ joined_runs run (ts ++ us)))
        ∙ ap (drop (total_of (bytes_of s) ts)) (drop_at (run t) (joined_runs run (ts ++ us)) (bytes_of s t) (long t))
        ∙ behind ts us

    -- each type's run starts where the layout has it
    pub run_place : (t : RecordType) → drop (front_of s t).bytes (joined_runs run order) ≡ run t ++ joined_runs run (later t)
    run_place t =
        ap (λ (n : ℕ). drop n (joined_runs run order)) (front_bytes s t)
        ∙ ap (λ (ts : List RecordType). drop (total_of (bytes_of s) (earlier t)) (joined_runs run ts)) (order_split t)
        ∙ behind (earlier t) (t ∷ later t)
