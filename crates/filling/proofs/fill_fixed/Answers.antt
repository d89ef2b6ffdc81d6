use Rattle.std.proofs.Common.{◌≡◌, ℕ, ◌+◌, ◌-◌, ◌/◌, ◌^◌, ◌≤◌, List, ◌++◌, length, length-set, take, drop, set, ap, ◌∙◌, arith}
use Rattle.std.specs.Prelude.{min}
use lib.ListN.{length-take}
use borrow.Rule.Slice.PartMut.{put_mid}
use Rattle.columns.specs.Number.{point_in}
use Rattle.columns.specs.Written.{digits_of, whole_written, fixed_written}
use Rattle.filling.proofs.Fields.{decimals_length, fixed_filled}
use Rattle.filling.proofs.fill_fixed.Goals as goal

-- the whole part and the decimals, as they were filled in
joined : (l : List ℕ) (d v : ℕ) {ws ds : List ℕ} → d + 2 ≤ length l → ws ≡ whole_written (point_in l d) (v / 10 ^ d) → ds ≡ digits_of d v →
    ws ++ drop (point_in l d) (set (put_mid (point_in l d + 1) (length l - (point_in l d + 1)) l ds) (point_in l d) 46) ≡ fixed_written (length l) d v
joined l d v h w e = rw (w, e) (fixed_filled l d v h)

pub returns : goal.returns
returns c =
    let l = c.args.field.now in
    let d = c.args.decimals in
    let v = c.args.value in
    let decimals = c.fill_digits-whole in
    let n : length (take (length l - (point_in l d + 1)) (drop (point_in l d + 1) l)) ≡ d = decimals_length l d v (omega arith) in
    let e : decimals.new.field ≡ digits_of d v = decimals.ensures.0 ∙ ap (λ k. digits_of k v) n in
    let r : decimals.result ≡ v / 10 ^ d = decimals.ensures.1 ∙ ap (λ k. v / 10 ^ k) n in
    let m : length (put_mid (point_in l d + 1) (length l - (point_in l d + 1)) l decimals.new.field) ≡ length l = omega arith in
    let p : min (point_in l d) (length l) ≡ point_in l d = omega arith in
    let w : c.fill_whole.new.field ≡ whole_written (point_in l d) (v / 10 ^ d) =
    (simp (length-take, length-set, m, p) at c.fill_whole.ensures) ∙ ap (whole_written (point_in l d)) r in
    joined l d v (omega arith) w e
