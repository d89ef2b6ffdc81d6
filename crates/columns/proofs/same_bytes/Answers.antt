use Rattle.std.proofs.Common.{◌≡◌, ◌&&◌, nat_eq, [], ◌∷◌, true, sym, refl, ap, ◌∙◌, rules, tests}
use Rattle.std.specs.List.{fold, zip}
use Rattle.std.proofs.iter.Yields.{fronts}
use Rattle.std.proofs.lemmas.Fn.{fold_over}
use Rattle.std.proofs.lemmas.Iterator.{zips, YieldsList-from_slice, YieldsList-from_zip}
use Rattle.std.proofs.lemmas.List.Sums.{fold-append}
use Rattle.columns.proofs.Reading.{with_pair, same_folded}
use Rattle.columns.proofs.same_bytes.Goals as goal

pub returns-then-a-b : goal.returns-then-a-b
returns-then-a-b c =
    let pairs = YieldsList-from_zip {s = c.zip.result} (YieldsList-from_slice c.args.a.now (cc)) (YieldsList-from_slice c.args.b.now c.zip.ensures.second.0) in
    let e : c.fold.result ≡ fold with_pair true (zip c.args.a.now c.args.b.now) =
    fold_over (zips fronts fronts) (λ p. (p.0.now, p.1.now)) _ (λ ys r. r ≡ fold with_pair true ys) _
    (λ ys a x b f j k.
    let w : (b ≡ (a && nat_eq x.0.now x.1.now)) × (f ≡ record {}) = search (rules, tests) in
    (w.0 ∙ ap (λ t. t && nat_eq x.0.now x.1.now) j ∙ sym (fold-append with_pair true ys ((x.0.now, x.1.now) ∷ [])), w.1))
    c.zip.result _ true c.fold.result pairs.runs refl c.fold.ensures.ran in
    same_folded _ _ _ c.if-a-b.true e
