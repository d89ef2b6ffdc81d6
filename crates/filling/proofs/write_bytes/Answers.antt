use Rattle.std.proofs.Common.{◌≡◌, ◌+◌, ◌-◌, length, get_or, set, sym, ap, ◌∙◌, add-one, arith}
use lib.Seq.{paste, paste-zero, paste-suc}
use Rattle.filling.proofs.Fields.{put_copied}
use Rattle.filling.proofs.write_bytes.Goals as goal

pub loop-i-init : goal.loop-i-init
loop-i-init c = paste-zero c.args.line.now (c.args.start - 1) c.args.bytes.now

pub loop-i-preserved : goal.loop-i-preserved
loop-i-preserved c =
    let x = c.args in
    let l = c.loop-i in
    let k = x.start - 1 in
    ap (λ z. set z (k + l.i) (get_or x.bytes.now l.i 0)) l.invariant
    ∙ paste-suc x.line.now k x.bytes.now l.i 0 (omega arith) (omega arith)
    ∙ ap (paste x.line.now k x.bytes.now) (sym (add-one l.i))

pub returns : goal.returns
returns c =
    let x = c.args in
    let e : c.loop-i.i ≡ length x.bytes.now = omega arith in
    c.loop-i.invariant ∙ ap (paste x.line.now (x.start - 1) x.bytes.now) e ∙ put_copied x.start x.line.now x.bytes.now
