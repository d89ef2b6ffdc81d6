use Rattle.std.proofs.Common.{◌≡◌, ◌+◌, ℕ, List, [], ◌∷◌, length, get_or, sym, ap, ◌∙◌, arith}
use Rattle.columns.specs.Columns.{put}
use Rattle.printing.specs.Printed.{spaced}
use Rattle.printing.proofs.Lines.{left_from, left_none, left_length, left_put, line_length_lem, line_put}
use Rattle.printing.proofs.print_line.Goals as goal

pub loop-number-preserved : goal.loop-number-preserved
loop-number-preserved c =
    let numbers = c.args.numbers.now in
    let l = c.loop-number in
    let p = c.print_number-column in
    let v = get_or numbers l.number-index 0 in
    let here = c.loop-number-test.true in (
      omega arith,
      omega arith,
      omega arith,
      omega (arith, left_length numbers l.number-index here),
      ap (λ (n : ℕ). put n (left_from (l.number-index + 1) numbers) p.new.line) p.ensures.0
          ∙ ap (put (l.column + length (spaced v)) (left_from (l.number-index + 1) numbers)) p.ensures.2
          ∙ left_put numbers l.number-index l.column l.line here (omega arith) (omega arith)
          ∙ l.invariant.4,
    )

pub returns : goal.returns
returns c =
    let x = c.args in
    let l = c.loop-number in
    let none : left_from l.number-index x.numbers.now ≡ 10 ∷ [] = left_none x.numbers.now l.number-index c.loop-number-test.false in (
      omega (arith, ap length none, line_length_lem x.word.now x.numbers.now),
      omega arith,
      c.write_bytes-2.ensures
          ∙ ap (λ (bs : List ℕ). put l.column bs l.line) (sym none)
          ∙ l.invariant.4
          ∙ ap (put (1 + length x.word.now) (left_from 0 x.numbers.now)) c.write_bytes.ensures
          ∙ line_put x.word.now x.numbers.now x.line.now (omega arith),
    )
