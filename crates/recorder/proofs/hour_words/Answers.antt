-- The first fault refuses, and without one each reading has its word.
use Rattle.std.proofs.Common.{◌≡◌, ◌+◌, ◌∙◌, arith}
use Rattle.std.proofs.lemmas.Result.{err_from_is_err_and}
use Rattle.exact.specs.Sums.{total_of}
use Rattle.recorder.specs.Recording.{words_for}
use Rattle.recorder.proofs.RecorderLaws.{some_number, so2_refuses, nox_refuses, co2_refuses, flow_refuses, all_taken, words_made}
use Rattle.recorder.proofs.PromiseLaws.{promised}
use Rattle.recorder.proofs.hour_words.Goals as goal

pub returns-in_err-so2 : goal.returns-in_err-so2
returns-in_err-so2 c =
    let p = err_from_is_err_and c.from_residual.result c.from_residual.ensures.1 in
    rw (p.1, p.2) (promised c.args.h (so2_refuses c.args.h _ (some_number _) c.in_err-so2.ensures))

pub returns-in_err-nox : goal.returns-in_err-nox
returns-in_err-nox c =
    let p = err_from_is_err_and c.from_residual-in_err-nox.result c.from_residual-in_err-nox.ensures.1 in
    rw (p.1, p.2) (promised c.args.h (nox_refuses c.args.h _ (some_number _) c.in_ok-so2.ensures.0 c.in_err-nox.ensures))

pub returns-in_err-co2 : goal.returns-in_err-co2
returns-in_err-co2 c =
    let p = err_from_is_err_and c.from_residual-in_err-co2.result c.from_residual-in_err-co2.ensures.1 in
    rw (p.1, p.2) (promised c.args.h (co2_refuses c.args.h _ (some_number _) c.in_ok-so2.ensures.0 c.in_ok-nox.ensures.0 c.in_err-co2.ensures))

pub returns-in_err-flow : goal.returns-in_err-flow
returns-in_err-flow c =
    let p = err_from_is_err_and c.from_residual-in_err-flow.result c.from_residual-in_err-flow.ensures.1 in
    rw (p.1, p.2)
    (promised c.args.h (flow_refuses c.args.h _ (some_number _) c.in_ok-so2.ensures.0 c.in_ok-nox.ensures.0 c.in_ok-co2.ensures.0 c.in_err-flow.ensures))

pub returns : goal.returns
unfolding total_of
returns c =
    let substituted : c.substituted.result + c.substituted-2.result + c.substituted-3.result + c.substituted-4.result ≡ (words_for c.args.h).substituted =
    omega (arith, c.substituted.ensures.0, c.substituted-2.ensures.0, c.substituted-3.ensures.0, c.substituted-4.ensures.0) in
    promised c.args.h
    (words_made c.args.h
    (c.word_of.ensures ∙ c.in_ok-so2.ensures.2)
    (c.word_of-2.ensures ∙ c.in_ok-nox.ensures.2)
    (c.word_of-3.ensures ∙ c.in_ok-co2.ensures.2)
    (c.word_of-4.ensures ∙ c.in_ok-flow.ensures.2)
    substituted
    (all_taken c.args.h c.in_ok-so2.ensures.0 c.in_ok-nox.ensures.0 c.in_ok-co2.ensures.0 c.in_ok-flow.ensures.0))
