use Rattle.std.proofs.Common.{◌≡◌, ◌<◌, drop}
use Rattle.outside.specs.Numbers.{adler_of}
use Rattle.outside.proofs.bytes_of.words_adler.Given as goal

abbrev pub invariant-loop-word : goal.invariant-loop-word
invariant-loop-word l = record {
  a : l.sums.a < 65521;
  b : l.sums.b < 65521;
  sum : adler_of l.sums.a l.sums.b (drop l.word-index l.words) ≡ adler_of 1 0 l.words;
}
