use Rattle.std.proofs.Common.{◌≡◌, ◌<◌, drop}
use Rattle.outside.specs.Numbers.{adler_of}
use Rattle.outside.proofs.bytes_of.adler.Given as goal

abbrev pub invariant-loop-byte : goal.invariant-loop-byte
invariant-loop-byte l = record {
  a : l.sums.a < 65521;
  b : l.sums.b < 65521;
  sum : adler_of l.sums.a l.sums.b (drop l.byte-index l.bytes) ≡ adler_of 1 0 l.bytes;
}
