-- The words before the i-th are those of the bytes.
use Rattle.std.proofs.Common.{◌≡◌, take}
use Rattle.outside.specs.Numbers.{words_of}
use Rattle.outside.proofs.bytes_of.read_words.Given as goal

abbrev pub invariant-loop-i : goal.invariant-loop-i
invariant-loop-i l = take l.i l.sheet ≡ words_of l.i l.bytes
