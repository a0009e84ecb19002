use Rattle.std.proofs.Common.{◌≡◌, drop}
use Rattle.words.specs.Words.{flips}
use Rattle.bitset.proofs.indices.flip.Given as goal

abbrev pub invariant-loop-index : goal.invariant-loop-index
invariant-loop-index l = flips l.words (drop l.index-index l.indices) ≡ flips l.fn.words l.indices
