use Rattle.std.proofs.Common.{◌≡◌, drop}
use Rattle.words.specs.Words.{at, flips}
use Rattle.bitset.specs.Rules.{entries}
use Rattle.bitset.proofs.indices.flip_shared.Given as goal

abbrev pub invariant-loop-index : goal.invariant-loop-index
invariant-loop-index l =
    flips l.words (entries (at l.other) (drop l.index-index l.indices)) ≡ flips l.fn.words (entries (at l.other) l.indices)
