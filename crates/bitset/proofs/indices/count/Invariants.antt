use Rattle.std.proofs.Common.{◌≡◌, ◌+◌, ◌≤◌, length, drop}
use Rattle.words.specs.Words.{at}
use Rattle.bitset.specs.Rules.{entries}
use Rattle.bitset.proofs.indices.count.Given as goal

-- the entries so far, and those that are left; there are no more than indices that the loop has passed
abbrev pub invariant-loop-index : goal.invariant-loop-index
invariant-loop-index l =
    (l.n + length (entries (at l.words) (drop l.index-index l.indices)) ≡ length (entries (at l.words) l.indices))
    × (l.n ≤ l.index-index)
