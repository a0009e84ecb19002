use Rattle.std.proofs.Common.{◌≡◌, drop}
use Rattle.words.specs.Words.{at}
use Rattle.bitset.specs.Rules.{entries}
use Rattle.bitset.specs.Steps.{reached}
use Rattle.bitset.proofs.indices.span_shared.Given as goal

abbrev pub invariant-loop-index : goal.invariant-loop-index
invariant-loop-index l =
    reached l.reach (entries (at l.other) (drop l.index-index l.indices)) ≡ reached l.fn.span (entries (at l.other) l.indices)
