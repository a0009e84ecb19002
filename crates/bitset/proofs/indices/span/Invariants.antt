use Rattle.std.proofs.Common.{◌≡◌, drop}
use Rattle.bitset.specs.Steps.{reached}
use Rattle.bitset.proofs.indices.span.Given as goal

abbrev pub invariant-loop-index : goal.invariant-loop-index
invariant-loop-index l = reached l.reach (drop l.index-index l.indices) ≡ reached l.fn.span l.indices
