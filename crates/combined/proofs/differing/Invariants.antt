use Rattle.std.proofs.Common.{length}
use Rattle.words.specs.Words.{xors}
use Rattle.words.proofs.LoopLaws.{Clear}
use Rattle.combined.proofs.differing.Given as goal

-- from the end on the rows are the same
abbrev pub invariant-loop-end : goal.invariant-loop-end
invariant-loop-end l = Clear (xors l.a l.b) (length l.a) l.end

abbrev pub decreases-loop-end : goal.decreases-loop-end
decreases-loop-end l = l.end
