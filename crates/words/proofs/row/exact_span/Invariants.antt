use Rattle.std.proofs.Common.{length}
use Rattle.words.proofs.LoopLaws.{Clear}
use Rattle.words.proofs.row.exact_span.Given as goal

-- behind the end there is nothing but 0
abbrev pub invariant-loop-end : goal.invariant-loop-end
invariant-loop-end l = Clear l.words (length l.words) l.end

abbrev pub decreases-loop-end : goal.decreases-loop-end
decreases-loop-end l = l.end
