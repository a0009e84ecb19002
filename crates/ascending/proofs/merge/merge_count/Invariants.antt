use Rattle.std.proofs.Common.{length, ◌+◌, ◌-◌, map}
use Rattle.ascending.specs.Steps.{Heads}
use Rattle.ascending.proofs.merge.merge_count.Given as goal

abbrev pub invariant-loop-x : goal.invariant-loop-x
invariant-loop-x g l =
    let value = g.T.Number.value in
    Heads l.kept (map value l.a) (map value l.b) l.at

abbrev pub decreases-loop-x : goal.decreases-loop-x
decreases-loop-x g l = length l.a + length l.b - (l.at.left + l.at.right)
