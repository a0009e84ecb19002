use Rattle.std.proofs.Common.{length, ◌+◌, ◌-◌, map}
use Rattle.ascending.proofs.MergingLaws.{Heading}
use Rattle.ascending.proofs.merge.merge_heads.Given as goal

abbrev pub invariant-loop-x : goal.invariant-loop-x
invariant-loop-x g l =
    let value = g.T.Number.value in
    Heading l.kept (map value l.a) (map value l.b) l.at (map value l.out)

abbrev pub decreases-loop-x : goal.decreases-loop-x
decreases-loop-x g l = length l.a + length l.b - (l.at.left + l.at.right)
