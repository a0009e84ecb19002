use Rattle.std.proofs.Common.{arith}
use Rattle.std.proofs.lemmas.List.{take_rest}
use Rattle.ascending.proofs.MergingLaws.{headed-end}
use Rattle.ascending.proofs.merge.merge.Goals as goal

pub returns : goal.returns
returns g c =
    let n = g.met.T.Number in
    let first = simp take_rest at c.append-n.ensures in
    let second = simp take_rest at c.append.ensures in
    simp n.each (headed-end g.T.Number.value _ _ c.merge_heads-at.new.out (simp n.each at c.merge_heads-at.ensures) (omega arith) first.0 first.1 second.0 second.1)
