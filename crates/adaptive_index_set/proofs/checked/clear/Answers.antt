use Rattle.std.proofs.Common.{ap, arith}
use Rattle.words.proofs.RowLaws.{zeros-is}
use Rattle.adaptive_rules.specs.Rules.{cleared}
use Rattle.adaptive_index_set.proofs.Calls.{all_zero, cleared_left}
use Rattle.adaptive_index_set.proofs.Stored.{stored}
use Rattle.adaptive_index_set.proofs.checked.clear.Goals as goal

pub returns-in-Narrow : goal.returns-in-Narrow
unfolding cleared
returns-in-Narrow c =
    let x = stored _ _ _ c.requires c.from.ensures c.in-Narrow.is in
    rw c.narrow.ensures
    (cleared_left _ _ _ c.requires (ap cleared x.view) x.low
    (all_zero _ _ _ (c.fill.ensures.after (λ y e. e)) x.past) (zeros-is _ x.keys))

pub returns-in-Wide : goal.returns-in-Wide
unfolding cleared
returns-in-Wide c =
    let x = stored _ _ _ c.requires c.from.ensures c.in-Wide.is in
    rw c.narrow-in-Wide.ensures
    (cleared_left _ _ _ c.requires (ap cleared x.view) (omega arith)
    (all_zero _ _ _ (c.fill-in-Wide.ensures.after (λ y e. e)) x.past) (zeros-is _ x.keys))

pub returns-in-Sparse : goal.returns-in-Sparse
unfolding cleared
returns-in-Sparse c =
    let x = stored _ _ _ c.requires c.from.ensures c.in-Sparse.is in
    rw c.narrow-in-Sparse.ensures
    (cleared_left _ _ _ c.requires (ap cleared x.view) (omega arith) (zeros-is _ x.words)
    (all_zero _ _ _ (c.fill-in-Sparse.ensures.after (λ y e. e)) x.past))
