use Rattle.std.proofs.Common.{arith, ◌∙◌}
use Rattle.std.proofs.lemmas.Grind.{common_steps}
use Rattle.std.proofs.lemmas.Iterator.Consumers.{YieldsList-at, YieldsList-end}
use mathlib.Core.List.{map-id}
use Rattle.words.proofs.RowLaws.{count_none, count-append, count-le}
use Rattle.combined.proofs.count_with.Goals as goal

pub loop-w-init : goal.loop-w-init
loop-w-init g c = grind (arith, common_steps, count_none)

pub overflow_add-n : goal.overflow_add-n
overflow_add-n g c = grind (arith, common_steps, count-le)

pub loop-w-preserved : goal.loop-w-preserved
loop-w-preserved g c = grind (arith, common_steps, count-append, count-le)

pub returns : goal.returns
returns g c = λ ws tail e r.
    let all = (YieldsList-end (YieldsList-at c.into_iter-w-iterator.ensures.into_iter_gives e) _ _ c.loop-w.yielded_by _ _ c.in-None.is c.next.ensures.steps).0 in
    c.loop-w.invariant.2 ∙ rw (count-append ws tail, ← r, ← all, map-id c.loop-w.yielded)
