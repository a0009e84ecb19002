use Rattle.std.proofs.Common.{◌-◌, rules, arith}
use Rattle.std.proofs.lemmas.List.{length-map}
use Rattle.ascending.proofs.ValueLaws.{value-at}
use Rattle.ascending.proofs.OrderLaws.{ordered_begin, ordered-next, ordered_end, not-above}
use Rattle.ascending.proofs.scan.ascending.Goals as goal

pub loop-i-init : goal.loop-i-init
loop-i-init g c = ordered_begin _

pub loop-i-preserved : goal.loop-i-preserved
loop-i-preserved g c =
    let value = g.T.Number.value in
    let here = value-at value _ _ _ c.loop-i-test.true c.index-row-i.is in
    let before = value-at value c.args.row.now (c.loop-i.i - 1) _ (omega arith) c.index-row-i-in-loop-i.is in
    ordered-next c.loop-i.invariant (rw length-map c.loop-i-test.true) (rw (here, before, ← not-above _ _) (search rules))

pub returns : goal.returns
returns g c = rw g.met.T.Number.each (ordered_end c.loop-i.invariant (rw length-map c.loop-i-test.false))
