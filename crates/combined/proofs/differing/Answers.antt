use Rattle.std.proofs.Common.{arith}
use Rattle.words.proofs.RowLaws.{get_or-xors, length-xors}
use Rattle.words.proofs.LoopLaws.{clear_begin, clear-four}
use Rattle.combined.proofs.differing.Goals as goal

pub loop-end-init : goal.loop-end-init
loop-end-init c = clear_begin (omega (arith, length-xors c.args.a.now c.args.b.now, c.requires))

pub loop-end-preserved : goal.loop-end-preserved
loop-end-preserved c =
    clear-four c.loop-end.invariant c.loop-end-test.true
    (simp get_or-xors c.if-a-end-eq0.true)
