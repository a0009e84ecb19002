-- `words::write::xor_in_xor` meets its contract.
use Rattle.std.proofs.Common.{arith, ◌≡◌}
use Rattle.words.proofs.RowLaws.{length-xors, get_or-xors}
use Rattle.words.proofs.LoopLaws.{xored-next, xored_rests, into_rest}
use Rattle.words.proofs.write.xor_in_xor.Goals as goal

pub loop-i-preserved : goal.loop-i-preserved
loop-i-preserved c = xored-next c.loop-i.invariant (omega arith) (simp length-xors (omega arith)) (get_or-xors _ _ _)

pub returns : goal.returns
returns c =
    let end : c.loop-i.i ≡ c.min-k.result = omega arith in
    xored_rests c.args.a.now c.args.b.now (rw end at c.loop-i.invariant) (into_rest _ _ _ c.xor_in.ensures) (into_rest _ _ _ c.xor_in-2.ensures)
