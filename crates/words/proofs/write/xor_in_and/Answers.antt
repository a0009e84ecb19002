-- `words::write::xor_in_and` meets its contract.
use Rattle.std.proofs.Common.{arith}
use Rattle.words.proofs.RowLaws.{length-ands, get_or-ands}
use Rattle.words.proofs.LoopLaws.{xored-next, xored_end}
use Rattle.words.proofs.write.xor_in_and.Goals as goal

pub loop-i-preserved : goal.loop-i-preserved
loop-i-preserved c = xored-next c.loop-i.invariant (omega arith) (simp length-ands (omega arith)) (get_or-ands _ _ _)

pub returns : goal.returns
returns c = xored_end c.loop-i.invariant (simp length-ands (omega arith))
