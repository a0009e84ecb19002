-- `words::write::xor_in` meets its contract.
use Rattle.std.proofs.Common.{arith, refl}
use Rattle.words.proofs.LoopLaws.{xored-next, xored_end}
use Rattle.words.proofs.write.xor_in.Goals as goal

pub loop-i-preserved : goal.loop-i-preserved
loop-i-preserved c = xored-next c.loop-i.invariant (omega arith) (omega arith) refl

pub returns : goal.returns
returns c = xored_end c.loop-i.invariant (omega arith)
