use Rattle.words.proofs.LoopLaws.{Xored}
use Rattle.words.proofs.write.xor_in.Given as goal

abbrev pub invariant-loop-i : goal.invariant-loop-i
invariant-loop-i l = Xored 0 l.a l.fn.words l.words l.i
