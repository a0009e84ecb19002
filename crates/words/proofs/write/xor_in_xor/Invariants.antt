use Rattle.words.specs.Words.{xors}
use Rattle.words.proofs.LoopLaws.{Xored}
use Rattle.words.proofs.write.xor_in_xor.Given as goal

abbrev pub invariant-loop-i : goal.invariant-loop-i
invariant-loop-i l = Xored 0 (xors l.a l.b) l.fn.words l.words l.i
