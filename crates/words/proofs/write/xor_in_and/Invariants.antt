use Rattle.words.specs.Words.{ands}
use Rattle.words.proofs.LoopLaws.{Xored}
use Rattle.words.proofs.write.xor_in_and.Given as goal

abbrev pub invariant-loop-i : goal.invariant-loop-i
invariant-loop-i l = Xored 0 (ands l.a l.b) l.fn.words l.words l.i
