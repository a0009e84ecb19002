use Rattle.std.proofs.Common.{◌-◌, ◌<◌, ◌^◌, length}
use Rattle.words.specs.Words.{ones_from}
use Rattle.words.proofs.KeyLaws.{Writing}
use Rattle.words.proofs.keys.write_ones.Given as goal

abbrev pub invariant-loop-left : goal.invariant-loop-left
invariant-loop-left l = (l.left < 2 ^ 64) × Writing (ones_from l.base 64 l.word) l.to l.fn.keys (ones_from l.base 64 l.left) l.n l.keys

abbrev pub decreases-loop-left : goal.decreases-loop-left
decreases-loop-left l = length l.fn.keys - l.n
