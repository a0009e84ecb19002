use Rattle.std.proofs.Common.{◌*◌, drop}
use Rattle.words.specs.Words.{members_from, members}
use Rattle.words.proofs.KeyLaws.{Writing}
use Rattle.words.proofs.keys.to_keys.Given as goal

abbrev pub invariant-loop-p : goal.invariant-loop-p
invariant-loop-p l = Writing (members l.words) 0 l.fn.keys (members_from (64 * l.p) (drop l.p l.words)) l.n l.keys
