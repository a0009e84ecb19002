use Rattle.std.proofs.Common.{◌≡◌, drop}
use Rattle.words.specs.Words.{flips}
use Rattle.words.proofs.keys.flip_keys.Given as goal

abbrev pub invariant-loop-key : goal.invariant-loop-key
invariant-loop-key l = flips l.words (drop l.key-index l.keys) ≡ flips l.fn.words l.keys
