-- What the contracts of the inner functions cite besides. Assumes nothing.
use Rattle.std.specs.Prelude.{List, ℕ}
use Rattle.words.specs.Sets.{difference}
use Rattle.sorted_vec_set.specs.Calls.{Bytes, Outcome, members, result}

-- a sound set that is to hold these members
unfoldable pub holding : List ℕ → Bytes → Outcome
holding l b = result 0 b 0 l

-- a sound set XORed with ascending elements
unfoldable pub flipping : List ℕ → Bytes → Outcome
unfolding holding
flipping l b = holding (difference (members b) l) b
