-- Judging the sets that a call names. Document 01: "Checked in the order 1, 2, ..; inside 1 and 2 the target first, then the
-- operands." BitSet and SortedVecSet are judged so. Assumes nothing.
use Rattle.std.specs.Prelude.{Bool, List, [], ◌∷◌, ℕ, min, eqb}
use Rattle.words.specs.Sets.{pick}

-- what is found of one set: whether its lent length is in range, and whether header and buffer are sound
pub record Judged : Type 0 where
  pub in_range : Bool
  pub sound : Bool

-- 1 where a set's length is out of range, the target's first; else what comes next
unfoldable pub ranged : List Judged → ℕ → ℕ
ranged [] next = next
ranged (s ∷ sets) next = pick s.in_range (ranged sets next) 1

-- 2 where a set is not sound, the target first; else what comes next
unfoldable pub sounded : List Judged → ℕ → ℕ
sounded [] next = next
sounded (s ∷ sets) next = pick s.sound (sounded sets next) 2

-- the number that the sets of a call are refused with; 0 where they are not
unfoldable pub verdict : List Judged → ℕ
unfolding ranged sounded
verdict sets = ranged sets (sounded sets 0)

-- of two numbers that refuse, the one that is checked first; 0 refuses nothing
unfoldable pub earlier : ℕ → ℕ → ℕ
earlier m n = pick (eqb m 0) n (pick (eqb n 0) m (min m n))
