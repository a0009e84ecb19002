-- BitSet as document 01 has it: a state is a span and members below 64 times it. "Insert and toggle extend the span; so do
-- the XORs, to the operand's span, to the smaller (fused intersection) or larger (fused symmetric difference) of two, or to
-- each index flipped (slice forms)." Assumes nothing.
use Rattle.std.specs.Prelude.{Bool, ◌&&◌, List, [], ◌∷◌, ℕ, ◌+◌, ◌*◌, ◌/◌, ◌≤◌, min, max, eqb}
use Rattle.words.specs.Sets.{keep, Ascending, Below, same, insert, remove, toggle, difference, intersection}

pub record State : Type 0 where
  pub span : ℕ
  pub members : List ℕ

-- a state is a span and members below 64 times it; in W words a span of at most W has room
pub record Lawful (W : ℕ) (s : State) : Type 0 where
  pub ascending : Ascending s.members
  pub below : Below (64 * s.span) s.members
  pub within : s.span ≤ W

-- the span that holds index i too
unfoldable pub reaching : ℕ → State → ℕ
reaching i s = max s.span (i / 64 + 1)

unfoldable pub inserted : ℕ → State → State
unfolding reaching
inserted i s = record { span = reaching i s; members = insert i s.members }

unfoldable pub toggled : ℕ → State → State
unfolding reaching
toggled i s = record { span = reaching i s; members = toggle i s.members }

-- past the span nothing is there to be removed, and the span stays
unfoldable pub removed : ℕ → State → State
removed i s = record { span = s.span; members = remove i s.members }

-- "`clear` (keeps the span)"
unfoldable pub cleared : State → State
cleared s = record { span = s.span; members = [] }

-- XOR with an operand
unfoldable pub xored : State → State → State
xored s o = record { span = max s.span o.span; members = difference s.members o.members }

-- the operand of the fused intersection, and that of the fused symmetric difference
unfoldable pub shared : State → State → State
shared o p = record { span = min o.span p.span; members = intersection o.members p.members }

unfoldable pub unshared : State → State → State
unshared o p = record { span = max o.span p.span; members = difference o.members p.members }

-- a list of indices, flipped one after another
unfoldable pub flipped : List ℕ → State → State
unfolding toggled
flipped [] s = s
flipped (i ∷ l) s = flipped l (toggled i s)

-- the entries of a list that a test takes, each as often as it stands there
unfoldable pub entries : (ℕ → Bool) → List ℕ → List ℕ
entries takes [] = []
entries takes (i ∷ l) = keep (takes i) i (entries takes l)

-- "Equality compares span as well as words: equal members with other trailing zeros are unequal."
unfoldable pub equal : State → State → Bool
unfolding same
equal s o = eqb s.span o.span && same s.members o.members
