-- Demand 3 over lists of calls on one set: members moved between words and keys, and flips asked for. Both are read off states and
-- operands. Assumes nothing.
use Rattle.std.specs.Bool.{xor}
use Rattle.std.specs.Prelude.{List, [], ◌∷◌, ℕ, ◌+◌, ◌*◌, eqb, length}
use Rattle.words.specs.Sets.{pick}
use Rattle.adaptive_rules.specs.States.{State, count, is_sparse}
use Rattle.adaptive_rules.specs.Rules.{shared, unshared}
use Rattle.adaptive_rules.specs.Bytes.{Bytes, view}
use Rattle.adaptive_rules.specs.Calls.{Call, inserting, removing, toggling, containing, counting, emptiness, clearing, spreading, xoring, counting_shared, xoring_shared, xoring_unshared, viewed, result_of}

-- "For each call that finds the set sparse and leaves it dense, or the reverse (clear included), add the members before it and
-- after it"
unfoldable pub moved : State → State → ℕ
moved s t = pick (xor (is_sparse s) (is_sparse t)) (count s + count t) 0

-- "the flips asked for: one for each served insert, remove or toggle, and for each served XOR the number of members in its operand"
unfoldable pub flips : Call State → State → ℕ
flips (inserting i) s = 1
flips (removing i) s = 1
flips (toggling i) s = 1
flips (containing i) s = 0
flips counting s = 0
flips emptiness s = 0
flips clearing s = 0
flips spreading s = 0
flips (xoring o) s = count o
flips (counting_shared o) s = 0
flips (xoring_shared o p) s = length (shared s o p).members
flips (xoring_unshared o p) s = length (unshared s o p).members

-- "Take any sequence of calls on one set": the members moved by all of them, and the flips of those that are served
unfoldable pub moved_by : List (Call Bytes) → Bytes → ℕ
moved_by [] b = 0
moved_by (c ∷ calls) b = let after = (result_of c b).bytes in moved (view b) (view after) + moved_by calls after

unfoldable pub flips_of : List (Call Bytes) → Bytes → ℕ
flips_of [] b = 0
flips_of (c ∷ calls) b =
    let o = result_of c b in pick (eqb o.answer.number 0) (flips (viewed c) (view b)) 0 + flips_of calls o.bytes

-- the bytes after a sequence
unfoldable pub after : List (Call Bytes) → Bytes → Bytes
after [] b = b
after (c ∷ calls) b = after calls (result_of c b).bytes

-- what a state may still have to pay for: three times its members when dense, its members when sparse
unfoldable pub potential : State → ℕ
potential s = pick (is_sparse s) (count s) (3 * count s)
