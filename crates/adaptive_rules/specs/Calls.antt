-- The adaptive set's calls and their numbers: what each gives and does on states, and what it leaves on bytes. The refusals stand
-- in a list in document 01's order, of which the first is given with its value. Assumes nothing.
use Rattle.std.specs.Prelude.{not, List, [], ◌∷◌, ◌++◌, map, ℕ, ◌*◌, ◌/◌, eqb, leb, length}
use Rattle.words.specs.Sets.{pick, has, intersection}
use Rattle.answers.specs.Answers.{Answer, truth}
use Rattle.adaptive_rules.specs.States.{State, narrow, wide, sparse, members, count, span, prepared}
use Rattle.adaptive_rules.specs.Rules.{inserted, removed, toggled, cleared, alone, shared, unshared, xored}
use Rattle.adaptive_rules.specs.Bytes.{Bytes, in_range, sound, view, encode}

-- a call, with operands of the kind O: states, or bytes
pub data Call (O : Type 0) : Type 0 where
  inserting removing toggling containing : ℕ → Call O
  counting emptiness clearing spreading : Call O
  xoring counting_shared : O → Call O
  xoring_shared xoring_unshared : O → O → Call O

-- ---- on states

-- what a call does: a read leaves the state as it is, any other gives the one of the rules
pub data Effect : Type 0 where
  keeps : Effect
  becomes : State → Effect

unfoldable pub effect : Call State → State → Effect
effect (inserting i) s = becomes (inserted i s)
effect (removing i) s = becomes (removed i s)
effect (toggling i) s = becomes (toggled i s)
effect (containing i) s = keeps
effect counting s = keeps
effect emptiness s = keeps
effect clearing s = becomes (cleared s)
effect spreading s = keeps
effect (xoring o) s = becomes (xored s (alone o))
effect (counting_shared o) s = keeps
effect (xoring_shared o p) s = becomes (xored s (shared s o p))
effect (xoring_unshared o p) s = becomes (xored s (unshared s o p))

-- "Spread (added, a read): 64 × span ÷ count, rounded down, the sparse span being exact; 0 for an empty set."
unfoldable pub spread : State → ℕ
spread s = pick (eqb (count s) 0) 0 (64 * span s / count s)

-- what an XOR gives of the state before and the state after: the source's XORs give nothing
unfoldable pub xor_value : State → State → ℕ
xor_value before after = 0

-- the value of a served call: "its answer"; "Yes is 1"
unfoldable pub value : Call State → State → ℕ
value (inserting i) s = truth (not (has (members s) i))
value (removing i) s = truth (has (members s) i)
value (toggling i) s = 0
value (containing i) s = truth (has (members s) i)
value counting s = count s
value emptiness s = truth (eqb (count s) 0)
value clearing s = 0
value spreading s = spread s
value (xoring o) s = xor_value s (xored s (alone o))
value (counting_shared o) s = length (intersection (members s) (members o))
value (xoring_shared o p) s = xor_value s (xored s (shared s o p))
value (xoring_unshared o p) s = xor_value s (xored s (unshared s o p))

-- ---- numbers

-- a number with value 0; 0 refuses nothing
unfoldable pub refusal : ℕ → Answer
refusal n = record { number = n; value = 0 }

-- the first of a list that refuses, or else the answer
unfoldable pub first : List Answer → Answer → Answer
first [] answer = answer
first (r ∷ refusals) answer = pick (eqb r.number 0) (first refusals answer) r

-- "1: a lent length is outside the stated range"
unfoldable pub range : Bytes → Answer
range b = refusal (pick (in_range b) 0 1)

-- "2: a header and its buffers aren't sound": nothing else writes this number
unfoldable pub verdict : Bytes → Answer
verdict b = refusal (pick (sound b) 0 2)

-- "3: index above 4,294,967,295"
unfoldable pub limited : ℕ → Answer
limited i = refusal (pick (leb i 4294967295) 0 3)

unfoldable pub index : {O : Type 0} → Call O → Answer
index (inserting i) = limited i
index (removing i) = limited i
index (toggling i) = limited i
index (containing i) = limited i
index counting = refusal 0
index emptiness = refusal 0
index clearing = refusal 0
index spreading = refusal 0
index (xoring o) = refusal 0
index (counting_shared o) = refusal 0
index (xoring_shared o p) = refusal 0
index (xoring_unshared o p) = refusal 0

-- "4: the state the rules give is dense with span above W"; "5: the state the rules give has more keys than room"
unfoldable pub measured : ℕ → ℕ → State → Answer
measured W K (narrow p l) = refusal (pick (leb p W) 0 4)
measured W K (wide l) = refusal (pick (leb (span (wide l)) W) 0 4)
measured W K (sparse l) = refusal (pick (leb (length l) K) 0 5)

-- "Only the final state is measured, never one on the way."
unfoldable pub fit : ℕ → ℕ → Effect → Answer
fit W K keeps = refusal 0
fit W K (becomes s) = measured W K s

-- the answer on a state in W words and K keys: 3, then 4 or 5, or the value
unfoldable pub answer : ℕ → ℕ → Call State → State → Answer
answer W K c s = first (index c ∷ fit W K (effect c s) ∷ []) (record { number = 0; value = value c s })

-- ---- on bytes

pub record Outcome : Type 0 where
  pub answer : Answer
  pub bytes : Bytes

unfoldable pub operands : Call Bytes → List Bytes
operands (inserting i) = []
operands (removing i) = []
operands (toggling i) = []
operands (containing i) = []
operands counting = []
operands emptiness = []
operands clearing = []
operands spreading = []
operands (xoring o) = o ∷ []
operands (counting_shared o) = o ∷ []
operands (xoring_shared o p) = o ∷ p ∷ []
operands (xoring_unshared o p) = o ∷ p ∷ []

-- the call on the states that its operands hold
unfoldable pub viewed : Call Bytes → Call State
viewed (inserting i) = inserting i
viewed (removing i) = removing i
viewed (toggling i) = toggling i
viewed (containing i) = containing i
viewed counting = counting
viewed emptiness = emptiness
viewed clearing = clearing
viewed spreading = spreading
viewed (xoring o) = xoring (view o)
viewed (counting_shared o) = counting_shared (view o)
viewed (xoring_shared o p) = xoring_shared (view o) (view p)
viewed (xoring_unshared o p) = xoring_unshared (view o) (view p)

-- "inside 1 and 2 the target first, then the operands"
unfoldable pub judged : Call Bytes → Bytes → List Answer
judged c b = let sets = b ∷ operands c in map range sets ++ map verdict sets

-- the bytes that an effect leaves: a read leaves them as they are
unfoldable pub written : Bytes → Effect → Bytes
written b keeps = b
written b (becomes s) = encode (length b.words) (length b.keys) s

-- "Every nonzero number leaves all headers and buffers untouched. Checked in the order 1, 2, 3, then 4 or 5"
unfoldable pub result_of : Call Bytes → Bytes → Outcome
result_of c b =
    let a = first (judged c b) (answer (length b.words) (length b.keys) (viewed c) (view b)) in
    record { answer = a; bytes = pick (eqb a.number 0) (written b (effect (viewed c) (view b))) b }

-- "Preparing takes buffers with any contents, sets them to 0 and gives narrow with span 0"; "Preparing can give only 1; its header
-- is mode 0, span 0, count 0 either way."
unfoldable pub preparing : List ℕ → List ℕ → Outcome
preparing words keys =
    let b : Bytes = record { header = record { mode = 0; span = 0; count = 0 }; words = words; keys = keys } in
    record { answer = range b; bytes = pick (in_range b) (encode (length words) (length keys) prepared) b }
