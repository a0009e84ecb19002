-- BitSet's bytes, and each call as a function from the bytes of the sets that it names to what it leaves: the first refusal of
-- document 01's table that applies, with value 0 and everything as it was; or the answer, and the state that the rules give,
-- written in the target's words. Assumes nothing.
use Rattle.std.specs.Prelude.{Bool, true, not, ◌&&◌, List, [], ◌∷◌, ◌≡◌, ℕ, ◌≤◌, eqb, leb, length, drop, replicate, Result, Ok, Err}
use Rattle.words.specs.Sets.{pick, has, intersection}
use Rattle.words.specs.Words.{members, words_of, zeros}
use Rattle.answers.specs.declared.Refusal.{Refusal}
use Rattle.answers.specs.Answers.{Answer, truth, answered, number}
use Rattle.answers.specs.Judging.{Judged, ranged, sounded, verdict}
use Rattle.bitset.specs.Rules.{State, inserted, toggled, removed, cleared, xored, shared, unshared, flipped, entries, equal}
use Rattle.bitset.specs.declared.BitSet.{BitSet}
use Rattle.bitset.specs.declared.lent.Lent.{Lent}

-- ---- bytes

-- a span over lent words
pub record Bytes : Type 0 where
  pub span : ℕ
  pub words : List ℕ

-- "Span and lent words, 0 to 8,192"
unfoldable pub in_range : Bytes → Bool
in_range b = leb (length b.words) 8192

-- "For BitSet, sound means span ≤ W and zero beyond"
unfoldable pub sound : Bytes → Bool
sound b = leb b.span (length b.words) && zeros (drop b.span b.words)

-- the state that bytes hold, and the bytes of a state in W words
unfoldable pub view : Bytes → State
view b = record { span = b.span; members = members b.words }

unfoldable pub encode : ℕ → State → Bytes
encode W s = record { span = s.span; words = words_of W s.members }

-- ---- numbers

-- what is found of a set
unfoldable pub judged : Bytes → Judged
judged b = record { in_range = in_range b; sound = sound b }

-- the number that a call with a list of indices is refused with: "A list of indices has 0 to 16,384 entries."
unfoldable pub verdict_with : List ℕ → List Judged → ℕ
unfolding ranged sounded
verdict_with list sets = ranged sets (pick (leb (length list) 16384) (sounded sets 0) 1)

-- ---- what a call leaves

-- its answer, and the target's bytes
pub record Outcome : Type 0 where
  pub answer : Answer
  pub bytes : Bytes

-- refused with n, everything stays
unfoldable pub refused : ℕ → Bytes → Outcome
refused n b = record { answer = record { number = n; value = 0 }; bytes = b }

-- the call on b that a number n refuses, or that gives the value v and the state s, if that fits: "4 when the new span would
-- exceed W"
unfoldable pub result : ℕ → Bytes → ℕ → State → Outcome
unfolding refused encode
result n b v s =
    pick (eqb n 0)
    (pick (leb s.span (length b.words)) (record { answer = record { number = 0; value = v }; bytes = encode (length b.words) s }) (refused 4 b))
    (refused n b)

-- ---- the calls

-- "`new` prepares either from any contents and can give only 1"; the span is 0 either way
unfoldable pub preparing : List ℕ → Outcome
preparing ws =
    pick (leb (length ws) 8192)
    (record { answer = record { number = 0; value = 0 }; bytes = record { span = 0; words = replicate (length ws) 0 } })
    (record { answer = record { number = 1; value = 0 }; bytes = record { span = 0; words = ws } })

-- answers whether the index is new
unfoldable pub inserting : ℕ → Bytes → Outcome
unfolding result verdict
inserting i b = result (verdict (judged b ∷ [])) b (truth (not (has (members b.words) i))) (inserted i (view b))

-- answers whether the index is now present
unfoldable pub toggling : ℕ → Bytes → Outcome
unfolding result verdict
toggling i b = result (verdict (judged b ∷ [])) b (truth (not (has (members b.words) i))) (toggled i (view b))

-- answers whether the index was present
unfoldable pub removing : ℕ → Bytes → Outcome
unfolding result verdict
removing i b = result (verdict (judged b ∷ [])) b (truth (has (members b.words) i)) (removed i (view b))

unfoldable pub clearing : Bytes → Outcome
unfolding result verdict
clearing b = result (verdict (judged b ∷ [])) b 0 (cleared (view b))

-- `symmetric_difference_update`
unfoldable pub xoring : Bytes → Bytes → Outcome
unfolding result verdict
xoring b o = result (verdict (judged b ∷ judged o ∷ [])) b 0 (xored (view b) (view o))

-- `xor_intersection_into` and `xor_symmetric_difference_into`: the target b, the operands o and p
unfoldable pub xoring_shared : Bytes → Bytes → Bytes → Outcome
unfolding result verdict
xoring_shared b o p = result (verdict (judged b ∷ judged o ∷ judged p ∷ [])) b 0 (xored (view b) (shared (view o) (view p)))

unfoldable pub xoring_unshared : Bytes → Bytes → Bytes → Outcome
unfolding result verdict
xoring_unshared b o p = result (verdict (judged b ∷ judged o ∷ judged p ∷ [])) b 0 (xored (view b) (unshared (view o) (view p)))

-- the slice forms: `xor_assign_slice`, and `xor_intersection_slice` with the entries that o has
unfoldable pub flipping : List ℕ → Bytes → Outcome
unfolding result verdict_with
flipping l b = result (verdict_with l (judged b ∷ [])) b 0 (flipped l (view b))

unfoldable pub flipping_shared : List ℕ → Bytes → Bytes → Outcome
unfolding result verdict_with
flipping_shared l b o = result (verdict_with l (judged b ∷ judged o ∷ [])) b 0 (flipped (entries (has (members o.words)) l) (view b))

-- ---- the reads

unfoldable pub containing : ℕ → Bytes → Answer
unfolding answered verdict
containing i b = answered (verdict (judged b ∷ [])) (truth (has (members b.words) i))

unfoldable pub counting : Bytes → Answer
unfolding answered verdict
counting b = answered (verdict (judged b ∷ [])) (length (members b.words))

unfoldable pub emptiness : Bytes → Answer
unfolding answered verdict
emptiness b = answered (verdict (judged b ∷ [])) (truth (eqb (length (members b.words)) 0))

-- `intersection_count`, and `intersection_count_slice` ("a list of indices"; a repeated entry counts each time)
unfoldable pub counting_shared : Bytes → Bytes → Answer
unfolding answered verdict
counting_shared b o = answered (verdict (judged b ∷ judged o ∷ [])) (length (intersection (members b.words) (members o.words)))

unfoldable pub counting_entries : List ℕ → Bytes → Answer
unfolding answered verdict_with
counting_entries l b = answered (verdict_with l (judged b ∷ [])) (length (entries (has (members b.words)) l))

unfoldable pub comparing : Bytes → Bytes → Answer
unfolding answered verdict
comparing b o = answered (verdict (judged b ∷ judged o ∷ [])) (truth (equal (view b) (view o)))

-- ---- what the code holds

-- a header over its words
unfoldable pub bytes_of : BitSet → List ℕ → Bytes
bytes_of set ws = record { span = set.span; words = ws }

-- a set over its words, lent to be read
abbrev pub lent_bytes : Lent → Bytes
lent_bytes s = bytes_of s.set s.words.now

-- what a served call gives, as the header and the value of its answer: yes or no beside the header, or the header alone
abbrev pub with_truth : BitSet × Bool → BitSet × ℕ
with_truth given = (given.0, truth given.1)

abbrev pub alone : BitSet → BitSet × ℕ
alone set = (set, 0)

-- what a call has left of a set and its words. A refusal gives no header: the one that went in stays
unfoldable pub left : {A : Type 0} → (A → BitSet × ℕ) → BitSet → Result A Refusal → List ℕ → Outcome
unfolding number bytes_of
left gives set (Ok given) ws = record { answer = record { number = 0; value = (gives given).1 }; bytes = bytes_of (gives given).0 ws }
left gives set (Err refusal) ws = record { answer = record { number = number refusal; value = 0 }; bytes = bytes_of set ws }

-- a set that is known to be sound
pub record Sound (set : BitSet) (ws : List ℕ) : Type 0 where
  pub few : length ws ≤ 8192
  pub within : set.span ≤ length ws
  pub beyond : zeros (drop set.span ws) ≡ true
