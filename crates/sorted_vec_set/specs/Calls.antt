-- SortedVecSet's bytes, and each call as a function from the bytes of the sets that it names to what it leaves: the first
-- refusal of document 01's table that applies, with value 0 and everything as it was; or the answer, and the members that the
-- set rules give (crates/words/specs/Sets.antt), written in the target's elements. Assumes nothing.
use Rattle.std.specs.Prelude.{Bool, true, not, ◌&&◌, List, [], ◌∷◌, ◌≡◌, ℕ, ◌≤◌, eqb, leb, length, take, drop, replicate, Result, Ok, Err}
use Rattle.words.specs.Sets.{pick, Ascending, has, same, insert, remove, toggle, difference, intersection}
use Rattle.words.specs.Words.{zeros}
use Rattle.answers.specs.declared.Refusal.{Refusal}
use Rattle.answers.specs.Answers.{Answer, truth, answered, number}
use Rattle.answers.specs.Judging.{Judged, verdict}
use Rattle.ascending.specs.Order.{ascends, row}
use Rattle.sorted_vec_set.specs.declared.SortedVecSet.{SortedVecSet}
use Rattle.sorted_vec_set.specs.declared.lent.Lent.{Lent}

-- ---- bytes

-- a count over lent elements
pub record Bytes : Type 0 where
  pub count : ℕ
  pub elements : List ℕ

-- "Count and lent 64-bit elements, 0 to 8,192"
unfoldable pub in_range : Bytes → Bool
in_range b = leb (length b.elements) 8192

-- "Sound: count within room, the first count elements strictly ascending, later elements 0."
unfoldable pub sound : Bytes → Bool
sound b = leb b.count (length b.elements) && (ascends (take b.count b.elements) && zeros (drop b.count b.elements))

unfoldable pub judged : Bytes → Judged
judged b = record { in_range = in_range b; sound = sound b }

-- the members that bytes hold, and the bytes of members in a room
unfoldable pub members : Bytes → List ℕ
members b = take b.count b.elements

unfoldable pub encode : ℕ → List ℕ → Bytes
encode room l = record { count = length l; elements = row room l }

-- ---- what a call leaves

-- its answer, and the target's bytes
pub record Outcome : Type 0 where
  pub answer : Answer
  pub bytes : Bytes

-- refused with n, everything stays
unfoldable pub refused : ℕ → Bytes → Outcome
refused n b = record { answer = record { number = n; value = 0 }; bytes = b }

-- the call on b that a number n refuses, or that gives the value v and the members l, if there is room for them: "5 | the
-- state the rules give has more keys than room"
unfoldable pub result : ℕ → Bytes → ℕ → List ℕ → Outcome
result n b v l =
    pick (eqb n 0)
    (pick (leb (length l) (length b.elements)) (record { answer = record { number = 0; value = v }; bytes = encode (length b.elements) l }) (refused 5 b))
    (refused n b)

-- ---- the calls

-- "`new` prepares either from any contents and can give only 1"; the count is 0 either way
unfoldable pub preparing : List ℕ → Outcome
preparing elements =
    pick (leb (length elements) 8192)
    (record { answer = record { number = 0; value = 0 }; bytes = record { count = 0; elements = replicate (length elements) 0 } })
    (record { answer = record { number = 1; value = 0 }; bytes = record { count = 0; elements = elements } })

-- answers whether the element is new
unfoldable pub inserting : ℕ → Bytes → Outcome
inserting x b = result (verdict (judged b ∷ [])) b (truth (not (has (members b) x))) (insert x (members b))

-- answers whether the element was present
unfoldable pub removing : ℕ → Bytes → Outcome
removing x b = result (verdict (judged b ∷ [])) b (truth (has (members b) x)) (remove x (members b))

-- the source's `toggle` answers nothing: value 0
unfoldable pub toggling : ℕ → Bytes → Outcome
toggling x b = result (verdict (judged b ∷ [])) b 0 (toggle x (members b))

unfoldable pub clearing : Bytes → Outcome
clearing b = result (verdict (judged b ∷ [])) b 0 []

-- `set_single`: "needs room for one"
unfoldable pub singling : ℕ → Bytes → Outcome
singling x b = result (verdict (judged b ∷ [])) b 0 (x ∷ [])

-- `xor_assign`
unfoldable pub xoring : Bytes → Bytes → Outcome
xoring b o = result (verdict (judged b ∷ judged o ∷ [])) b 0 (difference (members b) (members o))

-- `xor_intersection_into` and `xor_symmetric_difference_into`: the target b, the operands o and p
unfoldable pub xoring_shared : Bytes → Bytes → Bytes → Outcome
xoring_shared b o p =
    result (verdict (judged b ∷ judged o ∷ judged p ∷ [])) b 0 (difference (members b) (intersection (members o) (members p)))

unfoldable pub xoring_unshared : Bytes → Bytes → Bytes → Outcome
xoring_unshared b o p =
    result (verdict (judged b ∷ judged o ∷ judged p ∷ [])) b 0 (difference (members b) (difference (members o) (members p)))

-- what `take_clearing` leaves: its answer, the bytes of the set that is cleared, and those of the set that is filled
pub record Handed : Type 0 where
  pub answer : Answer
  pub from : Bytes
  pub to : Bytes

-- "`take_clearing` fills a second lent set, judged after the first, its old elements lost; number 5 where it lacks room."
unfoldable pub taking : Bytes → Bytes → Handed
taking b o =
    let filled = result (verdict (judged b ∷ judged o ∷ [])) o 0 (members b) in
    record {
      answer = filled.answer;
      from = pick (eqb filled.answer.number 0) (encode (length b.elements) []) b;
      to = filled.bytes;
    }

-- ---- the reads

unfoldable pub containing : ℕ → Bytes → Answer
containing x b = answered (verdict (judged b ∷ [])) (truth (has (members b) x))

unfoldable pub counting : Bytes → Answer
counting b = answered (verdict (judged b ∷ [])) (length (members b))

unfoldable pub emptiness : Bytes → Answer
emptiness b = answered (verdict (judged b ∷ [])) (truth (eqb (length (members b)) 0))

unfoldable pub counting_shared : Bytes → Bytes → Answer
counting_shared b o = answered (verdict (judged b ∷ judged o ∷ [])) (length (intersection (members b) (members o)))

-- equality, derived in the source
unfoldable pub comparing : Bytes → Bytes → Answer
comparing b o = answered (verdict (judged b ∷ judged o ∷ [])) (truth (same (members b) (members o)))

-- ---- what the code holds

-- a header over its elements
unfoldable pub bytes_of : SortedVecSet → List ℕ → Bytes
bytes_of set elements = record { count = set.count; elements = elements }

-- a set over its elements, lent to be read
abbrev pub lent_bytes : Lent → Bytes
lent_bytes s = bytes_of s.set s.elements.now

-- what a served call gives, as the header and the value of its answer: yes or no beside the header, or the header alone
abbrev pub with_truth : SortedVecSet × Bool → SortedVecSet × ℕ
with_truth given = (given.0, truth given.1)

abbrev pub alone : SortedVecSet → SortedVecSet × ℕ
alone set = (set, 0)

-- what a call has left of a set and its elements. A refusal gives no header: the one that went in stays
unfoldable pub left : {A : Type 0} → (A → SortedVecSet × ℕ) → SortedVecSet → Result A Refusal → List ℕ → Outcome
unfolding number bytes_of
left gives set (Ok given) elements =
    record { answer = record { number = 0; value = (gives given).1 }; bytes = bytes_of (gives given).0 elements }
left gives set (Err refusal) elements = record { answer = record { number = number refusal; value = 0 }; bytes = bytes_of set elements }

-- the same of the two sets of `take_clearing`
unfoldable pub handed : SortedVecSet → SortedVecSet → Result (SortedVecSet × SortedVecSet) Refusal → List ℕ → List ℕ → Handed
unfolding number bytes_of
handed set other (Ok given) elements others =
    record { answer = record { number = 0; value = 0 }; from = bytes_of given.0 elements; to = bytes_of given.1 others }
handed set other (Err refusal) elements others =
    record { answer = record { number = number refusal; value = 0 }; from = bytes_of set elements; to = bytes_of other others }

-- a set that is known to be sound
pub record Sound (set : SortedVecSet) (elements : List ℕ) : Type 0 where
  pub few : length elements ≤ 8192
  pub within : set.count ≤ length elements
  pub ascending : Ascending (take set.count elements)
  pub beyond : zeros (drop set.count elements) ≡ true
