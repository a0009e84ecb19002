-- Worked cases of SortedVecSet, by computation: what the definitions of specs/ come to on sets that one can check by hand.
-- Assumes nothing.
use mathlib.Core.Path.{◌≡◌, refl}
use mathlib.Core.List.{List, [], ◌∷◌, map}
use Prim.Native.Nat.{ℕ}
use lib.ListN.{replicate}
use Rattle.words.specs.Sets.{has, same, merge}
use Rattle.words.specs.Words.{zeros}
use Rattle.answers.specs.Answers.{Answer}
use Rattle.answers.specs.Answers.{truth, answered}
use Rattle.answers.specs.Judging.{verdict}
use Rattle.ascending.specs.Order.{ascends, row}
use Rattle.sorted_vec_set.specs.Calls.{Bytes, Outcome, Handed, in_range, sound, judged, members, encode, refused, result, preparing, inserting, removing, toggling, clearing, singling, xoring, xoring_shared, xoring_unshared, taking, containing, counting, emptiness, counting_shared, comparing}

-- a count over elements
abbrev over : ℕ → List ℕ → Bytes
over count elements = record { count = count; elements = elements }

-- what a read leaves: its answer, and the set as it was
abbrev reading : (Bytes → Answer) → Bytes → Outcome
reading call b = record { answer = call b; bytes = b }

-- what a call leaves, and the number, value, count and elements that it should
record Case : Type 0 where
  found : Outcome
  wanted : Outcome

abbrev leaves : Outcome → ℕ → ℕ → ℕ → List ℕ → Case
leaves found number value count elements =
    record { found = found; wanted = record { answer = record { number = number; value = value }; bytes = over count elements } }

-- what `take_clearing` does to the set that is cleared, and to the one that is filled
abbrev first : Handed → Outcome
first h = record { answer = h.answer; bytes = h.from }

abbrev second : Handed → Outcome
second h = record { answer = h.answer; bytes = h.to }

abbrev cases : List Case
cases =
    -- a fresh set over any contents
    leaves (preparing (7 ∷ 8 ∷ [])) 0 0 0 (0 ∷ 0 ∷ [])
    -- before all others, between them, behind them; one that is there changes nothing, even where there is no room
    ∷ leaves (inserting 1 (over 2 (3 ∷ 7 ∷ 0 ∷ []))) 0 1 3 (1 ∷ 3 ∷ 7 ∷ [])
    ∷ leaves (inserting 5 (over 2 (3 ∷ 7 ∷ 0 ∷ []))) 0 1 3 (3 ∷ 5 ∷ 7 ∷ [])
    ∷ leaves (inserting 18446744073709551615 (over 2 (3 ∷ 7 ∷ 0 ∷ []))) 0 1 3 (3 ∷ 7 ∷ 18446744073709551615 ∷ [])
    ∷ leaves (inserting 7 (over 2 (3 ∷ 7 ∷ []))) 0 0 2 (3 ∷ 7 ∷ [])
    -- 0 is a lawful member: the count tells it from the room behind
    ∷ leaves (inserting 0 (over 0 (0 ∷ 0 ∷ []))) 0 1 1 (0 ∷ 0 ∷ [])
    ∷ leaves (reading (containing 0) (over 1 (0 ∷ 0 ∷ []))) 0 1 1 (0 ∷ 0 ∷ [])
    ∷ leaves (reading (containing 0) (over 0 (0 ∷ 0 ∷ []))) 0 0 0 (0 ∷ 0 ∷ [])
    ∷ leaves (removing 0 (over 2 (0 ∷ 4 ∷ []))) 0 1 1 (4 ∷ 0 ∷ [])
    -- what is taken out leaves 0 behind the others
    ∷ leaves (removing 3 (over 3 (3 ∷ 5 ∷ 7 ∷ []))) 0 1 2 (5 ∷ 7 ∷ 0 ∷ [])
    ∷ leaves (removing 4 (over 3 (3 ∷ 5 ∷ 7 ∷ []))) 0 0 3 (3 ∷ 5 ∷ 7 ∷ [])
    -- toggle gives value 0 either way
    ∷ leaves (toggling 5 (over 3 (3 ∷ 5 ∷ 7 ∷ []))) 0 0 2 (3 ∷ 7 ∷ 0 ∷ [])
    ∷ leaves (toggling 6 (over 2 (3 ∷ 7 ∷ 0 ∷ []))) 0 0 3 (3 ∷ 6 ∷ 7 ∷ [])
    ∷ leaves (clearing (over 2 (3 ∷ 7 ∷ 0 ∷ []))) 0 0 0 (0 ∷ 0 ∷ 0 ∷ [])
    ∷ leaves (singling 9 (over 2 (3 ∷ 7 ∷ []))) 0 0 1 (9 ∷ 0 ∷ [])
    -- only the final state is measured: room 1 and {5} XOR {5, 6}; room 2 and {10, 11} XOR {1, 2, 10, 11}
    ∷ leaves (xoring (over 1 (5 ∷ [])) (over 2 (5 ∷ 6 ∷ []))) 0 0 1 (6 ∷ [])
    ∷ leaves (xoring (over 2 (10 ∷ 11 ∷ [])) (over 4 (1 ∷ 2 ∷ 10 ∷ 11 ∷ []))) 0 0 2 (1 ∷ 2 ∷ [])
    ∷ leaves (xoring_shared (over 1 (4 ∷ 0 ∷ [])) (over 3 (2 ∷ 4 ∷ 6 ∷ [])) (over 2 (4 ∷ 6 ∷ []))) 0 0 1 (6 ∷ 0 ∷ [])
    ∷ leaves (xoring_unshared (over 1 (4 ∷ 0 ∷ [])) (over 3 (2 ∷ 4 ∷ 6 ∷ [])) (over 2 (4 ∷ 6 ∷ []))) 0 0 2 (2 ∷ 4 ∷ [])
    ∷ leaves (reading (counting_shared (over 3 (2 ∷ 4 ∷ 6 ∷ []))) (over 2 (4 ∷ 6 ∷ []))) 0 2 2 (4 ∷ 6 ∷ [])
    ∷ leaves (reading counting (over 2 (4 ∷ 6 ∷ 0 ∷ []))) 0 2 2 (4 ∷ 6 ∷ 0 ∷ [])
    ∷ leaves (reading emptiness (over 1 (0 ∷ 0 ∷ []))) 0 0 1 (0 ∷ 0 ∷ [])
    -- equal sets in rooms of other lengths; equal counts of other elements; 0 as a member, and 0 as room
    ∷ leaves (reading (comparing (over 1 (4 ∷ 0 ∷ []))) (over 1 (4 ∷ []))) 0 1 1 (4 ∷ [])
    ∷ leaves (reading (comparing (over 1 (4 ∷ []))) (over 1 (5 ∷ []))) 0 0 1 (5 ∷ [])
    ∷ leaves (reading (comparing (over 1 (0 ∷ 0 ∷ []))) (over 0 (0 ∷ 0 ∷ []))) 0 0 0 (0 ∷ 0 ∷ [])
    -- handed over, the old elements lost; and 5 by the second set's room
    ∷ leaves (first (taking (over 2 (3 ∷ 7 ∷ 0 ∷ [])) (over 3 (1 ∷ 2 ∷ 9 ∷ [])))) 0 0 0 (0 ∷ 0 ∷ 0 ∷ [])
    ∷ leaves (second (taking (over 2 (3 ∷ 7 ∷ 0 ∷ [])) (over 3 (1 ∷ 2 ∷ 9 ∷ [])))) 0 0 2 (3 ∷ 7 ∷ 0 ∷ [])
    ∷ leaves (first (taking (over 2 (3 ∷ 7 ∷ 0 ∷ [])) (over 0 (0 ∷ [])))) 5 0 2 (3 ∷ 7 ∷ 0 ∷ [])
    ∷ leaves (second (taking (over 2 (3 ∷ 7 ∷ 0 ∷ [])) (over 0 (0 ∷ [])))) 5 0 0 (0 ∷ [])
    -- 5 by one element too many, and by no room at all
    ∷ leaves (inserting 5 (over 2 (3 ∷ 7 ∷ []))) 5 0 2 (3 ∷ 7 ∷ [])
    ∷ leaves (singling 9 (over 0 [])) 5 0 0 []
    -- 2 by a count above the room, by an element not above the one before, by one behind the count that is not 0, and by an
    -- operand's, which comes before 5; a read is judged too, and so is the set that `take_clearing` fills, although its elements
    -- are lost
    ∷ leaves (clearing (over 3 (1 ∷ 2 ∷ []))) 2 0 3 (1 ∷ 2 ∷ [])
    ∷ leaves (clearing (over 2 (2 ∷ 2 ∷ []))) 2 0 2 (2 ∷ 2 ∷ [])
    ∷ leaves (clearing (over 1 (1 ∷ 2 ∷ []))) 2 0 1 (1 ∷ 2 ∷ [])
    ∷ leaves (xoring (over 1 (5 ∷ [])) (over 2 (7 ∷ 6 ∷ []))) 2 0 1 (5 ∷ [])
    ∷ leaves (reading (containing 6) (over 2 (7 ∷ 6 ∷ []))) 2 0 2 (7 ∷ 6 ∷ [])
    ∷ leaves (second (taking (over 1 (5 ∷ [])) (over 2 (7 ∷ 6 ∷ [])))) 2 0 2 (7 ∷ 6 ∷ [])
    -- 8,192 elements are served; 1 by one too many, whatever they hold, which comes before 2
    ∷ leaves (preparing (replicate 8192 7)) 0 0 0 (replicate 8192 0)
    ∷ leaves (preparing (replicate 8193 7)) 1 0 0 (replicate 8193 7)
    ∷ leaves (clearing (over 9000 (replicate 8193 7))) 1 0 9000 (replicate 8193 7)
    ∷ []

cases-hold : map (λ (c : Case). c.found) cases ≡ map (λ (c : Case). c.wanted) cases
unfolding preparing inserting removing toggling clearing singling xoring xoring_shared xoring_unshared taking containing counting emptiness
    counting_shared comparing result refused encode judged in_range sound members truth answered verdict ascends row has same merge zeros
cases-hold = refl
