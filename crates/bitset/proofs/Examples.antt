-- Worked cases of BitSet, by computation: what the definitions of specs/ come to on sets that one can check by hand. Assumes nothing.
use mathlib.Core.Path.{◌≡◌, refl}
use mathlib.Core.List.{List, [], ◌∷◌, map}
use Prim.Native.Nat.{ℕ}
use lib.ListN.{replicate}
use Rattle.words.specs.Sets.{has, merge}
use Rattle.words.specs.Words.{members_from, zeros, words_of}
use Rattle.answers.specs.Answers.{Answer, truth}
use Rattle.bitset.specs.Rules.{inserted, removed, cleared, xored, shared, unshared, flipped, entries, equal}
use Rattle.bitset.specs.Calls.{Bytes, Outcome, in_range, sound, view, judged, preparing, inserting, toggling, removing, clearing, xoring, xoring_shared, xoring_unshared, flipping, flipping_shared, containing, counting_entries, comparing}

-- a span over words
abbrev over : ℕ → List ℕ → Bytes
over span words = record { span = span; words = words }

-- what a read leaves: its answer, and the set as it was
abbrev reading : (Bytes → Answer) → Bytes → Outcome
reading call b = record { answer = call b; bytes = b }

-- what a call leaves, and the number, value, span and words that it should
record Case : Type 0 where
  found : Outcome
  wanted : Outcome

abbrev leaves : Outcome → ℕ → ℕ → ℕ → List ℕ → Case
leaves found number value span words =
    record { found = found; wanted = record { answer = record { number = number; value = value }; bytes = over span words } }

abbrev cases : List Case
cases =
    -- an index in a word past the span: the span reaches that word
    leaves (inserting 70 (over 1 (1 ∷ 0 ∷ 0 ∷ []))) 0 1 2 (1 ∷ 64 ∷ 0 ∷ [])
    ∷ leaves (toggling 128 (over 0 (0 ∷ 0 ∷ 0 ∷ []))) 0 1 3 (0 ∷ 0 ∷ 1 ∷ [])
    -- an index that is there: insert says so, toggle takes it out, and the span stays
    ∷ leaves (inserting 1 (over 1 (2 ∷ 0 ∷ []))) 0 0 1 (2 ∷ 0 ∷ [])
    ∷ leaves (toggling 1 (over 1 (2 ∷ 0 ∷ []))) 0 0 1 (0 ∷ 0 ∷ [])
    -- the XORs: to the operand's span, to the smaller of two, to the larger, and to each index flipped
    ∷ leaves (xoring (over 1 (3 ∷ 0 ∷ 0 ∷ [])) (over 2 (1 ∷ 0 ∷ []))) 0 0 2 (2 ∷ 0 ∷ 0 ∷ [])
    ∷ leaves (xoring_shared (over 0 (0 ∷ 0 ∷ [])) (over 1 (3 ∷ [])) (over 2 (6 ∷ 1 ∷ []))) 0 0 1 (2 ∷ 0 ∷ [])
    ∷ leaves (xoring_unshared (over 0 (0 ∷ 0 ∷ [])) (over 1 (3 ∷ [])) (over 2 (6 ∷ 1 ∷ []))) 0 0 2 (5 ∷ 1 ∷ [])
    ∷ leaves (flipping (0 ∷ 65 ∷ 0 ∷ 2 ∷ []) (over 1 (4 ∷ 0 ∷ []))) 0 0 2 (0 ∷ 2 ∷ [])
    ∷ leaves (flipping_shared (64 ∷ 65 ∷ 0 ∷ []) (over 1 (4 ∷ 0 ∷ [])) (over 2 (1 ∷ 2 ∷ []))) 0 0 2 (5 ∷ 2 ∷ [])
    -- past the span, and past the words, nothing is there
    ∷ leaves (removing 64 (over 1 (1 ∷ 0 ∷ []))) 0 0 1 (1 ∷ 0 ∷ [])
    ∷ leaves (reading (containing 500) (over 1 (1 ∷ 0 ∷ []))) 0 0 1 (1 ∷ 0 ∷ [])
    -- the span stays when all is taken out
    ∷ leaves (clearing (over 2 (7 ∷ 1 ∷ 0 ∷ []))) 0 0 2 (0 ∷ 0 ∷ 0 ∷ [])
    ∷ leaves (removing 64 (over 2 (7 ∷ 1 ∷ 0 ∷ []))) 0 1 2 (7 ∷ 0 ∷ 0 ∷ [])
    -- equal members: a word of 0 more within the span makes two sets unequal, one beyond it does not
    ∷ leaves (reading (comparing (over 1 (5 ∷ 0 ∷ []))) (over 2 (5 ∷ 0 ∷ []))) 0 0 2 (5 ∷ 0 ∷ [])
    ∷ leaves (reading (comparing (over 1 (5 ∷ 0 ∷ []))) (over 1 (5 ∷ []))) 0 1 1 (5 ∷ [])
    -- a repeated entry counts each time
    ∷ leaves (reading (counting_entries (0 ∷ 2 ∷ 1 ∷ 2 ∷ 99 ∷ [])) (over 1 (5 ∷ []))) 0 3 1 (5 ∷ [])
    -- 4 by a span that would grow although no member is added
    ∷ leaves (xoring (over 1 (1 ∷ [])) (over 2 (0 ∷ 0 ∷ []))) 4 0 1 (1 ∷ [])
    ∷ leaves (flipping (64 ∷ 64 ∷ []) (over 1 (1 ∷ []))) 4 0 1 (1 ∷ [])
    -- 2 by a word beyond the span that is not 0, by a span above W, and by an operand's, which comes before 4
    ∷ leaves (inserting 0 (over 1 (0 ∷ 1 ∷ []))) 2 0 1 (0 ∷ 1 ∷ [])
    ∷ leaves (clearing (over 3 (0 ∷ 0 ∷ []))) 2 0 3 (0 ∷ 0 ∷ [])
    ∷ leaves (xoring (over 1 (1 ∷ [])) (over 3 (0 ∷ 0 ∷ []))) 2 0 1 (1 ∷ [])
    -- 1 by one word too many, whatever they hold, which comes before 2, and by one index too many
    ∷ leaves (preparing (replicate 8193 7)) 1 0 0 (replicate 8193 7)
    ∷ leaves (clearing (over 9000 (replicate 8193 7))) 1 0 9000 (replicate 8193 7)
    ∷ leaves (flipping (replicate 16385 0) (over 1 (1 ∷ []))) 1 0 1 (1 ∷ [])
    ∷ []

cases-hold : map (λ (c : Case). c.found) cases ≡ map (λ (c : Case). c.wanted) cases
unfolding preparing inserting toggling removing clearing xoring xoring_shared xoring_unshared flipping flipping_shared containing counting_entries
    comparing in_range sound view judged truth inserted removed cleared xored shared unshared flipped entries equal has merge members_from zeros words_of
cases-hold = refl
