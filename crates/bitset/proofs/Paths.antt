-- What judging comes to for one set, two and three, with a list and without, and what the reads of sound sets answer, path by path:
-- as theorems beside the calls, whose proofs do without them. Assumes nothing.
use mathlib.Core.Path.{◌≡◌, sym, ap, ap₂, ◌∙◌}
use mathlib.Core.Bool.{Bool}
use mathlib.Core.List.{List, [], ◌∷◌}
use Prim.Native.Nat.{ℕ, ◌^◌, ◌≤◌, ◌<◌}
use lib.Dec.{leb}
use lib.ListN.{length, get_or, take, drop}
use borrow.Author.Tests.{ne_eqb, le-leb, leb-true}
use Rattle.words.specs.Sets.{pick}
use Rattle.words.specs.Words.{at, members, zeros, Words, words_of}
use Rattle.words.proofs.Cases.{and_parts}
use Rattle.words.proofs.RowLaws.{words_from}
use Rattle.words.proofs.MemberLaws.{has-members, words-members, members_front, zeros-none, zeros_front}
use Rattle.answers.specs.Answers.{Answer, truth}
use Rattle.answers.specs.Judging.{Judged, verdict, earlier}
use Rattle.answers.proofs.Answering.{served-answer}
use Rattle.answers.proofs.Judging.{Passed, passed_none, none_passed, more_none, none_more}
use Rattle.bitset.specs.declared.BitSet.{BitSet}
use Rattle.bitset.specs.Rules.{equal}
use Rattle.bitset.specs.Calls.{in_range, sound, judged, verdict_with, containing, emptiness, comparing, view, bytes_of, Sound}
use Rattle.bitset.proofs.Slices.{verdict-verdict_with}

-- ---- judging

-- one set passes exactly when it is sound
pub sound-passed : {set : BitSet} {ws : List ℕ} → Sound set ws → Passed (judged (bytes_of set ws))
unfolding judged in_range sound bytes_of
sound-passed {set} {ws} h =
    record { in_range = le-leb (length ws) 8192 h.few; sound = rw (le-leb set.span (length ws) h.within) h.beyond }

pub passed-sound : {set : BitSet} {ws : List ℕ} → Passed (judged (bytes_of set ws)) → Sound set ws
unfolding judged in_range sound bytes_of
passed-sound {set} {ws} p =
    let parts = and_parts (leb set.span (length ws)) (zeros (drop set.span ws)) p.sound in
    record { few = leb-true (length ws) 8192 p.in_range; within = leb-true set.span (length ws) parts.0; beyond = parts.1 }

-- one set, two, and three are refused by nothing exactly when they are sound
pub sound_none : {set : BitSet} {ws : List ℕ} → Sound set ws → verdict (judged (bytes_of set ws) ∷ []) ≡ 0
sound_none h = passed_none (sound-passed h)

pub none-sound : {set : BitSet} {ws : List ℕ} → verdict (judged (bytes_of set ws) ∷ []) ≡ 0 → Sound set ws
none-sound e = passed-sound (none_passed _ e)

pub two_none : {set other : BitSet} {ws os : List ℕ} → Sound set ws × Sound other os
    → verdict (judged (bytes_of set ws) ∷ judged (bytes_of other os) ∷ []) ≡ 0
two_none h = more_none _ (sound-passed h.0) (sound_none h.1)

pub two_sound : {set other : BitSet} {ws os : List ℕ} → verdict (judged (bytes_of set ws) ∷ judged (bytes_of other os) ∷ []) ≡ 0
    → Sound set ws × Sound other os
two_sound e = let parts = none_more _ _ e in (passed-sound parts.0, none-sound parts.1)

pub three_none : {target set other : BitSet} {ts ws os : List ℕ} → Sound target ts × Sound set ws × Sound other os
    → verdict (judged (bytes_of target ts) ∷ judged (bytes_of set ws) ∷ judged (bytes_of other os) ∷ []) ≡ 0
three_none h = more_none _ (sound-passed h.0) (two_none (h.1, h.2))

pub three_sound : {target set other : BitSet} {ts ws os : List ℕ}
    → verdict (judged (bytes_of target ts) ∷ judged (bytes_of set ws) ∷ judged (bytes_of other os) ∷ []) ≡ 0
    → Sound target ts × Sound set ws × Sound other os
three_sound e =
    let parts = none_more _ _ e in
    let operands = two_sound parts.1 in
    (passed-sound parts.0, operands.0, operands.1)

-- ---- judging with a list

-- a short list is refused by nothing that its sets are not
pub short_none : (l : List ℕ) (sets : List Judged) → length l ≤ 16384 → verdict sets ≡ 0 → verdict_with l sets ≡ 0
unfolding earlier
short_none l sets h z = verdict-verdict_with l sets ∙ rw (le-leb (length l) 16384 h, z)

-- the number of a list and that of the sets make that of the call
pub judged_with : (l : List ℕ) (sets : List Judged) {m n number : ℕ} → m ≡ pick (leb (length l) 16384) 0 1 → n ≡ verdict sets
    → number ≡ earlier m n → number ≡ verdict_with l sets
judged_with l sets p q e = rw (e, p, q) (sym (verdict-verdict_with l sets))

-- ---- words and members

-- words that hold the members of a state are its words
pub written_is : (new : List ℕ) (W : ℕ) (l : List ℕ) → Words new → length new ≡ W → members new ≡ l → new ≡ words_of W l
written_is new W l h e m = sym (words-members new h) ∙ ap₂ words_of e m

-- the front up to the span has all members
pub front_members : {set : BitSet} {ws : List ℕ} → Sound set ws → members (take set.span ws) ≡ members ws
front_members {set} {ws} h = members_front set.span ws h.beyond

-- ---- reading

pub contained_answer : (i : ℕ) {set : BitSet} {ws : List ℕ} {value : ℕ} {test : Bool} {r : Answer} → Sound set ws → test ≡ at ws i
    → value ≡ truth test → r ≡ record { number = 0; value = value } → r ≡ containing i (bytes_of set ws)
unfolding containing bytes_of
contained_answer i {ws = ws} h e a q = served-answer (sound_none h) (a ∙ ap truth (e ∙ sym (has-members ws i))) q

-- the front up to the span tells of all words
pub empty_answer : {set : BitSet} {ws : List ℕ} {value : ℕ} {test : Bool} {r : Answer} → Sound set ws → ((k : ℕ) → get_or ws k 0 < 2 ^ 64)
    → test ≡ zeros (take set.span ws) → value ≡ truth test → r ≡ record { number = 0; value = value } → r ≡ emptiness (bytes_of set ws)
unfolding emptiness bytes_of
empty_answer {set} {ws} h f e a q =
    served-answer (sound_none h) (a ∙ ap truth (e ∙ zeros_front set.span ws h.beyond ∙ zeros-none ws (words_from ws f))) q

-- other spans are unequal
pub unequal_answer : {set other : BitSet} {ws os : List ℕ} {r : Answer} → Sound set ws × Sound other os → (set.span ≡ other.span → ⊥)
    → r ≡ record { number = 0; value = 0 } → r ≡ comparing (bytes_of set ws) (bytes_of other os)
unfolding comparing equal view bytes_of truth
unequal_answer {set} {other} h n q = served-answer (two_none h) (rw (ne_eqb set.span other.span n)) q
