-- Document 01, "Both sides of each line": the lines marked P, all together as one statement, by computation. Each set is made by
-- calls from a prepared one. A second statement, of our own, has what no such line covers. Assumes nothing.
use mathlib.Core.Path.{◌≡◌, refl}
use mathlib.Core.List.{List, [], ◌∷◌, ◌++◌, map}
use Prim.Native.Nat.{ℕ, zero, suc}
use lib.Dec.{eqb}
use lib.ListN.{replicate}
use Rattle.words.specs.Sets.{pick, has, against, merge}
use Rattle.words.specs.Words.{members_from, needed_from, needed, zeros}
use Rattle.answers.specs.Answers.{Answer}
use Rattle.answers.specs.Answers.{truth}
use Rattle.ascending.specs.Order.{ascends}
use Rattle.adaptive_rules.specs.States.{State, narrow, wide, sparse, prepared}
use Rattle.adaptive_rules.specs.Rules.{limit, hold, settle, reach, grown, changed, inserted, toggled, without, removed, cleared, alone, fused, shared, unshared, xored_dense, turns, xored}
use Rattle.adaptive_rules.specs.Bytes.{Bytes, in_range, stored, view, sound_narrow, sound_wide, sound_sparse, sound}
use Rattle.adaptive_rules.specs.Calls.{Call, inserting, removing, toggling, counting, clearing, xoring, xoring_shared, xoring_unshared, Effect, keeps, becomes, effect, xor_value, value, refusal, first, range, verdict, limited, index, measured, fit, answer, operands, viewed, judged, result_of}

-- ---- running calls on states

-- so many numbers from a on
unfoldable pub from : ℕ → ℕ → List ℕ
from a zero = []
from a (suc n) = a ∷ from (suc a) n

-- hands on a list, and a state, that has been computed whole
unfoldable pub wholly : List ℕ → (List ℕ → State) → State
wholly [] k = k []
wholly (x ∷ l) k = wholly l (λ r. k (x ∷ r))

unfoldable pub computed : State → (State → State) → State
computed (narrow p l) k = wholly l (λ r. k (narrow p r))
computed (wide l) k = wholly l (λ r. k (wide r))
computed (sparse l) k = wholly l (λ r. k (sparse r))

unfoldable pub next : State → Effect → State
next s keeps = s
next s (becomes t) = t

-- the state after a call in W words and K keys
unfoldable pub after_one : ℕ → ℕ → Call State → State → State
after_one W K c s = pick (eqb (answer W K c s).number 0) (next s (effect c s)) s

-- the set that calls make of another, in room for anything
unfoldable pub made : List (Call State) → State → State
made [] s = s
made (c ∷ calls) s = computed (after_one 8192 16384 c s) (made calls)

unfoldable pub holding : List ℕ → State
holding l = made (map inserting l) prepared

-- ---- lines

-- what a call comes to in W words and K keys, and the number, value and state that it should
pub record Line : Type 0 where
  pub found : Answer × State
  pub wanted : Answer × State

abbrev pub line : ℕ → ℕ → Call State → State → ℕ → ℕ → State → Line
line W K c s number value state =
    record { found = (answer W K c s, after_one W K c s); wanted = (record { number = number; value = value }, state) }

abbrev pub founds : List Line → List (Answer × State)
founds lines = map (λ (l : Line). l.found) lines

abbrev pub wanteds : List Line → List (Answer × State)
wanteds lines = map (λ (l : Line). l.wanted) lines

-- {0..15} with 2048, the same less 0..7, and less 8 as well; {5000}, and that emptied
unfoldable pub seventeen : State
seventeen = made (inserting 2048 ∷ []) (holding (from 0 16))

unfoldable pub nine : State
nine = made (map removing (from 0 8)) seventeen

unfoldable pub far : State
far = holding (5000 ∷ [])

unfoldable pub emptied : State
emptied = made (removing 5000 ∷ []) far

abbrev pub marked : List Line
marked =
    -- "empty, insert 2047: narrow, span 32. insert 2048: sparse. insert 5000: needed 79, sparse."
    line 8192 16384 (inserting 2047) prepared 0 1 (narrow 32 (2047 ∷ []))
    ∷ line 8192 16384 (inserting 2048) prepared 0 1 (sparse (2048 ∷ []))
    ∷ line 8192 16384 (inserting 5000) prepared 0 1 (sparse (5000 ∷ []))
    -- "{0..14}, insert 2048: sparse. {0..15}, insert 2048: wide, span 33; with W = 32, number 4."
    ∷ line 8192 16384 (inserting 2048) (holding (from 0 15)) 0 1 (sparse (from 0 15 ++ (2048 ∷ [])))
    ∷ line 8192 16384 (inserting 2048) (holding (from 0 16)) 0 1 (wide (from 0 16 ++ (2048 ∷ [])))
    ∷ line 32 16384 (inserting 2048) (holding (from 0 16)) 4 0 (narrow 1 (from 0 16))
    -- "that wide set less 0..7: 9 left, wide. less 8 as well: 8 left, sparse. instead less 2048: narrow, span 1."
    ∷ line 8192 16384 (removing 7) (made (map removing (from 0 7)) seventeen) 0 1 (wide (from 8 8 ++ (2048 ∷ [])))
    ∷ line 8192 16384 (removing 8) nine 0 1 (sparse (from 9 7 ++ (2048 ∷ [])))
    ∷ line 8192 16384 (removing 2048) nine 0 1 (narrow 1 (from 8 8))
    -- "sparse {5000} XOR dense {0..39}: sparse. XOR {0..40}: wide, span 79, count 42."
    ∷ line 8192 16384 (xoring (holding (from 0 40))) far 0 0 (sparse (from 0 40 ++ (5000 ∷ [])))
    ∷ line 8192 16384 (xoring (holding (from 0 41))) far 0 0 (wide (from 0 41 ++ (5000 ∷ [])))
    -- "the wide 9-member set XORed into a fresh one: sparse."
    ∷ line 8192 16384 (xoring nine) prepared 0 0 (sparse (from 8 8 ++ (2048 ∷ [])))
    -- "empty sparse XOR empty narrow: narrow."
    ∷ line 8192 16384 (xoring prepared) emptied 0 0 (narrow 0 [])
    ∷ []

pub marked-hold : founds marked ≡ wanteds marked
unfolding from wholly computed next after_one made holding seventeen nine far emptied
    limit hold settle reach grown changed inserted toggled without removed cleared alone fused shared unshared xored_dense turns xored
    effect xor_value value refusal first limited index measured fit answer truth has against merge needed_from needed
marked-hold = refl

-- ---- what no such line covers

-- {0, 2047}; the wide {0..40, 5000}; {64} and {128}, whose spans are 2 and 3
unfoldable pub trailing : State
trailing = holding (0 ∷ 2047 ∷ [])

unfoldable pub spread_out : State
spread_out = made (xoring (holding (from 0 41)) ∷ []) far

unfoldable pub second : State
second = holding (64 ∷ [])

unfoldable pub third : State
third = holding (128 ∷ [])

-- {0..15} with one far index, which is wide if its span is at most limit(17); {0..7, 9, 2240}, wide with a span of 36
unfoldable pub limiting : ℕ → State
limiting i = made (inserting i ∷ []) (holding (from 0 16))

unfoldable pub holding_ten : State
holding_ten = made (map removing (8 ∷ from 10 8)) (made (inserting 2240 ∷ []) (holding (from 0 18)))

abbrev pub unmarked : List Line
unmarked =
    -- a narrow set is not trimmed by a removal, nor by toggling off, nor by clear; wide and sparse are cleared to span 0
    line 8192 16384 (removing 2047) trailing 0 1 (narrow 32 (0 ∷ []))
    ∷ line 8192 16384 (toggling 2047) trailing 0 0 (narrow 32 (0 ∷ []))
    ∷ line 8192 16384 clearing trailing 0 0 (narrow 32 [])
    ∷ line 8192 16384 clearing nine 0 0 (narrow 0 [])
    ∷ line 8192 16384 clearing far 0 0 (narrow 0 [])
    -- inserting what is there changes nothing, in each mode, and in a full sparse set; removing what isn't there changes nothing
    ∷ line 8192 16384 (inserting 0) trailing 0 0 (narrow 32 (0 ∷ 2047 ∷ []))
    ∷ line 8192 16384 (inserting 2048) nine 0 0 (wide (from 8 8 ++ (2048 ∷ [])))
    ∷ line 32 1 (inserting 5000) far 0 0 (sparse (5000 ∷ []))
    ∷ line 8192 16384 (removing 0) nine 0 0 (wide (from 8 8 ++ (2048 ∷ [])))
    -- within a wide span, a bit turned on doesn't settle, one turned off does: below hold it turns sparse
    ∷ line 8192 16384 (toggling 0) nine 0 0 (wide (0 ∷ from 8 8 ++ (2048 ∷ [])))
    ∷ line 8192 16384 (toggling 8) nine 0 0 (sparse (from 9 7 ++ (2048 ∷ [])))
    -- a sparse set stays sparse when emptied
    ∷ line 8192 16384 (removing 5000) far 0 1 (sparse [])
    -- fused, all three narrow: the smaller span or the larger, even with nothing in common; otherwise the exact one
    ∷ line 8192 16384 (xoring_shared second third) prepared 0 0 (narrow 2 [])
    ∷ line 8192 16384 (xoring_unshared second third) prepared 0 0 (narrow 3 (64 ∷ 128 ∷ []))
    ∷ line 8192 16384 (xoring_shared second third) emptied 0 0 (narrow 0 [])
    -- a walk of two indices into a narrow set: (c) by their exact span and number
    ∷ line 8192 16384 (xoring (made (map inserting (15 ∷ 2048 ∷ [])) emptied)) (holding (from 0 15)) 0 0 (wide (from 0 16 ++ (2048 ∷ [])))
    -- each threshold met exactly: a span of 32 in (b); a span of 34 at limit(17), by insert and in (c); one of 36 at hold(9), by a
    -- removal and in (d); spans of 80 at limit(40) and 41 members to one in (a), and as many members as the operand has
    ∷ line 8192 16384 (xoring (holding (1 ∷ []))) (made (removing 2047 ∷ []) trailing) 0 0 (narrow 32 (0 ∷ 1 ∷ []))
    ∷ line 8192 16384 (xoring (made (removing 2047 ∷ []) trailing)) (holding (1 ∷ [])) 0 0 (narrow 32 (0 ∷ 1 ∷ []))
    ∷ line 8192 16384 (inserting 2112) (holding (from 0 16)) 0 1 (wide (from 0 16 ++ (2112 ∷ [])))
    ∷ line 8192 16384 (xoring (made (map removing (from 0 8)) (limiting 2112))) (holding (from 0 8)) 0 0 (wide (from 0 16 ++ (2112 ∷ [])))
    ∷ line 8192 16384 (xoring (made (map removing (from 0 8)) (limiting 2112))) (holding (from 0 7)) 0 0 (sparse (from 0 7 ++ from 8 8 ++ (2112 ∷ [])))
    ∷ line 8192 16384 (removing 9) holding_ten 0 1 (wide (from 0 8 ++ (2240 ∷ [])))
    ∷ line 8192 16384 (xoring (holding (9 ∷ []))) holding_ten 0 0 (wide (from 0 8 ++ (2240 ∷ [])))
    ∷ line 8192 16384 (xoring (holding (from 0 41))) (holding (5056 ∷ [])) 0 0 (wide (from 0 41 ++ (5056 ∷ [])))
    ∷ line 8192 16384 (xoring (holding (7 ∷ []))) (made (inserting 6 ∷ []) emptied) 0 0 (narrow 1 (6 ∷ 7 ∷ []))
    -- in the last word of a wide span of 36, by 10 members at most: an index that is put in there, and one that is walked
    ∷ line 8192 16384 (inserting 2241) (made (removing 9 ∷ []) holding_ten) 0 1 (wide (from 0 8 ++ (2240 ∷ 2241 ∷ [])))
    ∷ line 8192 16384 (xoring (made (inserting 2241 ∷ []) emptied)) (made (removing 9 ∷ []) holding_ten) 0 0 (wide (from 0 8 ++ (2240 ∷ 2241 ∷ [])))
    -- settled to an exact span of 32
    ∷ line 8192 16384 (removing 2048) (made (inserting 2047 ∷ []) seventeen) 0 1 (narrow 32 (from 0 16 ++ (2047 ∷ [])))
    -- only the final state is measured: through span 79 in 40 words, and through two keys in room for one
    ∷ line 40 1 (xoring spread_out) far 0 0 (narrow 1 (from 0 41))
    ∷ line 32 1 (xoring (made (inserting 6000 ∷ []) far)) far 0 0 (sparse (6000 ∷ []))
    -- 5 by a removal; 4 before 5 by the rules; 3 before both
    ∷ line 33 0 (removing 8) nine 5 0 (wide (from 8 8 ++ (2048 ∷ [])))
    ∷ line 32 0 (inserting 2048) (holding (from 0 16)) 4 0 (narrow 1 (from 0 16))
    ∷ line 32 0 (inserting 2048) (holding (from 0 15)) 5 0 (narrow 1 (from 0 15))
    ∷ line 32 0 (inserting 4294967296) prepared 3 0 prepared
    ∷ []

pub unmarked-hold : founds unmarked ≡ wanteds unmarked
unfolding from wholly computed next after_one made holding seventeen nine far emptied trailing spread_out second third limiting holding_ten
    limit hold settle reach grown changed inserted toggled without removed cleared alone fused shared unshared xored_dense turns xored
    effect xor_value value refusal first limited index measured fit answer truth has against merge needed_from needed
unmarked-hold = refl

-- ---- the order of refusals, on bytes

-- a header over 32 words of 0, and over none, with no keys
abbrev pub over : ℕ → ℕ → Bytes
over mode W = record { header = record { mode = mode; span = 0; count = 0 }; words = replicate W 0; keys = [] }

-- 1 before 2, an operand's 1 before the target's 2, 2 before 3, and a prepared set, which nothing refuses
abbrev pub refusals : List Answer
refusals =
    (result_of clearing (over 7 0)).answer
    ∷ (result_of (xoring (over 0 31)) (over 7 32)).answer
    ∷ (result_of (xoring (over 7 32)) (over 0 32)).answer
    ∷ (result_of (inserting 4294967296) (over 7 32)).answer
    ∷ (result_of (inserting 4294967296) (over 0 32)).answer
    ∷ (result_of (inserting 4294967295) (over 0 32)).answer
    ∷ (result_of counting (over 0 32)).answer
    ∷ []

pub refusals-hold : refusals ≡ map refusal (1 ∷ 1 ∷ 2 ∷ 2 ∷ 3 ∷ 5 ∷ 0 ∷ [])
unfolding result_of judged operands viewed range verdict in_range sound sound_narrow sound_wide sound_sparse view stored members_from zeros ascends
    limit grown changed inserted cleared alone xored_dense xored reach settle
    effect xor_value value refusal first limited index measured fit answer truth has against merge needed_from needed
refusals-hold = refl
