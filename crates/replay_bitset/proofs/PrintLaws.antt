-- The indices that a dump goes over are the members of its words. Assumes nothing.
use Rattle.std.proofs.Common.{◌≡◌, refl, sym, ap, ◌∙◌, ℕ, zero, suc, ◌+◌, ◌*◌, ◌/◌, ◌≤◌, ◌<◌, min, Bool, true, false, ◌&&◌, ◌||◌, List, [], ◌++◌, length, take, flat_map, eqb, ltb, add-one, append-nil, arith, length-take, ◌⊎◌, inl, inr}
use Rattle.std.proofs.lemmas.List.{get_or-take}
use Rattle.std.proofs.lemmas.Grind.{flat_map-append}
use mathlib.Core.Bool.{or-false}
use borrow.Author.Tests.{eq-eqb, ne_eqb, lt-ltb, le-ltb, ltb-true}
use Rattle.words.specs.Sets.{keep, From, Ascending, has}
use Rattle.words.specs.Words.{at, members}
use Rattle.words.proofs.Cases.{three_ways, below_or_not, and_parts}
use Rattle.words.proofs.SetLaws.{has-append, from-append}
use Rattle.words.proofs.RowLaws.{at-past}
use Rattle.words.proofs.MemberLaws.{members_are}
use Rattle.history.specs.Fields.{member_line}

-- the indices below n that words have, lowest first
unfoldable pub present : List ℕ → ℕ → List ℕ
present ws zero = []
present ws (suc n) = present ws n ++ keep (at ws n) n []

has-keep : (t : Bool) (n i : ℕ) → has (keep t n []) i ≡ (eqb n i && t)
unfolding has
has-keep true n i = elim (eqb n i) as (λ v. (v || false) ≡ (v && true)) [ true ↦ refl | false ↦ refl ]
has-keep false n i = elim (eqb n i) as (λ v. false ≡ (v && false)) [ true ↦ refl | false ↦ refl ]

from-keep : (t : Bool) (n : ℕ) → From n (keep t n [])
unfolding From
from-keep true n = (omega arith, tt)
from-keep false n = tt

has-present : (ws : List ℕ) (n i : ℕ) → has (present ws n) i ≡ (ltb i n && at ws i)
unfolding has present
has-present ws zero i = rw (le-ltb i 0 (omega arith))
has-present ws (suc n) i =
    has-append (present ws n) (keep (at ws n) n []) i ∙ rw (has-present ws n i, has-keep (at ws n) n i) (go (three_ways i n))
  where
    go : (i < n) ⊎ ((i ≡ n) ⊎ (n < i)) → ((ltb i n && at ws i) || (eqb n i && at ws n)) ≡ (ltb i (suc n) && at ws i)
    go (inl l) = rw (lt-ltb i n l, lt-ltb i (suc n) (omega arith), ne_eqb n i (λ e. omega arith)) (or-false (at ws i))
    go (inr (inl e)) = rw (e, le-ltb n n (omega arith), lt-ltb n (suc n) (omega arith), eq-eqb n n refl)
    go (inr (inr l)) = rw (le-ltb i n (omega arith), le-ltb i (suc n) (omega arith), ne_eqb n i (λ e. omega arith))

ascending-present : (ws : List ℕ) (n : ℕ) → Ascending (present ws n)
unfolding present From
ascending-present ws zero = tt
ascending-present ws (suc n) =
    from-append 0 n (present ws n) (keep (at ws n) n []) (ascending-present ws n) (from-keep (at ws n) n) (omega arith)
    (λ i e. ltb-true i n (and_parts (ltb i n) (at ws i) (sym (has-present ws n i) ∙ e)).0)

pub members-present : (ws : List ℕ) (W : ℕ) → members (take W ws) ≡ present ws (64 * min (length ws) W)
members-present ws W =
    members_are (take W ws) (present ws (64 * min (length ws) W)) (ascending-present ws (64 * min (length ws) W))
    (λ i. go i (below_or_not (i / 64) (min (length ws) W)) ∙ sym (has-present ws (64 * min (length ws) W) i))
  where
    go : (i : ℕ) → (i / 64 < min (length ws) W) ⊎ (min (length ws) W ≤ i / 64)
        → at (take W ws) i ≡ (ltb i (64 * min (length ws) W) && at ws i)
    go i (inl l) = rw (lt-ltb i (64 * min (length ws) W) (omega arith), get_or-take W ws (i / 64) 0 (omega arith))
    go i (inr l) =
        rw (le-ltb i (64 * min (length ws) W) (omega arith)) (at-past (take W ws) i (omega (arith, length-take W ws)))

-- ---- the lines of a dump

-- one index more
pub lines_more : (ws : List ℕ) (n : ℕ) → at ws n ≡ true
    → flat_map member_line (present ws (n + 1)) ≡ flat_map member_line (present ws n) ++ member_line n
unfolding present
lines_more ws n held =
    rw (add-one, held, flat_map-append) (ap (λ l. flat_map member_line (present ws n) ++ l) (append-nil (member_line n)))

pub lines_same : (ws : List ℕ) (n : ℕ) → at ws n ≡ false
    → flat_map member_line (present ws (n + 1)) ≡ flat_map member_line (present ws n)
unfolding present
lines_same ws n failed = rw (add-one, failed, append-nil)
