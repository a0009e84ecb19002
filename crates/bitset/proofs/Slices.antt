-- The slice forms: a list of indices judged with its sets, and what the calls that take one are proved by. Assumes nothing.
use mathlib.Core.Path.{◌≡◌, refl, sym, ◌∙◌}
use mathlib.Core.Bool.{Bool, true, false}
use mathlib.Core.List.{List}
use Prim.Native.Nat.{ℕ, ◌≤◌}
use native.Mathlib.Omega.{arith}
use lib.Dec.{leb}
use lib.ListN.{length}
use borrow.Author.Tests.{leb-true}
use Rattle.words.specs.Sets.{pick, has}
use Rattle.words.specs.Words.{at, members}
use Rattle.words.proofs.Cases.{two_tests}
use Rattle.words.proofs.MemberLaws.{has-members, length-flips}
use Rattle.answers.specs.Judging.{Judged, sounded, verdict, earlier}
use Rattle.answers.proofs.Judging.{ranged-is, sounded-is, earlier-none}
use Rattle.bitset.specs.Rules.{entries}
use Rattle.bitset.specs.Calls.{verdict_with}
use Rattle.bitset.proofs.Outcomes.{judged-in_range, judged-sound, written_fit}
use Rattle.bitset.proofs.IndexLaws.{entries-same, reached_most, reached-below, reached-flipped, members-flipped}

-- ---- judging

-- a list of indices is judged by itself, too
pub verdict-verdict_with : (l : List ℕ) (sets : List Judged) → verdict_with l sets ≡ earlier (pick (leb (length l) 16384) 0 1) (verdict sets)
unfolding verdict verdict_with earlier
verdict-verdict_with l sets =
    let r = ranged-is sets in
    let s = sounded-is sets in
    rw (r.1 (pick (leb (length l) 16384) (sounded sets 0) 1), r.1 (sounded sets 0), s.1) (go (leb (length l) 16384) r.0 s.0)
  where
    go : (q t u : Bool) → pick t (pick q (pick u 0 2) 1) 1 ≡ earlier (pick q 0 1) (pick t (pick u 0 2) 1)
    go true t u = two_tests (λ t u. pick t (pick u 0 2) 1 ≡ earlier 0 (pick t (pick u 0 2) 1)) refl refl refl refl t u
    go false t u = two_tests (λ t u. pick t 1 1 ≡ earlier 1 (pick t (pick u 0 2) 1)) refl refl refl refl t u

-- and where that is 0, the list is short and nothing refuses the sets
pub with_none : (l : List ℕ) (sets : List Judged) → verdict_with l sets ≡ 0 → (length l ≤ 16384) × (verdict sets ≡ 0)
with_none l sets z =
    let parts = earlier-none _ _ (sym (verdict-verdict_with l sets) ∙ z) in
    (go (leb (length l) 16384) refl parts.0, parts.1)
  where
    go : (t : Bool) → leb (length l) 16384 ≡ t → ◌≡◌ {A = ℕ} (pick t 0 1) 0 → length l ≤ 16384
    go true e z = leb-true (length l) 16384 e
    go false e z = absurd (omega arith)

-- ---- flipping and counting

-- the entries that a set has are those at which its words have a one
pub entries-members : (others l : List ℕ) → entries (has (members others)) l ≡ entries (at others) l
entries-members others l = entries-same (has (members others)) (at others) l (has-members others)

-- what the calls that take a list are proved by
pub ruleset slices = (judged-in_range, judged-sound, written_fit, length-flips, reached_most, reached-below, reached-flipped, members-flipped, entries-members)
