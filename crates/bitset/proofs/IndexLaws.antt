-- Lists of indices: what is left of one where a loop stands, the entries that a test takes, and what flipping a list makes of the
-- span and of the members. Assumes nothing.
use mathlib.Core.Path.{◌≡◌, refl, ap, ap₂, ◌∙◌}
use mathlib.Core.Bool.{Bool, true, false, cond}
use mathlib.Core.List.{List, [], ◌∷◌}
use Prim.Native.Nat.{ℕ, zero, suc, ◌+◌, ◌*◌, ◌/◌, ◌≤◌, ◌<◌, max}
use native.Mathlib.Numerals.{add-one}
use native.Mathlib.Omega.{arith}
use lib.ListN.{length, get_or, drop, drop_of_length-le}
use Rattle.std.specs.Prelude.{count_by}
use Rattle.std.proofs.lemmas.List.Recursion.{is_count_by}
use Rattle.words.proofs.SetLaws.{below_at}
use lib.Seq.{drop-cons}
use Rattle.words.specs.Sets.{keep, Below}
use Rattle.words.specs.Words.{members, flip, flips}
use Rattle.words.proofs.MemberLaws.{members-flip, length-flips}
use Rattle.bitset.specs.Rules.{State, toggled, flipped, entries}
use Rattle.bitset.specs.Steps.{reached}

-- what is left at place i
pub drop-next : (l : List ℕ) (i : ℕ) → i < length l → drop i l ≡ get_or l i 0 ∷ drop (i + 1) l
drop-next l i h = rw (add-one i) (drop-cons l i 0 h)

-- ---- entries

-- where the entries are below n, so is each index that the test takes
pub entries_below : (n : ℕ) (takes : ℕ → Bool) (l : List ℕ) (i : ℕ) → Below n (entries takes l) → i < length l → takes (get_or l i 0) ≡ true
    → get_or l i 0 < n
unfolding entries Below
entries_below n takes [] i b h e = absurd (omega arith)
entries_below n takes (x ∷ l) zero b h e = (rw e at b).0
entries_below n takes (x ∷ l) (suc i) b h e = entries_below n takes l i (rest (takes x) (entries takes l) b) (omega arith) e
  where
    rest : (t : Bool) (r : List ℕ) → Below n (keep t x r) → Below n r
    rest true r b = b.1
    rest false r b = b

pub entries-same : (p q : ℕ → Bool) (l : List ℕ) → ((i : ℕ) → p i ≡ q i) → entries p l ≡ entries q l
unfolding entries
entries-same p q [] h = refl
entries-same p q (i ∷ l) h = ap₂ (λ (t : Bool) (r : List ℕ). keep t i r) (h i) (entries-same p q l h)

-- std's name for their number
pub length-entries : (takes : ℕ → Bool) (l : List ℕ) → length (entries takes l) ≡ count_by takes l
unfolding entries
length-entries takes l = is_count_by (λ k. length (entries takes k)) takes refl (λ x k. kept (takes x) x (entries takes k)) l
  where
    kept : (t : Bool) (x : ℕ) (k : List ℕ) → length (keep t x k) ≡ cond t (1 + length k) (length k)
    kept true x k = omega arith
    kept false x k = refl

-- ---- the span

pub reached_most : (s : ℕ) (l : List ℕ) → s ≤ reached s l
unfolding reached
reached_most s [] = omega arith
reached_most s (i ∷ l) = omega (arith, reached_most (max s (i / 64 + 1)) l)

-- words that the span fits in have every index
pub reached-below : (s W : ℕ) (l : List ℕ) → reached s l ≤ W → Below (64 * W) l
unfolding reached Below
reached-below s W [] h = tt
reached-below s W (i ∷ l) h = (omega (arith, reached_most (max s (i / 64 + 1)) l), reached-below (max s (i / 64 + 1)) W l h)

pub reached-flipped : (l : List ℕ) (s : State) → (flipped l s).span ≡ reached s.span l
unfolding flipped reached
reached-flipped [] s = refl
reached-flipped (i ∷ l) s = reached-flipped l (toggled i s)

-- ---- the members

pub members-flipped : (ws l : List ℕ) (s : ℕ) → Below (64 * length ws) l
    → members (flips ws l) ≡ (flipped l (record { span = s; members = members ws })).members
unfolding flipped flips Below
members-flipped ws [] s h = refl
members-flipped ws (i ∷ l) s h =
    members-flipped (flip ws i) l (max s (i / 64 + 1)) (rw (length-flips ws (i ∷ [])) h.1)
    ∙ ap (λ (m : List ℕ). (flipped l (record { span = max s (i / 64 + 1); members = m })).members) (members-flip ws i (omega (arith, h.0)))

-- what a loop over a list of indices keeps
pub ruleset listed = (drop-next, drop_of_length-le, below_at, entries_below, length-flips)
