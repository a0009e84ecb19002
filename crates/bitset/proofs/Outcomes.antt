-- What the calls are proved by: words that hold the members of a state are its words, and the front of sound words up to the span
-- has all members. Assumes nothing.
use mathlib.Core.Path.{◌≡◌, refl, sym, ap₂, ◌∙◌}
use mathlib.Core.Bool.{true}
use mathlib.Core.List.{List, [], ◌++◌}
use Prim.Native.Nat.{ℕ, ◌/◌, ◌≤◌}
use lib.Dec.{eqb}
use lib.ListN.{length, get_or, take, drop, replicate, length-take}
use mir.Val.{Fits}
use mir.Syntax.{w64}
use borrow.Author.Tests.{le-leb}
use Rattle.words.specs.Sets.{same, remove}
use Rattle.words.specs.Words.{members, count, exact, zeros, Words, words_of, xors}
use Rattle.words.proofs.SetLaws.{remove_absent, same-difference}
use Rattle.words.proofs.RowLaws.{at-past, words_from, words-xors, zeros-append, zeros-replicate, length-into, length-xors, length-ands}
use Rattle.words.proofs.MemberLaws.{ascending-members, has-members, words-members, members-set, members-flip, members-clear, members-xors, members-ands, members-into, members-none, members_front, zeros-none, zeros_front, exact_empty}
use Rattle.bitset.specs.declared.BitSet.{BitSet}
use Rattle.bitset.specs.Calls.{in_range, sound, judged, bytes_of, Sound}

-- what the type of a slice says of its words
abbrev pub Fit : List ℕ → Type 0
Fit ws = (k : ℕ) → Fits w64 (get_or ws k 0)

words_fit : (ws : List ℕ) → Fit ws → Words ws
words_fit ws f = words_from ws (λ k. (f k).fits)

-- ---- judging

-- nothing refuses a sound set
pub judged-in_range : (set : BitSet) (ws : List ℕ) → Sound set ws → (judged (bytes_of set ws)).in_range ≡ true
unfolding judged in_range bytes_of
judged-in_range set ws h = le-leb (length ws) 8192 h.few

pub judged-sound : (set : BitSet) (ws : List ℕ) → Sound set ws → (judged (bytes_of set ws)).sound ≡ true
unfolding judged sound bytes_of
judged-sound set ws h = rw (le-leb set.span (length ws) h.within) h.beyond

-- ---- writing

-- words that hold the members of a state are its words
pub written_fit : (new : List ℕ) (W : ℕ) (l : List ℕ) → Fit new → length new ≡ W → members new ≡ l → new ≡ words_of W l
written_fit new W l f e m = sym (words-members new (words_fit new f)) ∙ ap₂ words_of e m

-- past the words nothing is there to be removed
pub remove_past : (ws : List ℕ) (i : ℕ) → length ws ≤ i / 64 → remove i (members ws) ≡ members ws
remove_past ws i h = remove_absent i (members ws) (ascending-members ws) (has-members ws i ∙ at-past ws i h)

-- the front up to the span set to 0, before a rest that is 0
pub members_cleared : (front rest : List ℕ) (n : ℕ) → front ≡ replicate n 0 → zeros rest ≡ true → members (front ++ rest) ≡ []
members_cleared front rest n e z = members-none (front ++ rest) (rw (zeros-append front rest, e, z, zeros-replicate n))

-- ---- reading

pub zeros_fit : (ws : List ℕ) → Fit ws → zeros ws ≡ eqb (length (members ws)) 0
zeros_fit ws f = zeros-none ws (words_fit ws f)

pub count-members : (ws : List ℕ) → count ws ≡ length (members ws)
unfolding count
count-members ws = refl

-- the XOR of two rows tells whether their members are the same
pub exact-same : (a b : List ℕ) → Fit a → Fit b → eqb (exact (xors a b)) 0 ≡ same (members a) (members b)
exact-same a b f g =
    exact_empty (xors a b) (words-xors a b (words_fit a f) (words_fit b g))
    ∙ rw (members-xors a b) (same-difference 0 (members a) (members b) (ascending-members a) (ascending-members b))

-- what the calls over sets that are known to be sound are proved by
pub ruleset calls = (
  judged-in_range,
  judged-sound,
  written_fit,
  has-members,
  at-past,
  members-set,
  members-flip,
  members-clear,
  remove_past,
  members_cleared,
  members_front,
  members-xors,
  members-ands,
  members-into,
  length-xors,
  length-ands,
  length-into,
  length-take,
  zeros_fit,
  count-members,
  exact-same,
)
