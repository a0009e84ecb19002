-- Worked cases of the definitions, by computation, as one statement over a list. Assumes nothing.
use mathlib.Core.List.{List, [], ◌∷◌, ◌++◌}
use mathlib.Core.Path.{◌≡◌, refl}
use Prim.Native.Nat.{ℕ, zero, suc}
use lib.ListN.{replicate}
use Rattle.words.specs.Sets.{insert, remove, toggle, difference, intersection, merge, against}
use Rattle.words.specs.Words.{ones_from, members_from, members, count, lowest, exact, exact_from, needed, needed_from, words_of, flips, flip, put_at, put, xors, ands, into}

-- n numbers from a on
abbrev pub upto : ℕ → ℕ → List ℕ
upto a zero = []
upto a (suc n) = a ∷ upto (suc a) n

-- a case: what is computed, and what it must be
pub data Case : Type 0 where
  gives : List ℕ → List ℕ → Case

abbrev pub computed : List Case → List (List ℕ)
computed [] = []
computed (gives l r ∷ cases) = l ∷ computed cases

abbrev pub expected : List Case → List (List ℕ)
expected [] = []
expected (gives l r ∷ cases) = r ∷ expected cases

unfoldable pub cases : List Case
unfolding merge against ones_from members_from lowest count exact exact_from needed needed_from put put_at flip flips words_of xors ands into
cases =
    gives (insert 5 (3 ∷ 9 ∷ [])) (3 ∷ 5 ∷ 9 ∷ [])
    ∷ gives (insert 9 (3 ∷ 9 ∷ [])) (3 ∷ 9 ∷ [])
    ∷ gives (remove 3 (3 ∷ 9 ∷ [])) (9 ∷ [])
    ∷ gives (remove 5 (3 ∷ 9 ∷ [])) (3 ∷ 9 ∷ [])
    ∷ gives (toggle 3 (toggle 5 (3 ∷ 9 ∷ []))) (5 ∷ 9 ∷ [])
    ∷ gives (difference (1 ∷ 2 ∷ 4 ∷ []) (0 ∷ 2 ∷ 5 ∷ [])) (0 ∷ 1 ∷ 4 ∷ 5 ∷ [])
    ∷ gives (intersection (1 ∷ 2 ∷ 4 ∷ []) (0 ∷ 2 ∷ 4 ∷ [])) (2 ∷ 4 ∷ [])
    ∷ gives (words_of 33 (insert 2048 (upto 0 16))) (65535 ∷ (replicate 31 0 ++ (1 ∷ [])))
    ∷ gives (members (words_of 79 (difference (upto 0 41) (5000 ∷ [])))) (upto 0 41 ++ (5000 ∷ []))
    ∷ gives (exact (words_of 40 (insert 2048 (upto 0 16))) ∷ needed (insert 2048 (upto 0 16)) ∷ []) (33 ∷ 33 ∷ [])
    ∷ gives (exact (0 ∷ 5 ∷ 0 ∷ 0 ∷ []) ∷ exact (0 ∷ 0 ∷ []) ∷ needed [] ∷ []) (2 ∷ 0 ∷ 0 ∷ [])
    ∷ gives (lowest 40 ∷ lowest 0 ∷ count (40 ∷ 1 ∷ []) ∷ []) (3 ∷ 64 ∷ 3 ∷ [])
    ∷ gives (flips (0 ∷ 0 ∷ []) (64 ∷ 3 ∷ 64 ∷ [])) (8 ∷ 0 ∷ [])
    ∷ gives (xors (6 ∷ []) (3 ∷ 9 ∷ [])) (5 ∷ 9 ∷ [])
    ∷ gives (ands (6 ∷ []) (3 ∷ 9 ∷ [])) (2 ∷ [])
    ∷ gives (into (6 ∷ []) (3 ∷ 9 ∷ [])) (5 ∷ [])
    ∷ []

pub worked : computed cases ≡ expected cases
unfolding cases merge against ones_from members_from lowest count exact exact_from needed needed_from put put_at flip flips words_of xors ands into
worked = refl
