-- Sets of natural numbers as strictly ascending lists. Every set operation is a way of merging two such lists, told by
-- what becomes of the elements of the left one only, of the right one only, and of both. Assumes nothing.
use Rattle.std.specs.Prelude.{Bool, true, false, ◌&&◌, ◌||◌, List, [], ◌∷◌, ℕ, suc, ◌≤◌, ◌<◌, eqb, ltb}

-- one of two, by a test
abbrev pub pick : {A : Type 0} → Bool → A → A → A
pick true a b = a
pick false a b = b

-- x in front of l, where it is kept
abbrev pub keep : Bool → ℕ → List ℕ → List ℕ
keep kept x l = pick kept (x ∷ l) l

-- each element is at least b, and above the one before it
unfoldable pub From : ℕ → List ℕ → Type 0
From b [] = Unit
From b (x ∷ l) = (b ≤ x) × From (suc x) l

-- strictly ascending
abbrev pub Ascending : List ℕ → Type 0
Ascending l = From 0 l

-- every element is below n
unfoldable pub Below : ℕ → List ℕ → Type 0
Below n [] = Unit
Below n (x ∷ l) = (x < n) × Below n l

-- i stands in l
unfoldable pub has : List ℕ → ℕ → Bool
has [] i = false
has (x ∷ l) i = eqb x i || has l i

-- two lists element by element
unfoldable pub same : List ℕ → List ℕ → Bool
same [] [] = true
same [] (y ∷ r) = false
same (x ∷ l) [] = false
same (x ∷ l) (y ∷ r) = eqb x y && same l r

-- x and what follows it, merged with the right list; `rest` merges what follows with any list
unfoldable pub against : Bool → Bool → Bool → ℕ → (List ℕ → List ℕ) → List ℕ → List ℕ
against left right both x rest [] = keep left x (rest [])
against left right both x rest (y ∷ r) =
    pick (ltb x y) (keep left x (rest (y ∷ r))) (pick (eqb x y) (keep both x (rest r)) (keep right y (against left right both x rest r)))

-- two ascending lists merged: `left`, `right` and `both` say whether an element of the left one only, of the right one
-- only, and of both is kept
unfoldable pub merge : Bool → Bool → Bool → List ℕ → List ℕ → List ℕ
unfolding against
merge left right both [] r = pick right r []
merge left right both (x ∷ l) r = against left right both x (merge left right both l) r

-- the elements of one of the two, not of both
abbrev pub difference : List ℕ → List ℕ → List ℕ
difference l r = merge true true false l r

-- the elements of both
abbrev pub intersection : List ℕ → List ℕ → List ℕ
intersection l r = merge false false true l r

-- i put in, taken out, or whichever of the two changes something
abbrev pub insert : ℕ → List ℕ → List ℕ
insert i l = merge true true true (i ∷ []) l

abbrev pub remove : ℕ → List ℕ → List ℕ
remove i l = merge false true false (i ∷ []) l

abbrev pub toggle : ℕ → List ℕ → List ℕ
toggle i l = difference (i ∷ []) l
