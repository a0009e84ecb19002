-- Searching an ascending list: the turns of the search, the place, and what an answer means. Assumes nothing.
use mathlib.Core.Path.{◌≡◌, refl, sym, ap, ◌∙◌}
use mathlib.Core.Logic.{⊎_elim}
use mathlib.Core.Bool.{Bool, true, false}
use mathlib.Core.List.{List, [], ◌∷◌}
use Prim.Native.Nat.{ℕ, zero, suc, ◌+◌, ◌≤◌, ◌<◌}
use native.Mathlib.Numerals.{add-one}
use Rattle.std.specs.Prelude.{Result, Ok, Err}
use native.Mathlib.Omega.{arith}
use lib.Dec.{eqb, ltb}
use lib.ListN.{length, get_or, take, drop}
use borrow.Author.Tests.{lt-ltb, le-ltb, ltb-true, eq-eqb, ne_eqb}
use Rattle.words.specs.Sets.{pick, From, Ascending, has}
use Rattle.words.proofs.Cases.{three_ways, clash, pick-case}
use Rattle.words.proofs.SetLaws.{has_low, has-tail}
use Rattle.answers.specs.Answers.{truth}
use Rattle.ascending.specs.Search.{place, found, present, place_of, later, told}
use Rattle.ascending.proofs.OrderLaws.{from_at, from-take}

-- ---- one element in front

found-cons : (x y : ℕ) (l : List ℕ) → From (suc y) l → found x (y ∷ l) ≡ pick (ltb y x) (later 1 (found x l)) (pick (eqb y x) (Ok 0) (Err 0))
unfolding found has later
found-cons x y l f =
    ⊎_elim (λ q. rw (lt-ltb y x q, ne_eqb y x (λ e. omega arith)) (further (has l x)))
    (λ s. ⊎_elim (λ e. rw (le-ltb y x (omega arith), eq-eqb y x e))
    (λ q. rw (le-ltb y x (omega arith), ne_eqb y x (λ e. omega arith), has_low (suc y) x l f (omega arith))) s) (three_ways y x)
  where
    further : (t : Bool) → pick t (Ok (suc (place x l))) (Err (suc (place x l))) ≡ later 1 (pick t (Ok (place x l)) (Err (place x l)))
    further true = ap Ok (omega arith)
    further false = ap Err (omega arith)

later-later : (m n : ℕ) (f : Result ℕ ℕ) → later m (later n f) ≡ later (m + n) f
unfolding later
later-later m n (Ok p) = ap Ok (omega arith)
later-later m n (Err p) = ap Err (omega arith)

-- ---- the turns of a search

pub found_none : (x : ℕ) (l : List ℕ) → length l ≡ 0 → found x l ≡ Err 0
unfolding found has
found_none x [] e = refl
found_none x (y ∷ l) e = absurd (omega arith)

-- the element at the middle, and one that is in front of it or behind it
module _ (x : ℕ) where
  pub found_here : (b : ℕ) (l : List ℕ) (m : ℕ) → From b l → m < length l → get_or l m 0 ≡ x → found x l ≡ Ok m
  unfolding From later
  found_here b [] m f h e = elim h [ ]
  found_here b (y ∷ l) zero f h e = rw (found-cons x y l f.1, le-ltb y x (omega arith), eq-eqb y x e)
  found_here b (y ∷ l) (suc m) f h e =
      let above : suc y ≤ get_or l m 0 = from_at (suc y) l m f.1 (omega arith) in
      rw (found-cons x y l f.1, lt-ltb y x (omega arith), found_here (suc y) l m f.1 (omega arith) e) (ap Ok (omega arith))

  pub found_front : (b : ℕ) (l : List ℕ) (m : ℕ) → From b l → m < length l → x < get_or l m 0 → found x l ≡ found x (take m l)
  unfolding From found has
  found_front b [] m f h q = elim h [ ]
  found_front b (y ∷ l) zero f h q = rw (found-cons x y l f.1, le-ltb y x (omega arith), ne_eqb y x (λ e. omega arith))
  found_front b (y ∷ l) (suc m) f h q =
      rw (found-cons x y l f.1, found-cons x y (take m l) (from-take (suc y) m l f.1), found_front (suc y) l m f.1 (omega arith) q)

  found-behind : (b : ℕ) (l : List ℕ) (m : ℕ) → From b l → m < length l → get_or l m 0 < x → found x l ≡ later (suc m) (found x (drop (suc m) l))
  unfolding From
  found-behind b [] m f h q = elim h [ ]
  found-behind b (y ∷ l) zero f h q = rw (found-cons x y l f.1, lt-ltb y x q)
  found-behind b (y ∷ l) (suc m) f h q =
      let above : suc y ≤ get_or l m 0 = from_at (suc y) l m f.1 (omega arith) in
      rw (found-cons x y l f.1, lt-ltb y x (omega arith), found-behind (suc y) l m f.1 (omega arith) q)
      (later-later 1 (suc m) (found x (drop (suc m) l)) ∙ ap (λ (n : ℕ). later n (found x (drop (suc m) l))) (omega arith))

  pub found_back : (l : List ℕ) (m : ℕ) → Ascending l → m < length l → get_or l m 0 < x → found x l ≡ later (m + 1) (found x (drop (m + 1) l))
  found_back l m f h q = rw (add-one m) (found-behind 0 l m f h q)

-- ---- the place

pub place-le : (x : ℕ) (l : List ℕ) → place x l ≤ length l
unfolding place
place-le x [] = omega arith
place-le x (y ∷ l) = pick-case (λ (n : ℕ). n ≤ suc (length l)) (ltb y x) (λ e. omega (arith, place-le x l)) (λ e. omega arith)

pub place-lt : (x : ℕ) (l : List ℕ) → has l x ≡ true → place x l < length l
unfolding place has
place-lt x [] h = clash (sym h)
place-lt x (y ∷ l) h =
    pick-case (λ (n : ℕ). n < suc (length l)) (ltb y x)
    (λ e. omega (arith, place-lt x l (sym (has-tail y x l (λ q. omega (arith, ltb-true y x e))) ∙ h))) (λ e. omega arith)

-- ---- what an answer means

pub found-present : (x : ℕ) (l : List ℕ) → present (found x l) ≡ has l x
unfolding found present
found-present x l = go (has l x)
  where
    go : (t : Bool) → present (pick t (Ok (place x l)) (Err (place x l))) ≡ t
    go true = refl
    go false = refl

pub found-place : (x : ℕ) (l : List ℕ) → place_of (found x l) ≡ place x l
unfolding found place_of
found-place x l = pick-case (λ (f : Result ℕ ℕ). place_of f ≡ place x l) (has l x) (λ e. refl) (λ e. refl)

pub found_within : {f : Result ℕ ℕ} (x : ℕ) (l : List ℕ) → f ≡ found x l → place_of f ≤ length l
found_within x l e = omega (arith, ap place_of e, found-place x l, place-le x l)

-- x stands at place p of l
pub record Stands (x : ℕ) (l : List ℕ) (p : ℕ) : Type 0 where
  pub is : has l x ≡ true
  pub at : place x l ≡ p
  pub within : p < length l

-- l lacks x, which would stand at place p
pub record Lacks (x : ℕ) (l : List ℕ) (p : ℕ) : Type 0 where
  pub is : has l x ≡ false
  pub at : place x l ≡ p
  pub within : p ≤ length l

module _ (x : ℕ) (l : List ℕ) {p : ℕ} where
  pub found_at : found x l ≡ Ok p → Stands x l p
  unfolding present place_of
  found_at e =
      let is : has l x ≡ true = sym (found-present x l) ∙ ap present e in
      let at : place x l ≡ p = sym (found-place x l) ∙ ap place_of e in
      record { is = is; at = at; within = omega (arith, place-lt x l is) }

  pub found-absent : found x l ≡ Err p → Lacks x l p
  unfolding present place_of
  found-absent e =
      let at : place x l ≡ p = sym (found-place x l) ∙ ap place_of e in
      record { is = sym (found-present x l) ∙ ap present e; at = at; within = omega (arith, place-le x l) }

-- what it comes to as an answer is whether the element is there
pub told_is : (f : Result ℕ ℕ) → told f ≡ record { number = 0; value = truth (present f) }
unfolding told truth present
told_is (Ok p) = refl
told_is (Err p) = refl
