-- Ascending order: its test, its parts, and what the scans for order and for equality come to. Assumes nothing.
use mathlib.Core.Path.{◌≡◌, refl, sym, ap, ◌∙◌}
use mathlib.Core.Logic.{⊎_elim}
use mathlib.Core.Bool.{Bool, true, false, not, ◌&&◌, ◌||◌, and-true, and-false, and_assoc}
use mathlib.Core.List.{List, [], ◌∷◌}
use Prim.Native.Nat.{ℕ, zero, suc, ◌+◌, ◌-◌, ◌≤◌, ◌<◌}
use native.Mathlib.Numerals.{add-one}
use native.Mathlib.Omega.{arith}
use lib.Dec.{eqb, leb, ltb}
use Rattle.std.proofs.Common.{map, fold}
use Rattle.std.specs.List.{zip}
use lib.ListN.{length, get_or, take, drop, drop_of_length-le}
use lib.Seq.{drop-cons}
use borrow.Author.Tests.{lt-ltb, le-ltb, lt-leb, le-leb, ltb-true}
use Rattle.words.specs.Sets.{From, Ascending, same}
use Rattle.words.proofs.Cases.{below_or_not, and_parts, two_tests}
use Rattle.words.proofs.SetLaws.{from_le}
use Rattle.ascending.specs.Order.{above, ascends}

-- ---- the test

above_from : (x : ℕ) (l : List ℕ) → above x l ≡ true → From (suc x) l
unfolding above From
above_from x [] h = tt
above_from x (y ∷ l) h = let parts = and_parts (ltb x y) (above y l) h in (ltb-true x y parts.0, above_from y l parts.1)

from-above : (x : ℕ) (l : List ℕ) → From (suc x) l → above x l ≡ true
unfolding above From
from-above x [] f = refl
from-above x (y ∷ l) f = rw (lt-ltb x y f.0) (from-above y l f.1)

pub ascends-ascending : (l : List ℕ) → ascends l ≡ true → Ascending l
unfolding ascends From
ascends-ascending [] h = tt
ascends-ascending (x ∷ l) h = (omega arith, above_from x l h)

pub ascending-ascends : (l : List ℕ) → Ascending l → ascends l ≡ true
unfolding ascends From
ascending-ascends [] f = refl
ascending-ascends (x ∷ l) f = from-above x l f.1

-- ---- elements and parts

pub from_at : (b : ℕ) (l : List ℕ) (i : ℕ) → From b l → i < length l → b ≤ get_or l i 0
unfolding From
from_at b [] i f h = elim h [ ]
from_at b (x ∷ l) zero f h = f.0
from_at b (x ∷ l) (suc i) f h = omega (arith, f.0, from_at (suc x) l i f.1 (omega arith))

pub from-take : (b n : ℕ) (l : List ℕ) → From b l → From b (take n l)
unfolding From
from-take b zero l f = tt
from-take b (suc n) [] f = tt
from-take b (suc n) (x ∷ l) f = (f.0, from-take (suc x) n l f.1)

pub from-drop : (b n : ℕ) (l : List ℕ) → From b l → From b (drop n l)
unfolding From
from-drop b zero l f = f
from-drop b (suc n) [] f = tt
from-drop b (suc n) (x ∷ l) f = from-drop b n l (from_le b (suc x) l f.1 (omega arith))

-- ---- the scan of a list's order

pub not-above : (x y : ℕ) → leb y x ≡ not (ltb x y)
not-above x y = ⊎_elim (λ q. rw (lt-ltb x y q, lt-leb y x q)) (λ q. rw (le-ltb x y q, le-leb y x q)) (below_or_not x y)

-- whether an element was not above the one before it, and the elements from i on
pub record Ordered (l : List ℕ) (fails : Bool) (i : ℕ) : Type 0 where
  pub past : 1 ≤ i
  pub is : (not fails && above (get_or l (i - 1) 0) (drop i l)) ≡ ascends l

pub ordered_begin : (l : List ℕ) → Ordered l false 1
unfolding above ascends
ordered_begin [] = record { past = omega arith; is = refl }
ordered_begin (x ∷ l) = record { past = omega arith; is = refl }

pub ordered-next : {l : List ℕ} {fails lower : Bool} {i : ℕ} → Ordered l fails i → i < length l → lower ≡ not (ltb (get_or l (i - 1) 0) (get_or l i 0))
    → Ordered l (fails || lower) (i + 1)
unfolding above
ordered-next {l} {fails} {i = i} v h e =
    let here : i + 1 - 1 ≡ i = omega arith in
    record {
      past = omega arith;
      is = rw (here, add-one i, e, either fails (ltb (get_or l (i - 1) 0) (get_or l i 0)), and_assoc) (rw (drop-cons l i 0 h) at v.is);
    }
  where
    either : (s t : Bool) → not (s || not t) ≡ (not s && t)
    either = two_tests (λ s t. not (s || not t) ≡ (not s && t)) refl refl refl refl

pub ordered_end : {l : List ℕ} {fails : Bool} {i : ℕ} → Ordered l fails i → length l ≤ i → not fails ≡ ascends l
unfolding above
ordered_end {l} {fails} v h = sym (and-true (not fails)) ∙ (rw (drop_of_length-le l h) at v.is)

-- ---- the test of two lists' equality

-- lists of different lengths are not equal
pub same_length : (a b : List ℕ) → (length a ≡ length b → ⊥) → same a b ≡ false
unfolding same
same_length [] [] n = absurd (n refl)
same_length [] (y ∷ b) n = refl
same_length (x ∷ a) [] n = refl
same_length (x ∷ a) (y ∷ b) n = rw (same_length a b (λ e. n (ap suc e))) (and-false (eqb x y))

-- lists of one length, pair by pair
pub pairs-same : {A : Type 0} (value : A → ℕ) (a b : List A) → length a ≡ length b
    → fold (λ (t : Bool) (p : A × A). t && eqb (value p.0) (value p.1)) true (zip a b) ≡ same (map value a) (map value b)
unfolding same
pairs-same {A} value a b e = go true a b e
  where
    go : (t : Bool) (a b : List A) → length a ≡ length b
        → fold (λ (t : Bool) (p : A × A). t && eqb (value p.0) (value p.1)) t (zip a b) ≡ (t && same (map value a) (map value b))
    go t [] [] e = sym (and-true t)
    go t [] (y ∷ b) e = absurd (omega arith)
    go t (x ∷ a) [] e = absurd (omega arith)
    go t (x ∷ a) (y ∷ b) e =
        go (t && eqb (value x) (value y)) a b (omega arith) ∙ and_assoc t (eqb (value x) (value y)) (same (map value a) (map value b))
