-- Putting in at a place and taking out: what a copy within the list and one write come to, and what both do to sets. Assumes nothing.
use mathlib.Core.Path.{◌≡◌, refl, sym, ap, ◌∙◌}
use mathlib.Core.Logic.{⊎_elim}
use mathlib.Core.Bool.{Bool, true, false}
use mathlib.Core.List.{List, [], ◌∷◌, ◌++◌}
use Prim.Native.Nat.{ℕ, zero, suc, ◌+◌, ◌-◌, ◌≤◌, ◌<◌}
use native.Mathlib.Numerals.{add-one}
use native.Mathlib.Omega.{arith}
use lib.ListN.{length, set, take, drop}
use lib.Seq.{drop-cons, length-take-le, set_at}
use Rattle.std.specs.List.{copy_within}
use borrow.Author.Tests.{lt-ltb, le-ltb, eq-eqb, ne_eqb}
use Rattle.words.specs.Sets.{pick, From, Ascending, has, against, merge, insert, remove, toggle}
use Rattle.words.proofs.Cases.{three_ways}
use Rattle.words.proofs.SetLaws.{has_low}
use Rattle.ascending.specs.Search.{place}
use Rattle.ascending.specs.Places.{insert_at, remove_at}
use Rattle.ascending.proofs.SearchLaws.{Stands, Lacks}

-- ---- lengths

pub length-insert-at : {A : Type 0} (p : ℕ) (x : A) (l : List A) → length (insert_at p x l) ≡ length l + 1
unfolding insert_at
length-insert-at zero x l = omega arith
length-insert-at (suc p) x [] = omega arith
length-insert-at (suc p) x (y ∷ l) = omega (arith, length-insert-at p x l)

pub length-remove-at : {A : Type 0} (p : ℕ) (l : List A) → p < length l → length (remove_at p l) + 1 ≡ length l
unfolding remove_at
length-remove-at zero [] h = elim h [ ]
length-remove-at (suc p) [] h = elim h [ ]
length-remove-at zero (y ∷ l) h = omega arith
length-remove-at (suc p) (y ∷ l) h = omega (arith, length-remove-at p l (omega arith))

-- ---- a copy within the list, and one write

module _ {A : Type 0} where
  pub opened : (l : List A) (count place : ℕ) (x : A) → place ≤ count → count < length l
      → set (copy_within l place count (place + 1)) place x ≡ insert_at place x (take count l) ++ drop (count + 1) l
  unfolding insert_at
  opened l count place x h q =
      let end : suc place + (count - place) ≡ suc count = omega arith in
      rw (add-one place, add-one count, end) (go place (count - place) count l (omega arith) q)
    where
      go : (p m n : ℕ) (l : List A) → n ≡ p + m → n < length l → set ((take (suc p) l ++ take m (drop p l)) ++ drop (suc n) l) p x ≡ insert_at p x (take n l) ++ drop (suc n) l
      go p m n [] e h = elim h [ ]
      go zero m n (y ∷ t) e h = let same : m ≡ n = omega arith in rw same refl
      go (suc p) m zero (y ∷ t) e h = absurd (omega arith)
      go (suc p) m (suc n) (y ∷ t) e h = ap (λ (r : List A). y ∷ r) (go p m n t (omega arith) (omega arith))

  pub closed : (l : List A) (count place : ℕ) (x : A) → place < count → count ≤ length l
      → set (copy_within l (place + 1) count place) (count - 1) x ≡ remove_at place (take count l) ++ (x ∷ drop count l)
  unfolding remove_at
  closed l count place x h q =
      let end : place + (count - suc place) ≡ count - 1 = omega arith in
      let last : suc (count - 1) ≡ count = omega arith in
      rw (add-one place, end) (rw last at (go place (count - suc place) (count - 1) l (omega arith) (omega arith)))
    where
      go : (p m n : ℕ) (l : List A) → n ≡ p + m → n < length l → set ((take p l ++ take m (drop (suc p) l)) ++ drop n l) n x ≡ remove_at p (take (suc n) l) ++ (x ∷ drop (suc n) l)
      go p m n [] e h = elim h [ ]
      go zero m n (y ∷ t) e h = let same : m ≡ n = omega arith in rw (same, drop-cons (y ∷ t) n y h) (set_at (take n t) _ _ x n (length-take-le n t (omega arith)))
      go (suc p) m zero (y ∷ t) e h = absurd (omega arith)
      go (suc p) m (suc n) (y ∷ t) e h = ap (λ (r : List A). y ∷ r) (go p m n t (omega arith) (omega arith))

-- ---- what it means for sets

-- merging with a list of one, by whether the other list has it
merge_one : (left both : Bool) (x b : ℕ) (l : List ℕ) → From b l
    → merge left true both (x ∷ []) l ≡ pick (has l x) (pick both l (remove_at (place x l) l)) (pick left (insert_at (place x l) x l) l)
unfolding From has against merge place insert_at remove_at
merge_one left both x b [] f = refl
merge_one left both x b (y ∷ l) f =
    ⊎_elim (λ q. rw (lt-ltb x y q, le-ltb y x (omega arith), has_low y x (y ∷ l) (omega arith, f.1) q))
    (λ s. ⊎_elim (λ e. rw (le-ltb x y (omega arith), le-ltb y x (omega arith), eq-eqb x y e, eq-eqb y x (sym e), e))
    (λ q. rw (le-ltb x y (omega arith), ne_eqb x y (λ e. omega arith), lt-ltb y x q, ne_eqb y x (λ e. omega arith), merge_one left both x (suc y) l f.1)
    (behind (has l x) left both)) s) (three_ways x y)
  where
    behind : (t left both : Bool)
        → y ∷ pick t (pick both l (remove_at (place x l) l)) (pick left (insert_at (place x l) x l) l)
        ≡ pick t (pick both (y ∷ l) (y ∷ remove_at (place x l) l)) (pick left (y ∷ insert_at (place x l) x l) (y ∷ l))
    behind true left true = refl
    behind true left false = refl
    behind false true both = refl
    behind false false both = refl

module _ {x : ℕ} {l : List ℕ} {p : ℕ} (f : Ascending l) where
  module _ (h : Lacks x l p) where
    pub insert-absent : insert x l ≡ insert_at p x l
    insert-absent = merge_one true true x 0 l f ∙ rw (h.is, h.at)

    pub toggle-absent : toggle x l ≡ insert_at p x l
    toggle-absent = merge_one true false x 0 l f ∙ rw (h.is, h.at)

  module _ (h : Stands x l p) where
    pub insert-present : insert x l ≡ l
    insert-present = merge_one true true x 0 l f ∙ rw h.is

    pub remove-present : remove x l ≡ remove_at p l
    remove-present = merge_one false false x 0 l f ∙ rw (h.is, h.at)

    pub toggle-present : toggle x l ≡ remove_at p l
    toggle-present = merge_one true false x 0 l f ∙ rw (h.is, h.at)
