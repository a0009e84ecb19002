-- Ascending lists are sets: their members fix them, and each operation does to membership, order and count what its
-- name says. Assumes nothing.
use mathlib.Core.Path.{◌≡◌, refl, sym, ap, ap₂, ◌∙◌}
use mathlib.Core.Logic.{◌⊎◌, inl, inr, ⊎_elim}
use mathlib.Core.Bool.{Bool, true, false, not, ◌&&◌, ◌||◌, xor, or_assoc, or-true, or-false, and-true, and-false}
use mathlib.Core.List.{List, [], ◌∷◌, ◌++◌}
use Prim.Native.Nat.{ℕ, zero, suc, ◌+◌, ◌*◌, ◌≤◌, ◌<◌, min}
use native.Mathlib.Omega.{arith}
use lib.Dec.{eqb}
use lib.ListN.{length, get_or, take, replicate}
use borrow.Author.Tests.{eqb-true, eq-eqb, ne_eqb, lt-ltb, le-ltb}
use Rattle.words.specs.Sets.{pick, keep, From, Ascending, Below, has, same, against, merge, difference, intersection, insert, remove, toggle}
use Rattle.words.proofs.Cases.{three_ways, below_or_not, same_or_not, clash, and_parts, pick-case, two_tests}

-- ---- membership and order

pub has_low : (b i : ℕ) (l : List ℕ) → From b l → i < b → has l i ≡ false
unfolding has From
has_low b i [] f h = refl
has_low b i (x ∷ l) f h = rw (ne_eqb x i (λ e. omega arith)) (has_low (suc x) i l f.1 (omega arith))

pub has_head : (x : ℕ) (l : List ℕ) → has (x ∷ l) x ≡ true
unfolding has
has_head x l = rw (eq-eqb x x refl)

pub has-tail : (x i : ℕ) (l : List ℕ) → (x ≡ i → ⊥) → has (x ∷ l) i ≡ has l i
unfolding has
has-tail x i l n = rw (ne_eqb x i n)

pub has-append : (l r : List ℕ) (i : ℕ) → has (l ++ r) i ≡ (has l i || has r i)
unfolding has
has-append [] r i = refl
has-append (x ∷ l) r i = rw (has-append l r i) (sym (or_assoc (eqb x i) (has l i) (has r i)))

pub from_le : (a b : ℕ) (l : List ℕ) → From b l → a ≤ b → From a l
unfolding From
from_le a b [] f h = tt
from_le a b (x ∷ l) f h = (omega arith, f.1)

-- an ascending list with no member below a starts there
pub from_raise : (a b : ℕ) (l : List ℕ) → From b l → ((i : ℕ) → i < a → has l i ≡ false) → From a l
unfolding From
from_raise a b [] f h = tt
from_raise a b (x ∷ l) f h = (⊎_elim (λ q. clash (sym (has_head x l) ∙ h x q)) (λ q. q) (below_or_not x a), f.1)

-- a list below c, then one from c on
pub from-append : (b c : ℕ) (l r : List ℕ) → From b l → From c r → b ≤ c → ((i : ℕ) → has l i ≡ true → i < c) → From b (l ++ r)
unfolding From has
from-append b c [] r f g h below = from_le b c r g h
from-append b c (x ∷ l) r f g h below =
    (f.0, from-append (suc x) c l r f.1 g (below x (has_head x l)) (λ i e. below i (rw e (or-true (eqb x i)))))

-- two ascending lists with the same members are equal
pub same-members : (b : ℕ) (l r : List ℕ) → From b l → From b r → ((i : ℕ) → has l i ≡ has r i) → l ≡ r
unfolding From has
same-members b [] [] f g h = refl
same-members b [] (y ∷ r) f g h = clash (sym (has_head y r) ∙ sym (h y))
same-members b (x ∷ l) [] f g h = clash (sym (has_head x l) ∙ h x)
same-members b (x ∷ l) (y ∷ r) f g h =
    let low = from_raise x b (y ∷ r) g (λ i q. sym (h i) ∙ has_low x i (x ∷ l) (omega arith, f.1) q) in
    let high = from_raise y b (x ∷ l) f (λ i q. h i ∙ has_low y i (y ∷ r) (omega arith, g.1) q) in
    let e : x ≡ y = omega (arith, low.0, high.0) in
    ap₂ (λ (z : ℕ) (s : List ℕ). z ∷ s) e (same-members (suc x) l r f.1 (from_le (suc x) (suc y) r g.1 (omega arith))
    (λ i. ⊎_elim (λ q. has_low (suc x) i l f.1 (omega arith) ∙ sym (has_low (suc y) i r g.1 (omega arith)))
    (λ n. sym (has-tail x i l n) ∙ h i ∙ has-tail y i r (λ q. n (omega arith))) (same_or_not x i)))

-- ---- merging

-- What holds of two ascending lists and of their merge for every choice, by induction: with nothing on the left, and with one
-- more element in front of all others, in the left list, in the right one, or in both. The laws of merging are instances, so
-- that `against` and the order of the two heads need no thought in them.
module _
    (P : ℕ → List ℕ → List ℕ → (Bool → Bool → Bool → List ℕ) → Type 0)
    (none : (b : ℕ) (r : List ℕ) → From b r → P b [] r (λ left right both. pick right r []))
    (on-left : (b x : ℕ) (l r : List ℕ) (m : Bool → Bool → Bool → List ℕ) → b ≤ x → From (suc x) l → From (suc x) r → P (suc x) l r m
    → P b (x ∷ l) r (λ left right both. keep left x (m left right both)))
    (on-right : (b x : ℕ) (l r : List ℕ) (m : Bool → Bool → Bool → List ℕ) → b ≤ x → From (suc x) l → From (suc x) r → P (suc x) l r m
    → P b l (x ∷ r) (λ left right both. keep right x (m left right both)))
    (on_both : (b x : ℕ) (l r : List ℕ) (m : Bool → Bool → Bool → List ℕ) → b ≤ x → From (suc x) l → From (suc x) r → P (suc x) l r m
    → P b (x ∷ l) (x ∷ r) (λ left right both. keep both x (m left right both)))
  where
    by-against : (x : ℕ) (l : List ℕ) (rest : Bool → Bool → Bool → List ℕ → List ℕ) → From (suc x) l
        → ((c : List ℕ) → From (suc x) c → P (suc x) l c (λ left right both. rest left right both c))
        → (b : ℕ) (r : List ℕ) → b ≤ x → From b r → P b (x ∷ l) r (λ left right both. against left right both x (rest left right both) r)
    unfolding From against
    by-against x l rest f law b [] h g = on-left b x l [] _ h f tt (law [] tt)
    by-against x l rest f law b (y ∷ r) h g =
        let g' : x ≡ y → From (suc x) r = λ e. from_le (suc x) (suc y) r g.1 (omega arith) in
        ⊎_elim (λ q. rw (lt-ltb x y q) (on-left b x l (y ∷ r) _ h f (q, g.1) (law (y ∷ r) (q, g.1))))
        (λ s. ⊎_elim (λ e. rw (le-ltb x y (omega arith), eq-eqb x y e, ← e) (on_both b x l r _ h f (g' e) (law r (g' e))))
        (λ q. rw (le-ltb x y (omega arith), ne_eqb x y (λ e. omega arith))
        (on-right b y (x ∷ l) r _ g.0 (q, f) g.1 (by-against x l rest f law (suc y) r q g.1))) s) (three_ways x y)

    pub by-merging : (b : ℕ) (l r : List ℕ) → From b l → From b r → P b l r (λ left right both. merge left right both l r)
    unfolding From merge
    by-merging b [] r f g = none b r g
    by-merging b (x ∷ l) r f g =
        by-against x l (λ left right both. merge left right both l) f.1 (λ c h. by-merging (suc x) l c f.1 h) b r f.0 g

pub from-merge : (left right both : Bool) (b : ℕ) (l r : List ℕ) → From b l → From b r → From b (merge left right both l r)
unfolding From
from-merge left right both b l r f g =
    by-merging (λ b l r m. From b (m left right both)) (λ b r g. pick-case (From b) right (λ e. g) (λ e. tt))
    (λ b x l r m h f g ih. step left b x (m left right both) h ih) (λ b x l r m h f g ih. step right b x (m left right both) h ih)
    (λ b x l r m h f g ih. step both b x (m left right both) h ih) b l r f g
  where
    step : (kept : Bool) (b x : ℕ) (m : List ℕ) → b ≤ x → From (suc x) m → From b (keep kept x m)
    step kept b x m h f = pick-case (From b) kept (λ e. (h, f)) (λ e. from_le b (suc x) m f (omega arith))

pub has-merge : (left right both : Bool) (b : ℕ) (l r : List ℕ) (i : ℕ) → From b l → From b r
    → has (merge left right both l r) i ≡ pick (has l i) (pick (has r i) both left) (pick (has r i) right false)
unfolding has
has-merge left right both b l r i f g =
    by-merging (λ b l r m. has (m left right both) i ≡ chosen (has l i) (has r i)) (λ b r g. none r right)
    (λ b x l r m h f g ih. step true false x l r (m left right both) f g ih) (λ b x l r m h f g ih. step false true x l r (m left right both) f g ih)
    (λ b x l r m h f g ih. step true true x l r (m left right both) f g ih) b l r f g
  where
    chosen : Bool → Bool → Bool
    chosen s t = pick s (pick t both left) (pick t right false)

    none : (r : List ℕ) (kept : Bool) → has (pick kept r []) i ≡ pick (has r i) kept false
    none r true = pick-case (λ t. has r i ≡ t) (has r i) (λ e. e) (λ e. e)
    none r false = pick-case (λ t. false ≡ t) (has r i) (λ e. refl) (λ e. refl)

    has-keep : (kept : Bool) (x : ℕ) (m : List ℕ) → has (keep kept x m) i ≡ (kept && eqb x i || has m i)
    has-keep true x m = refl
    has-keep false x m = refl

    step : (s t : Bool) (x : ℕ) (l r m : List ℕ) → From (suc x) l → From (suc x) r → has m i ≡ chosen (has l i) (has r i)
        → has (keep (chosen s t) x m) i ≡ chosen (s && eqb x i || has l i) (t && eqb x i || has r i)
    step s t x l r m f g ih =
        has-keep (chosen s t) x m
        ∙ ⊎_elim (λ e. rw (ih, eq-eqb x i e, has_low (suc x) i l f (omega arith), has_low (suc x) i r g (omega arith)) (simp (and-true, or-false)))
        (λ n. rw (ne_eqb x i n) (simp and-false ih)) (same_or_not x i)

-- what is kept of each kind adds up
pub length-merge : (left right both : Bool) (b : ℕ) (l r : List ℕ) → From b l → From b r
    → length (merge left right both l r)
    ≡ pick left (length (merge true false false l r)) 0 + pick right (length (merge false true false l r)) 0 + pick both (length (merge false false true l r)) 0
length-merge left right both b l r f g =
    by-merging
    (λ b l r m. length (m left right both)
    ≡ pick left (length (m true false false)) 0 + pick right (length (m false true false)) 0 + pick both (length (m false false true)) 0)
    (λ b r g. omega (arith, empty left, empty both, all right r))
    (λ b x l r m h f g ih. omega (arith, step left x (m left right both) (length (m true false false))))
    (λ b x l r m h f g ih. omega (arith, step right x (m left right both) (length (m false true false))))
    (λ b x l r m h f g ih. omega (arith, step both x (m left right both) (length (m false false true)))) b l r f g
  where
    empty : (kept : Bool) → pick {A = ℕ} kept 0 0 ≡ 0
    empty true = refl
    empty false = refl

    all : (kept : Bool) (r : List ℕ) → length (pick kept r []) ≡ pick kept (length r) 0
    all true r = refl
    all false r = refl

    step : (kept : Bool) (x : ℕ) (m : List ℕ) (n : ℕ) → length (keep kept x m) + pick kept n 0 ≡ length m + pick kept (suc n) 0
    step true x m n = omega arith
    step false x m n = refl

-- an element of the left list is of that list only or of both
pub length-left : (b : ℕ) (l r : List ℕ) → From b l → From b r → length l ≡ length (merge true false false l r) + length (intersection l r)
length-left b l r f g =
    by-merging (λ b l r m. length l ≡ length (m true false false) + length (m false false true)) (λ b r g. refl)
    (λ b x l r m h f g ih. omega arith) (λ b x l r m h f g ih. ih) (λ b x l r m h f g ih. omega arith) b l r f g

pub length_right : (b : ℕ) (l r : List ℕ) → From b l → From b r → length r ≡ length (merge false true false l r) + length (intersection l r)
length_right b l r f g =
    by-merging (λ b l r m. length r ≡ length (m false true false) + length (m false false true)) (λ b r g. omega arith)
    (λ b x l r m h f g ih. ih) (λ b x l r m h f g ih. omega arith) (λ b x l r m h f g ih. omega arith) b l r f g

-- ---- the operations

pub has-difference : (l r : List ℕ) (i : ℕ) → Ascending l → Ascending r → has (difference l r) i ≡ xor (has l i) (has r i)
unfolding xor
has-difference l r i f g =
    has-merge true true false 0 l r i f g
    ∙ two_tests (λ s t. pick s (pick t false true) (pick t true false) ≡ xor s t) refl refl refl refl (has l i) (has r i)

pub ascending-difference : (l r : List ℕ) → Ascending l → Ascending r → Ascending (difference l r)
ascending-difference l r f g = from-merge true true false 0 l r f g

pub length-difference : (l r : List ℕ) → Ascending l → Ascending r → length (difference l r) + 2 * length (intersection l r) ≡ length l + length r
length-difference l r f g = omega (arith, length-merge true true false 0 l r f g, length-left 0 l r f g, length_right 0 l r f g)

-- the order of the two does not matter
pub difference_comm : (l r : List ℕ) → Ascending l → Ascending r → difference l r ≡ difference r l
unfolding xor
difference_comm l r f g =
    same-members 0 (difference l r) (difference r l) (ascending-difference l r f g) (ascending-difference r l g f)
    (λ i. has-difference l r i f g ∙ two_tests (λ s t. xor s t ≡ xor t s) refl refl refl refl (has l i) (has r i) ∙ sym (has-difference r l i g f))

-- two ascending lists are the same exactly when no element is of one of them only
pub same-difference : (b : ℕ) (l r : List ℕ) → From b l → From b r → eqb (length (difference l r)) 0 ≡ same l r
unfolding same From
same-difference =
    by-merging (λ b l r m. eqb (length (m true true false)) 0 ≡ same l r) (λ b r g. none r)
    (λ b x l r m h f g ih. some (m true true false) ∙ sym (on-left x l r g)) (λ b x l r m h f g ih. some (m true true false) ∙ sym (on-right x l r f))
    (λ b x l r m h f g ih. rw (eq-eqb x x refl) ih)
  where
    some : (l : List ℕ) → eqb (suc (length l)) 0 ≡ false
    some l = ne_eqb (suc (length l)) 0 (λ e. omega arith)

    none : (r : List ℕ) → eqb (length r) 0 ≡ same [] r
    none [] = refl
    none (y ∷ r) = some r

    on-left : (x : ℕ) (l r : List ℕ) → From (suc x) r → same (x ∷ l) r ≡ false
    on-left x l [] g = refl
    on-left x l (y ∷ r) g = rw (ne_eqb x y (λ e. omega arith))

    on-right : (x : ℕ) (l r : List ℕ) → From (suc x) l → same l (x ∷ r) ≡ false
    on-right x [] r f = refl
    on-right x (y ∷ l) r f = rw (ne_eqb y x (λ e. omega arith))

pub has-intersection : (l r : List ℕ) (i : ℕ) → Ascending l → Ascending r → has (intersection l r) i ≡ (has l i && has r i)
has-intersection l r i f g =
    has-merge false false true 0 l r i f g
    ∙ two_tests (λ s t. pick s (pick t true false) (pick t false false) ≡ (s && t)) refl refl refl refl (has l i) (has r i)

pub ascending-intersection : (l r : List ℕ) → Ascending l → Ascending r → Ascending (intersection l r)
ascending-intersection l r f g = from-merge false false true 0 l r f g

-- the count of an intersection with one index
pub length_one : (i : ℕ) (l : List ℕ) → Ascending l → length (intersection (i ∷ []) l) ≡ pick (has l i) 1 0
unfolding From has against merge
length_one i l f = go 0 l f
  where
    go : (b : ℕ) (l : List ℕ) → From b l → length (intersection (i ∷ []) l) ≡ pick (has l i) 1 0
    go b [] f = refl
    go b (y ∷ r) f =
        ⊎_elim (λ q. rw (lt-ltb i y q, has_low y i (y ∷ r) (omega arith, f.1) q))
        (λ s. ⊎_elim (λ e. rw (le-ltb i y (omega arith), eq-eqb i y e, eq-eqb y i (sym e)))
        (λ q. rw (le-ltb i y (omega arith), ne_eqb i y (λ e. omega arith), ne_eqb y i (λ e. omega arith)) (go (suc y) r f.1)) s) (three_ways i y)

pub single : (i : ℕ) → Ascending (i ∷ [])
unfolding From
single i = (omega arith, tt)

pub has-insert : (i : ℕ) (l : List ℕ) (j : ℕ) → Ascending l → has (insert i l) j ≡ (eqb i j || has l j)
unfolding has
has-insert i l j f =
    has-merge true true true 0 (i ∷ []) l j (single i) f
    ∙ two_tests (λ s t. pick (s || false) (pick t true true) (pick t true false) ≡ (s || t)) refl refl refl refl (eqb i j) (has l j)

pub ascending-insert : (i : ℕ) (l : List ℕ) → Ascending l → Ascending (insert i l)
ascending-insert i l f = from-merge true true true 0 (i ∷ []) l (single i) f

pub length-insert : (i : ℕ) (l : List ℕ) → Ascending l → length (insert i l) ≡ length l + pick (has l i) 0 1
length-insert i l f =
    omega (
      arith,
      length-merge true true true 0 (i ∷ []) l (single i) f,
      length-left 0 (i ∷ []) l (single i) f,
      length_right 0 (i ∷ []) l (single i) f,
      length_one i l f,
      one (has l i),
    )
  where
    one : (t : Bool) → pick t 1 0 + pick t 0 1 ≡ 1
    one true = refl
    one false = refl

pub has-remove : (i : ℕ) (l : List ℕ) (j : ℕ) → Ascending l → has (remove i l) j ≡ (not (eqb i j) && has l j)
unfolding has
has-remove i l j f =
    has-merge false true false 0 (i ∷ []) l j (single i) f
    ∙ two_tests (λ s t. pick (s || false) (pick t false false) (pick t true false) ≡ (not s && t)) refl refl refl refl (eqb i j) (has l j)

pub ascending-remove : (i : ℕ) (l : List ℕ) → Ascending l → Ascending (remove i l)
ascending-remove i l f = from-merge false true false 0 (i ∷ []) l (single i) f

pub length-remove : (i : ℕ) (l : List ℕ) → Ascending l → length (remove i l) + pick (has l i) 1 0 ≡ length l
length-remove i l f = omega (arith, length_right 0 (i ∷ []) l (single i) f, length_one i l f)

pub remove_absent : (i : ℕ) (l : List ℕ) → Ascending l → has l i ≡ false → remove i l ≡ l
remove_absent i l f h = same-members 0 (remove i l) l (ascending-remove i l f) f (λ j. has-remove i l j f ∙ go j (same_or_not i j))
  where
    go : (j : ℕ) → (i ≡ j) ⊎ (i ≡ j → ⊥) → (not (eqb i j) && has l j) ≡ has l j
    go j (inl e) = rw (eq-eqb i j e) (sym h ∙ ap (has l) e)
    go j (inr n) = rw (ne_eqb i j n)

pub has-toggle : (i : ℕ) (l : List ℕ) (j : ℕ) → Ascending l → has (toggle i l) j ≡ xor (eqb i j) (has l j)
unfolding has
has-toggle i l j f = rw or-false at (has-difference (i ∷ []) l j (single i) f)

pub ascending-toggle : (i : ℕ) (l : List ℕ) → Ascending l → Ascending (toggle i l)
ascending-toggle i l f = ascending-difference (i ∷ []) l (single i) f

pub length-toggle : (i : ℕ) (l : List ℕ) → Ascending l → length (toggle i l) + 2 * pick (has l i) 1 0 ≡ length l + 1
length-toggle i l f = omega (arith, length-difference (i ∷ []) l (single i) f, length_one i l f)

-- an absent index is put in, a present one is taken out
pub toggle_inserts : (i : ℕ) (l : List ℕ) → Ascending l → has l i ≡ false → toggle i l ≡ insert i l
unfolding xor
toggle_inserts i l f h =
    same-members 0 (toggle i l) (insert i l) (ascending-toggle i l f) (ascending-insert i l f)
    (λ j. has-toggle i l j f ∙ go (eqb i j) (has l j) (λ e. rw (eqb-true i j e) at h) ∙ sym (has-insert i l j f))
  where
    go : (s t : Bool) → (s ≡ true → t ≡ false) → xor s t ≡ (s || t)
    go true t h = rw (h refl)
    go false true h = refl
    go false false h = refl

pub toggle_removes : (i : ℕ) (l : List ℕ) → Ascending l → has l i ≡ true → toggle i l ≡ remove i l
unfolding xor
toggle_removes i l f h =
    same-members 0 (toggle i l) (remove i l) (ascending-toggle i l f) (ascending-remove i l f)
    (λ j. has-toggle i l j f ∙ go (eqb i j) (has l j) (λ e. rw (eqb-true i j e) at h) ∙ sym (has-remove i l j f))
  where
    go : (s t : Bool) → (s ≡ true → t ≡ true) → xor s t ≡ (not s && t)
    go true t h = rw (h refl)
    go false true h = refl
    go false false h = refl

-- ---- every element below a bound

pub below_at : (n : ℕ) (l : List ℕ) (k : ℕ) → Below n l → k < length l → get_or l k 0 < n
unfolding Below
below_at n [] k f h = elim h [ ]
below_at n (x ∷ l) zero f h = f.0
below_at n (x ∷ l) (suc k) f h = below_at n l k f.1 (omega arith)

pub below-has : (n : ℕ) (l : List ℕ) → Below n l → (i : ℕ) → has l i ≡ true → i < n
unfolding Below has
below-has n [] f i e = clash (sym e)
below-has n (x ∷ l) f i e = ⊎_elim (λ q. omega (arith, f.0)) (λ d. below-has n l f.1 i (sym (has-tail x i l d) ∙ e)) (same_or_not x i)

pub has-below : (n : ℕ) (l : List ℕ) → ((i : ℕ) → has l i ≡ true → i < n) → Below n l
unfolding Below has
has-below n [] h = tt
has-below n (x ∷ l) h = (h x (has_head x l), has-below n l (λ i e. h i (rw e (or-true (eqb x i)))))

pub below-le : (m n : ℕ) (l : List ℕ) → Below m l → m ≤ n → Below n l
unfolding Below
below-le m n [] f h = tt
below-le m n (x ∷ l) f h = (omega (arith, f.0), below-le m n l f.1 h)

pub replicate-below : (n k : ℕ) → 0 < n → Below n (replicate k 0)
unfolding Below
replicate-below n zero h = tt
replicate-below n (suc k) h = (h, replicate-below n k h)

pub below-append : (n : ℕ) (l r : List ℕ) → Below n l → Below n r → Below n (l ++ r)
unfolding Below
below-append n [] r f g = g
below-append n (x ∷ l) r f g = (f.0, below-append n l r f.1 g)

pub below-take : (n k : ℕ) (l : List ℕ) → Below n l → Below n (take k l)
unfolding Below
below-take n zero l f = tt
below-take n (suc k) [] f = tt
below-take n (suc k) (x ∷ l) f = (f.0, below-take n k l f.1)

pub below-merge : (left right both : Bool) (n : ℕ) (l r : List ℕ) → Ascending l → Ascending r → Below n l → Below n r
    → Below n (merge left right both l r)
below-merge left right both n l r f g h k =
    has-below n (merge left right both l r)
    (λ i e. go i (has l i) refl (has r i) refl (sym (has-merge left right both 0 l r i f g) ∙ e))
  where
    go : (i : ℕ) (s : Bool) → has l i ≡ s → (t : Bool) → has r i ≡ t → pick s (pick t both left) (pick t right false) ≡ true → i < n
    go i true p t q e = below-has n l h i p
    go i false p true q e = below-has n r k i q
    go i false p false q e = clash (sym e)

pub below-intersection : (m n : ℕ) (l r : List ℕ) → Ascending l → Ascending r → Below m l → Below n r → Below (min m n) (intersection l r)
below-intersection m n l r f g h k =
    has-below (min m n) (intersection l r)
    (λ i e. let parts = and_parts (has l i) (has r i) (sym (has-intersection l r i f g) ∙ e) in
    omega (arith, below-has m l h i parts.0, below-has n r k i parts.1))

pub below-remove : (i n : ℕ) (l : List ℕ) → Ascending l → Below n l → Below n (remove i l)
below-remove i n l f h =
    has-below n (remove i l) (λ j e. below-has n l h j (and_parts (not (eqb i j)) (has l j) (sym (has-remove i l j f) ∙ e)).1)
