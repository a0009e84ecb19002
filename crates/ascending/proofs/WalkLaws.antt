-- What walks by index keep: shifting through a hole, copying, and scanning for equality. The library's methods go
-- these ways now and no proof here rests on the laws; they stand as what is known of such walks. Assumes nothing.
use mathlib.Core.Path.{◌≡◌, refl, sym, ap, ◌∙◌}
use mathlib.Core.Bool.{◌&&◌, and-true, and_assoc}
use mathlib.Core.List.{List, [], ◌∷◌, ◌++◌}
use Prim.Native.Nat.{ℕ, zero, suc, ◌+◌, ◌-◌, ◌≤◌, ◌<◌}
use native.Mathlib.Numerals.{add-one, sub-one}
use native.Mathlib.Omega.{arith}
use lib.Bits.{bit_or, bit_xor}
use lib.Dec.{eqb}
use lib.ListN.{length, get_or, set, take, drop, length-take, length-set, drop_of_length-le, take-append-drop}
use lib.Seq.{sets, drop-cons}
use Rattle.words.specs.Sets.{From, same}
use Rattle.words.proofs.BitLaws.{or_zero, xor-zero}
use Rattle.words.proofs.LoopLaws.{tail, rest-is}
use Rattle.words.proofs.KeyLaws.{Writing, writing_begin, writing-next, writing-end}
use Rattle.ascending.specs.Places.{insert_at, remove_at}
use Rattle.ascending.proofs.OrderLaws.{from-drop}
use Rattle.ascending.proofs.PlaceLaws.{length-remove-at}

-- ---- a hole: a place whose element does not matter

-- `new` is the list `front` with a hole at i, and `back` behind it
pub record Hole (front back new : List ℕ) (i : ℕ) : Type 0 where
  pub any : ℕ
  pub is : new ≡ insert_at i any front ++ back

-- behind the first n, and in place of one of them
hole_behind : (n : ℕ) (l : List ℕ) → n < length l → Hole (take n l) (drop (n + 1) l) l n
unfolding insert_at
hole_behind n l h = record { any = get_or l n 0; is = rw (add-one n) (go n l h) }
  where
    go : (n : ℕ) (l : List ℕ) → n < length l → l ≡ insert_at n (get_or l n 0) (take n l) ++ drop (suc n) l
    go zero [] h = elim h [ ]
    go (suc n) [] h = elim h [ ]
    go zero (y ∷ l) h = refl
    go (suc n) (y ∷ l) h = ap (λ (r : List ℕ). y ∷ r) (go n l (omega arith))

hole_among : (n p : ℕ) (l : List ℕ) → p < n → n ≤ length l → Hole (remove_at p (take n l)) (drop n l) l p
unfolding insert_at remove_at
hole_among n p l q h = record {
  any = get_or (take n l) p 0;
  is = sym (take-append-drop n l) ∙ ap (λ (r : List ℕ). r ++ drop n l) (go p (take n l) (omega (arith, length-take n l)));
}
  where
    go : (p : ℕ) (l : List ℕ) → p < length l → l ≡ insert_at p (get_or l p 0) (remove_at p l)
    go zero [] h = elim h [ ]
    go (suc p) [] h = elim h [ ]
    go zero (y ∷ l) h = refl
    go (suc p) (y ∷ l) h = ap (λ (r : List ℕ). y ∷ r) (go p l (omega arith))

-- the element before the hole written into it, and the one behind it
hole_down : {front back new : List ℕ} {i : ℕ} → Hole front back new i → 0 < i → i ≤ length front → Hole front back (set new i (get_or new (i - 1) 0)) (i - 1)
unfolding insert_at
hole_down {front = front} {back = back} {new = new} {i = zero} v p h = elim p [ ]
hole_down {front} {back} {i = suc i} v p h = record {
  any = get_or front i 0;
  is = rw (v.is, sub-one (suc i)) (go i v.any front h);
}
  where
    go : (i any : ℕ) (l : List ℕ) → i < length l
        → set (insert_at (suc i) any l ++ back) (suc i) (get_or (insert_at (suc i) any l ++ back) i 0) ≡ insert_at i (get_or l i 0) l ++ back
    go zero any [] h = elim h [ ]
    go (suc i) any [] h = elim h [ ]
    go zero any (y ∷ l) h = refl
    go (suc i) any (y ∷ l) h = ap (λ (r : List ℕ). y ∷ r) (go i any l (omega arith))

hole_up : {front back new : List ℕ} {i : ℕ} → Hole front back new i → i < length front → Hole front back (set new i (get_or new (i + 1) 0)) (i + 1)
unfolding insert_at
hole_up {front} {back} {i = i} v h = record { any = get_or front i 0; is = rw (v.is, add-one i) (go i v.any front h) }
  where
    go : (i any : ℕ) (l : List ℕ) → i < length l
        → set (insert_at i any l ++ back) i (get_or (insert_at i any l ++ back) (suc i) 0) ≡ insert_at (suc i) (get_or l i 0) l ++ back
    go zero any [] h = elim h [ ]
    go (suc i) any [] h = elim h [ ]
    go zero any (y ∷ l) h = refl
    go (suc i) any (y ∷ l) h = ap (λ (r : List ℕ). y ∷ r) (go i any l (omega arith))

hole_filled : {front back new : List ℕ} {i : ℕ} → Hole front back new i → i ≤ length front → (x : ℕ) → set new i x ≡ insert_at i x front ++ back
unfolding insert_at
hole_filled {front} {back} {i = i} v h x = rw v.is (go i v.any front h)
  where
    go : (i any : ℕ) (l : List ℕ) → i ≤ length l → set (insert_at i any l ++ back) i x ≡ insert_at i x l ++ back
    go zero any l h = refl
    go (suc i) any [] h = elim h [ ]
    go (suc i) any (y ∷ l) h = ap (λ (r : List ℕ). y ∷ r) (go i any l (omega arith))

-- ---- those from a place on move up by one

pub record Opening (old : List ℕ) (count place : ℕ) (new : List ℕ) (i : ℕ) : Type 0 where
  pub low : place ≤ i
  pub high : i ≤ count
  pub room : count < length old
  pub long : length new ≡ length old
  pub hole : Hole (take count old) (drop (count + 1) old) new i

pub opening_begin : {old : List ℕ} {count place : ℕ} → place ≤ count → count < length old → Opening old count place old count
opening_begin {old} {count} p h = record { low = p; high = omega arith; room = h; long = refl; hole = hole_behind count old h }

module _ {old : List ℕ} {count place : ℕ} {new : List ℕ} {i : ℕ} (v : Opening old count place new i) where
  within : i ≤ length (take count old)
  within = omega (arith, length-take count old)

  pub opening-next : place < i → Opening old count place (set new i (get_or new (i - 1) 0)) (i - 1)
  opening-next h = record {
    low = omega arith;
    high = omega arith;
    room = v.room;
    long = length-set new i (get_or new (i - 1) 0) ∙ v.long;
    hole = hole_down v.hole (omega arith) within;
  }

  pub opening-end : i ≤ place → (x : ℕ) → set new place x ≡ insert_at place x (take count old) ++ drop (count + 1) old
  opening-end h x =
      let here : i ≡ place = omega arith in
      rw here at (hole_filled v.hole within x)

-- ---- those behind a place move down by one

pub record Closing (old : List ℕ) (count place : ℕ) (new : List ℕ) (i : ℕ) : Type 0 where
  pub high : i < count
  pub room : count ≤ length old
  pub taken : place < count
  pub long : length new ≡ length old
  pub hole : Hole (remove_at place (take count old)) (drop count old) new i

pub closing_begin : {old : List ℕ} {count place : ℕ} → place < count → count ≤ length old → Closing old count place old place
closing_begin {old} {count} {place} p h = record { high = p; room = h; taken = p; long = refl; hole = hole_among count place old p h }

module _ {old : List ℕ} {count place : ℕ} {new : List ℕ} {i : ℕ} (v : Closing old count place new i) where
  left : length (remove_at place (take count old)) + 1 ≡ count
  left = omega (arith, length-take count old, length-remove-at place (take count old) (omega (arith, length-take count old)))

  pub closing-next : i < count - 1 → Closing old count place (set new i (get_or new (i + 1) 0)) (i + 1)
  closing-next h = record {
    high = omega arith;
    room = v.room;
    taken = v.taken;
    long = length-set new i (get_or new (i + 1) 0) ∙ v.long;
    hole = hole_up v.hole (omega (arith, left));
  }

  pub closing_end : count - 1 ≤ i → (x : ℕ) → set new (count - 1) x ≡ remove_at place (take count old) ++ (x ∷ drop count old)
  unfolding insert_at
  closing_end h x =
      let here : i ≡ count - 1 = omega arith in
      let last : count - 1 ≡ length (remove_at place (take count old)) = omega (arith, left) in
      (rw here at (hole_filled v.hole (omega (arith, left)) x)) ∙ rw last (go (remove_at place (take count old)))
    where
      go : (l : List ℕ) → insert_at (length l) x l ++ drop count old ≡ l ++ (x ∷ drop count old)
      go [] = refl
      go (y ∷ l) = ap (λ (r : List ℕ). y ∷ r) (go l)

-- ---- a list copied, element by element

pub copied_begin : {all old : List ℕ} {to : ℕ} → to + length all ≤ length old → Writing all to old all (to + 0) old
copied_begin {to = to} h = let z : to + 0 ≡ to = omega arith in rw z (writing_begin h)

module _ {all old new : List ℕ} {to i : ℕ} (w : Writing all to old (drop i all) (to + i) new) where
  pub copied_next : i < length all → Writing all to old (drop (i + 1) all) (to + (i + 1)) (set new (to + i) (get_or all i 0))
  copied_next h =
      let n : to + (i + 1) ≡ to + i + 1 = omega arith in
      rw (n, add-one i) (writing-next w (get_or all i 0 ∷ []) (drop (suc i) all) (drop-cons all i 0 h))

  pub copied-end : length all ≤ i → (to + i ≡ to + length all) × (new ≡ sets old to all)
  copied-end h = writing-end w (drop_of_length-le all h)

-- ---- the rest of a list from a place on, as a walk takes it

pub from_tail : (b n : ℕ) (l : List ℕ) → From b l → From b (tail l n)
from_tail b n l f = rw (rest-is l n) (from-drop b n l f)

-- ---- the scan of two lists' equality

-- the OR of the differences so far, and what is left of the two lists
pub record Matched (a b : List ℕ) (any i : ℕ) : Type 0 where
  pub long : length a ≡ length b
  pub is : (eqb any 0 && same (drop i a) (drop i b)) ≡ same a b

pub matched_begin : {a b : List ℕ} → length a ≡ length b → Matched a b 0 0
matched_begin e = record { long = e; is = refl }

pub matched-next : {a b : List ℕ} {any i : ℕ} → Matched a b any i → i < length a → Matched a b (bit_or any (bit_xor (get_or a i 0) (get_or b i 0))) (i + 1)
unfolding same
matched-next {a} {b} {any} {i} v h = record {
  long = v.long;
  is =
      rw (add-one i, or_zero, xor-zero, and_assoc)
      (rw (drop-cons a i 0 h, drop-cons b i 0 (omega (arith, v.long))) at v.is);
}

pub matched_end : {a b : List ℕ} {any i : ℕ} → Matched a b any i → length a ≤ i → eqb any 0 ≡ same a b
unfolding same
matched_end {a} {b} {any} {i} v h =
    sym (and-true (eqb any 0)) ∙ (rw (drop_of_length-le a h, drop_of_length-le b {i = i} (omega (arith, v.long))) at v.is)
