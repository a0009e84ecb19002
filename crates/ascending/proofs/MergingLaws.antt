-- A merge of two lists in any order: what it does at two heads, at two places and where a list has ended, and what the loops
-- that go through the heads keep. Assumes nothing.
use mathlib.Core.Path.{◌≡◌, refl, sym, ap, ◌∙◌}
use mathlib.Core.Logic.{◌⊎◌, inl, inr, ⊎_elim}
use mathlib.Core.Bool.{Bool, true, false, not}
use mathlib.Core.List.{List, [], ◌∷◌, ◌++◌, append_assoc, append-nil}
use Prim.Native.Nat.{ℕ, suc, ◌+◌, ◌-◌, ◌≤◌, ◌<◌, min}
use native.Mathlib.Numerals.{add-one}
use native.Mathlib.Omega.{arith}
use lib.Dec.{ltb}
use lib.ListN.{length, get_or, take, drop, set, length-append, length-take, length-drop, drop_of_length-le, take-append-drop}
use lib.Seq.{sets, length-sets, sets-eq, drop-cons, drop-drop, take-suc, take-suc-set, take-set-le, take_at}
use borrow.Author.Tests.{eq-eqb, ne_eqb, lt-ltb, le-ltb}
use Rattle.words.specs.Sets.{pick, keep, against, merge}
use Rattle.words.proofs.Cases.{three_ways, below_or_not}
use Rattle.std.proofs.Common.{map}
use Rattle.std.proofs.lemmas.List.{length-map, map-set, map-append, take-map, drop-map}
use Rattle.ascending.proofs.ValueLaws.{value-at}
use Rattle.ascending.specs.declared.merging.Kept.{Kept}
use Rattle.ascending.specs.declared.merging.Places.{Places}
use Rattle.ascending.specs.Merging.{merged, past, keeps, stepped}
use Rattle.ascending.specs.Steps.{Heads, Headed}

-- ---- at two heads, and with nothing on one side

nothing : (t : Bool) → ◌≡◌ {A = List ℕ} (pick t [] []) []
nothing true = refl
nothing false = refl

module _ (left right both : Bool) where
  pub merge-left : (l : List ℕ) → merge left right both l [] ≡ pick left l []
  unfolding merge against
  merge-left [] = nothing right ∙ sym (nothing left)
  merge-left (x ∷ l) = rw (merge-left l) (go left)
    where
      go : (t : Bool) → keep t x (pick t l []) ≡ pick t (x ∷ l) []
      go true = refl
      go false = refl

  pub merge-right : (r : List ℕ) → merge left right both [] r ≡ pick right r []
  unfolding merge
  merge-right r = refl

  module _ (x y : ℕ) (l r : List ℕ) where
    pub merge-lower-left : x < y → merge left right both (x ∷ l) (y ∷ r) ≡ keep left x (merge left right both l (y ∷ r))
    unfolding merge against
    merge-lower-left h = rw (lt-ltb x y h)

    pub merge-lower-right : y < x → merge left right both (x ∷ l) (y ∷ r) ≡ keep right y (merge left right both (x ∷ l) r)
    unfolding merge against
    merge-lower-right h = rw (le-ltb x y (omega arith), ne_eqb x y (λ e. omega arith))

    pub merge_equal : x ≡ y → merge left right both (x ∷ l) (y ∷ r) ≡ keep both x (merge left right both l r)
    unfolding merge against
    merge_equal h = rw (le-ltb x y (omega arith), eq-eqb x y h)

-- whichever of the two is the lower one
merged-heads : (kept : Kept) (x y : ℕ) (l r : List ℕ) → (x < y) ⊎ ((x ≡ y) ⊎ (y < x)) → merged kept (x ∷ l) (y ∷ r)
    ≡ keep (keeps kept (ltb x y) (ltb y x)) (min x y) (merged kept (drop (pick (not (ltb y x)) 1 0) (x ∷ l)) (drop (pick (not (ltb x y)) 1 0) (y ∷ r)))
unfolding keeps
merged-heads kept x y l r (inl h) =
    let m : min x y ≡ x = omega arith in rw (lt-ltb x y h, le-ltb y x (omega arith), m) (merge-lower-left _ _ _ x y l r h)
merged-heads kept x y l r (inr (inl e)) =
    let m : min x y ≡ x = omega arith in rw (le-ltb x y (omega arith), le-ltb y x (omega arith), m) (merge_equal _ _ _ x y l r e)
merged-heads kept x y l r (inr (inr h)) =
    let m : min x y ≡ y = omega arith in rw (le-ltb x y (omega arith), lt-ltb y x h, m) (merge-lower-right _ _ _ x y l r h)

-- ---- at two places

-- the lower head, whether it is kept, and the places past it, or past both where they are equal
abbrev pub lower : List ℕ → List ℕ → Places → ℕ
lower l r at = min (get_or l at.left 0) (get_or r at.right 0)

abbrev pub keeping : Kept → List ℕ → List ℕ → Places → Bool
keeping kept l r at = let x = get_or l at.left 0 in let y = get_or r at.right 0 in keeps kept (ltb x y) (ltb y x)

abbrev pub beyond : Kept → List ℕ → List ℕ → Places → Places
beyond kept l r at = let x = get_or l at.left 0 in let y = get_or r at.right 0 in stepped kept at (ltb x y) (ltb y x)

past_bounds : (n : ℕ) (t : Bool) → (n ≤ past n t) × (past n t ≤ n + 1)
unfolding past
past_bounds n true = omega arith
past_bounds n false = omega arith

module _ (kept : Kept) (l r : List ℕ) (at : Places) where
  pub merged-at : at.left < length l → at.right < length r → merged kept (drop at.left l) (drop at.right r)
      ≡ keep (keeping kept l r at) (lower l r at) (merged kept (drop (beyond kept l r at).left l) (drop (beyond kept l r at).right r))
  unfolding past stepped
  merged-at p q =
      rw (← drop-drop _ at.left l, ← drop-drop _ at.right r, drop-cons l at.left 0 p, drop-cons r at.right 0 q)
      (merged-heads kept _ _ _ _ (three_ways _ _))

  -- one of the two heads is passed
  beyond-on : at.left + at.right < (beyond kept l r at).left + (beyond kept l r at).right
  unfolding past stepped
  beyond-on =
      let x : ℕ = get_or l at.left 0 in let y : ℕ = get_or r at.right 0 in
      ⊎_elim (λ h. rw (le-ltb y x (omega arith)) (omega (arith, past_bounds at.right (not (ltb x y)))))
      (λ h. rw (le-ltb x y h) (omega (arith, past_bounds at.left (not (ltb y x))))) (below_or_not x y)

-- ---- a loop through the heads

-- the rest of m begins with x
next-is : (m : List ℕ) (n x : ℕ) (rest : List ℕ) → drop n m ≡ x ∷ rest → (n < length m) × (get_or m n 0 ≡ x) × (drop (n + 1) m ≡ rest)
next-is m n x rest e =
    let q : n < length m = omega (arith, length-drop n m, ap length e) in
    let d : get_or m n 0 ∷ drop (suc n) m ≡ x ∷ rest = sym (drop-cons m n 0 q) ∙ e in
    (q, cc, rw (add-one n) (cc))

-- where it is kept
past-rest : (here : Bool) (m : List ℕ) (n x : ℕ) (rest : List ℕ) → drop n m ≡ keep here x rest → n ≤ length m
    → (past n here ≤ length m) × (drop (past n here) m ≡ rest)
unfolding past
past-rest true m n x rest e h = let next = next-is m n x rest e in (omega arith, next.2)
past-rest false m n x rest e h = let z : n + 0 ≡ n = omega arith in (omega arith, rw z e)

past_front : (here : Bool) (m : List ℕ) (n x : ℕ) (rest out : List ℕ) → drop n m ≡ keep here x rest → n < length out → take n out ≡ take n m
    → take (past n here) (set out n x) ≡ take (past n here) m
unfolding past
past_front true m n x rest out e h f =
    let next = next-is m n x rest e in rw (add-one n, take-suc-set out n x h, take-suc m n 0 next.0, f, next.1)
past_front false m n x rest out e h f = let z : n + 0 ≡ n = omega arith in rw z (take-set-le n out n x (omega arith) ∙ f)

-- at the start nothing has been passed
pub heads_begin : {kept : Kept} {l r : List ℕ} → Heads kept l r (record { left = 0; right = 0; kept = 0 })
heads_begin = record { left = omega arith; right = omega arith; few = omega arith; within = omega arith; rest = refl }

-- the items at the two places of two rows, and the places past the lower one
pub record Turn {A : Type 0} (value : A → ℕ) (kept : Kept) (a b : List A) (at next : Places) : Type 0 where
  pub x : A
  pub y : A
  pub left : at.left < length a
  pub right : at.right < length b
  pub x-is : x ≡ get_or a at.left x
  pub y-is : y ≡ get_or b at.right y
  pub next-is : next ≡ stepped kept at (ltb (value x) (value y)) (ltb (value y) (value x))

module _ {A : Type 0} {value : A → ℕ} {kept : Kept} {a b : List A} {at next : Places} (h : Heads kept (map value a) (map value b) at)
    (t : Turn value kept a b at next) where
  here-left : get_or (map value a) at.left 0 ≡ value t.x
  here-left = value-at value a at.left t.x t.left t.x-is

  here-right : get_or (map value b) at.right 0 ≡ value t.y
  here-right = value-at value b at.right t.y t.right t.y-is

  within-left : at.left < length (map value a)
  within-left = rw length-map t.left

  within-right : at.right < length (map value b)
  within-right = rw length-map t.right

  next_beyond : next ≡ beyond kept (map value a) (map value b) at
  next_beyond = rw (here-left, here-right) t.next-is

  pub heads-next : Heads kept (map value a) (map value b) next
  unfolding stepped
  heads-next =
      let l : List ℕ = map value a in let r : List ℕ = map value b in
      let x : ℕ = get_or l at.left 0 in let y : ℕ = get_or r at.right 0 in
      let k = past-rest (keeping kept l r at) (merged kept l r) at.kept _ _ (h.rest ∙ merged-at kept l r at within-left within-right) h.within in
      rw next_beyond (record {
        left = omega (arith, within-left, past_bounds at.left (not (ltb y x)));
        right = omega (arith, within-right, past_bounds at.right (not (ltb x y)));
        few = omega (arith, h.few, beyond-on kept l r at, past_bounds at.kept (keeping kept l r at));
        within = k.0;
        rest = k.1;
      })

  pub heads-less : length a + length b - (next.left + next.right) < length a + length b - (at.left + at.right)
  heads-less = rw next_beyond (omega (arith, beyond-on kept (map value a) (map value b) at, t.left, t.right))

-- ---- where one of the two lists has ended

-- what is left of a list from a place on, if it is kept
abbrev pub rest_of : {A : Type 0} → Bool → List A → ℕ → List A
rest_of kept l n = pick kept (drop n l) []

length_rest : {A : Type 0} (kept : Bool) (l : List A) (n : ℕ) → length (rest_of kept l n) ≡ pick kept (length l - n) 0
length_rest true l n = length-drop n l
length_rest false l n = refl

map_rest : {A : Type 0} (value : A → ℕ) (kept : Bool) (l : List A) (n : ℕ) → map value (rest_of kept l n) ≡ rest_of kept (map value l) n
map_rest value true l n = sym (drop-map value n l)
map_rest value false l n = refl

pick-le : (t : Bool) (n : ℕ) → pick t n 0 ≤ n
pick-le true n = omega arith
pick-le false n = omega arith

module _ {kept : Kept} {l r : List ℕ} {at : Places} (h : Heads kept l r at) where
  -- as many as are kept, with all that is left of the two
  pub heads-few : at.kept + pick kept.left (length l - at.left) 0 + pick kept.right (length r - at.right) 0 ≤ length l + length r
  heads-few = omega (arith, h.left, h.right, h.few, pick-le kept.left (length l - at.left), pick-le kept.right (length r - at.right))

  pub heads-end : (length l ≤ at.left) ⊎ (length r ≤ at.right)
      → drop at.kept (merged kept l r) ≡ rest_of kept.left l at.left ++ rest_of kept.right r at.right
  heads-end (inl e) =
      h.rest ∙ rw (drop_of_length-le l e, nothing kept.left) (merge-right _ _ _ (drop at.right r))
  heads-end (inr e) =
      h.rest ∙ rw (drop_of_length-le r e, nothing kept.right, append-nil) (merge-left _ _ _ (drop at.left l))

  pub heads-count : (length l ≤ at.left) ⊎ (length r ≤ at.right)
      → at.kept + pick kept.left (length l - at.left) 0 + pick kept.right (length r - at.right) 0 ≡ length (merged kept l r)
  heads-count e =
      omega (arith, h.within, length-drop at.kept (merged kept l r), simp (length-append, length_rest) at (ap length (heads-end e)))

-- ---- a loop that writes the lower head, and goes on behind it where it is kept

-- what has been kept stands in front of `out`
pub record Heading (kept : Kept) (l r : List ℕ) (at : Places) (out : List ℕ) : Type 0 where
  pub heads : Heads kept l r at
  pub front : take at.kept out ≡ take at.kept (merged kept l r)

pub heading_begin : {kept : Kept} {l r out : List ℕ} → Heading kept l r (record { left = 0; right = 0; kept = 0 }) out
heading_begin = record { heads = heads_begin; front = refl }

pub heading-next : {A : Type 0} {value : A → ℕ} {kept : Kept} {a b : List A} (out : List A) {at next : Places} {z : A}
    → Heading kept (map value a) (map value b) at (map value out) → (t : Turn value kept a b at next)
    → length a + length b ≤ length out → value z ≡ min (value t.x) (value t.y)
    → Heading kept (map value a) (map value b) next (map value (set out at.kept z))
unfolding stepped
heading-next {value = value} {kept} {a} {b} out {at} {z = z} w t room v =
    let l : List ℕ = map value a in let r : List ℕ = map value b in
    let h : Heads kept l r at = w.heads in
    let here : at.kept < length (map value out) = rw length-map (omega (arith, t.left, t.right, h.few)) in
    rw map-set (record {
      heads = heads-next h t;
      front = rw (next_beyond h t, v, ← here-left h t, ← here-right h t)
          (past_front (keeping kept l r at) (merged kept l r) at.kept _ _ (map value out) (h.rest ∙ merged-at kept l r at (within-left h t) (within-right h t)) here w.front);
    })

-- ---- both rests appended

-- what is written from place n on stands behind the first n
front_sets : {A : Type 0} (vs l : List A) (n : ℕ) → n + length vs ≤ length l → take (n + length vs) (sets l n vs) ≡ take n l ++ vs
front_sets vs l n h =
    rw (sets-eq vs l n h) (take_at (take n l ++ vs) (drop (n + length vs) l) (n + length vs) (simp (length-append, length-take) (omega arith)))

front_twice : {A : Type 0} (p q l : List A) (n : ℕ) → n + length p + length q ≤ length l
    → take (n + length p + length q) (sets (sets l n p) (n + length p) q) ≡ take n l ++ (p ++ q)
front_twice p q l n h =
    front_sets q (sets l n p) (n + length p) (simp length-sets h) ∙ rw (front_sets p l n (omega arith)) (append_assoc (take n l) p q)

pub headed-end : {A : Type 0} (value : A → ℕ) {kept : Kept} (a b out : List A) {at : Places} {n m : ℕ} {mid last : List A}
    → Headed kept (map value a) (map value b) at (map value out) → length a + length b ≤ length out
    → n ≡ at.kept + length (rest_of kept.left a at.left) → mid ≡ sets out at.kept (rest_of kept.left a at.left)
    → m ≡ n + length (rest_of kept.right b at.right) → last ≡ sets mid n (rest_of kept.right b at.right)
    → (m ≡ length (merged kept (map value a) (map value b))) × (take m (map value last) ≡ merged kept (map value a) (map value b))
headed-end value {kept} a b out {at} w room e d f g =
    let l : List ℕ = map value a in let r : List ℕ = map value b in
    let p = rest_of kept.left a at.left in let q = rest_of kept.right b at.right in
    let k = length_rest kept.left a at.left in let j = length_rest kept.right b at.right in
    let few : at.kept + pick kept.left (length a - at.left) 0 + pick kept.right (length b - at.right) 0 ≤ length a + length b =
    simp length-map at (heads-few w.heads) in
    let all : at.kept + pick kept.left (length a - at.left) 0 + pick kept.right (length b - at.right) 0 ≡ length (merged kept l r) =
    simp length-map at (heads-count w.heads w.ended) in
    let fits : at.kept + length p + length q ≤ length out = omega arith in (
      omega arith,
      rw (g, f, d, e, take-map, front_twice p q out at.kept fits, map-append, map-append, map_rest value kept.left, map_rest, ← take-map, w.front, ← heads-end w.heads w.ended)
          (take-append-drop at.kept (merged kept l r)),
    )
