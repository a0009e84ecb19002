-- The members of words: index by index they are the one bits, each change of words is the change of members that its name
-- says, and words and members determine each other. Assumes nothing.
use mathlib.Core.Path.{◌≡◌, refl, sym, ap, ◌∙◌}
use mathlib.Core.Logic.{◌⊎◌, inl, inr, ⊎_elim}
use mathlib.Core.Bool.{Bool, true, false, not, ◌&&◌, ◌||◌, xor, and-true, or-false, or-true}
use mathlib.Core.List.{List, [], ◌∷◌, ◌++◌}
use Prim.Native.Nat.{ℕ, zero, suc, ◌+◌, ◌-◌, ◌*◌, ◌/◌, ◌%◌, ◌^◌, ◌≤◌, ◌<◌, max, min}
use native.Mathlib.Nat.{zero-add}
use native.Mathlib.Omega.{arith}
use lib.Dec.{eqb}
use lib.ListN.{length, get_or, set, take, drop, replicate, length-set, length-take, length-replicate, take-append-drop}
use lib.Seq.{get_or-set_same, get_or-set_other, get_or-drop, ext_get_or}
use borrow.Author.Tests.{eq-eqb, ne_eqb, eqb-true}
use Rattle.words.specs.Sets.{pick, From, Ascending, Below, has, merge, difference, intersection, insert, remove, toggle}
use Rattle.words.specs.Words.{bit, at, ones_from, members, members_from, count, exact, needed, needed_from, zeros, Words, put, put_at, flip, flips, words_of, xors, ands, into}
use Rattle.words.proofs.Cases.{below_or_not, same_or_not, clash, never, and_parts}
use Rattle.words.proofs.SetLaws.{has_low, has_head, has-tail, has-append, from_le, from-append, same-members, has-difference, ascending-difference, length-difference, difference_comm, has-intersection, ascending-intersection, single, has-insert, ascending-insert, has-remove, ascending-remove, has-toggle, ascending-toggle, below-has, has-below, below-le, below-merge}
use Rattle.words.proofs.BitLaws.{bit-put, bit-xor, bit-and, bit-none, put-lt, same_bits, from-ones, has-ones, has-ones-past}
use Rattle.words.proofs.RowLaws.{get_or-xors, get_or-ands, into-is, at-past, exact-is, words-at, words_from, zeros-append, zeros-at, zeros_of, zeros-is, zeros-replicate}

-- ---- index by index

from-members : (b : ℕ) (ws : List ℕ) → From b (members_from b ws)
unfolding From members_from
from-members b [] = tt
from-members b (w ∷ ws) =
    from-append b (b + 64) (ones_from b 64 w) (members_from (b + 64) ws) (from-ones b 64 w) (from-members (b + 64) ws) (omega arith)
    (λ i h. ⊎_elim (λ l. l) (λ l. clash (sym h ∙ has-ones-past b 64 w i l)) (below_or_not i (b + 64)))

pub ascending-members : (ws : List ℕ) → Ascending (members ws)
ascending-members ws = from-members 0 ws

has-from : (b : ℕ) (ws : List ℕ) (k : ℕ) → has (members_from b ws) (b + k) ≡ at ws k
unfolding has members_from
has-from b [] k = sym (bit-none (k % 64))
has-from b (w ∷ ws) k = has-append (ones_from b 64 w) (members_from (b + 64) ws) (b + k) ∙ go (has-from (b + 64) ws (k - 64)) (below_or_not k 64)
  where
    go : has (members_from (b + 64) ws) (b + 64 + (k - 64)) ≡ at ws (k - 64) → (k < 64) ⊎ (64 ≤ k)
        → (has (ones_from b 64 w) (b + k) || has (members_from (b + 64) ws) (b + k)) ≡ at (w ∷ ws) k
    go rest (inl l) =
        let first : k / 64 ≡ 0 = omega arith in
        let place : k % 64 ≡ k = omega arith in
        let low : b + k < b + 64 = omega arith in
        rw (has-ones b 64 w k l, has_low (b + 64) (b + k) (members_from (b + 64) ws) (from-members (b + 64) ws) low, first, place) (or-false (bit w k))
    go rest (inr l) =
        let later : b + 64 + (k - 64) ≡ b + k = omega arith in
        let next : k / 64 ≡ suc ((k - 64) / 64) = omega arith in
        let place : k % 64 ≡ (k - 64) % 64 = omega arith in
        rw (has-ones-past b 64 w (b + k) (omega arith), next, place) (rw later at rest)

-- "index i is bit i % 64 of word i / 64"
pub has-members : (ws : List ℕ) (i : ℕ) → has (members ws) i ≡ at ws i
has-members ws i = rw (zero-add i) at (has-from 0 ws i)

pub members-below : (ws : List ℕ) → Below (64 * length ws) (members ws)
members-below ws =
    has-below (64 * length ws) (members ws)
    (λ i h. ⊎_elim (λ l. l) (λ l. clash (sym h ∙ has-members ws i ∙ at-past ws i (omega arith))) (below_or_not i (64 * length ws)))

-- an ascending list that agrees with the words at each index is the list of their members
pub members_are : (ws l : List ℕ) → Ascending l → ((i : ℕ) → at ws i ≡ has l i) → members ws ≡ l
members_are ws l f h = same-members 0 (members ws) l (ascending-members ws) f (λ i. has-members ws i ∙ h i)

-- ---- one index changed

pub at-put_at : (ws : List ℕ) (i : ℕ) (v : Bool) (j : ℕ) → i / 64 < length ws → at (put_at ws i v) j ≡ pick (eqb i j) v (at ws j)
unfolding put_at
at-put_at ws i v j h = go (same_or_not (j / 64) (i / 64))
  where
    w : ℕ
    w = get_or ws (i / 64) 0

    place : j / 64 ≡ i / 64 → (i ≡ j) ⊎ (i ≡ j → ⊥) → eqb (i % 64) (j % 64) ≡ eqb i j
    place e (inl s) = eq-eqb (i % 64) (j % 64) (omega arith) ∙ sym (eq-eqb i j s)
    place e (inr n) = ne_eqb (i % 64) (j % 64) (λ d. n (omega arith)) ∙ sym (ne_eqb i j n)

    go : (j / 64 ≡ i / 64) ⊎ (j / 64 ≡ i / 64 → ⊥) → at (put_at ws i v) j ≡ pick (eqb i j) v (at ws j)
    go (inl e) = rw (e, get_or-set_same ws (i / 64) (put w (i % 64) v) 0 h, bit-put w (i % 64) v (j % 64), place e (same_or_not i j))
    go (inr n) = rw (get_or-set_other ws (i / 64) (j / 64) (put w (i % 64) v) 0 n, ne_eqb i j (λ e. n (omega arith)))

pub members-set : (ws : List ℕ) (i : ℕ) → i / 64 < length ws → members (put_at ws i true) ≡ insert i (members ws)
members-set ws i h =
    members_are (put_at ws i true) (insert i (members ws)) (ascending-insert i (members ws) (ascending-members ws))
    (λ j. at-put_at ws i true j h ∙ go (eqb i j) (at ws j) ∙ rw (has-insert i (members ws) j (ascending-members ws), has-members ws j))
  where
    go : (s t : Bool) → pick s true t ≡ (s || t)
    go true t = refl
    go false t = refl

pub members-clear : (ws : List ℕ) (i : ℕ) → i / 64 < length ws → members (put_at ws i false) ≡ remove i (members ws)
members-clear ws i h =
    members_are (put_at ws i false) (remove i (members ws)) (ascending-remove i (members ws) (ascending-members ws))
    (λ j. at-put_at ws i false j h ∙ go (eqb i j) (at ws j) ∙ rw (has-remove i (members ws) j (ascending-members ws), has-members ws j))
  where
    go : (s t : Bool) → pick s false t ≡ (not s && t)
    go true t = refl
    go false t = refl

xor-pick : (s t : Bool) → xor s t ≡ pick s (not t) t
unfolding xor
xor-pick true true = refl
xor-pick true false = refl
xor-pick false true = refl
xor-pick false false = refl

pub at-flip : (ws : List ℕ) (i j : ℕ) → i / 64 < length ws → at (flip ws i) j ≡ xor (eqb i j) (at ws j)
unfolding flip
at-flip ws i j h = at-put_at ws i (not (at ws i)) j h ∙ go (same_or_not i j) ∙ sym (xor-pick (eqb i j) (at ws j))
  where
    go : (i ≡ j) ⊎ (i ≡ j → ⊥) → pick (eqb i j) (not (at ws i)) (at ws j) ≡ pick (eqb i j) (not (at ws j)) (at ws j)
    go (inl e) = ap (λ (k : ℕ). pick (eqb i j) (not (at ws k)) (at ws j)) e
    go (inr n) = rw (ne_eqb i j n)

pub members-flip : (ws : List ℕ) (i : ℕ) → i / 64 < length ws → members (flip ws i) ≡ toggle i (members ws)
members-flip ws i h =
    members_are (flip ws i) (toggle i (members ws)) (ascending-toggle i (members ws) (ascending-members ws))
    (λ j. at-flip ws i j h ∙ rw (has-toggle i (members ws) j (ascending-members ws), has-members ws j))

pub length-put_at : (ws : List ℕ) (i : ℕ) (v : Bool) → length (put_at ws i v) ≡ length ws
unfolding put_at
length-put_at ws i v = simp length-set

words-set : (ws : List ℕ) (k w : ℕ) → Words ws → w < 2 ^ 64 → Words (set ws k w)
unfolding Words
words-set [] k w h l = tt
words-set (v ∷ ws) zero w h l = (l, h.1)
words-set (v ∷ ws) (suc k) w h l = (h.0, words-set ws k w h.1 l)

pub words-put_at : (ws : List ℕ) (i : ℕ) (v : Bool) → Words ws → Words (put_at ws i v)
unfolding put_at
words-put_at ws i v h =
    let w = get_or ws (i / 64) 0 in
    words-set ws (i / 64) (put w (i % 64) v) h (put-lt 64 w (i % 64) v (words-at ws h (i / 64)) (omega arith))

-- ---- XOR and AND

pub at-xors : (a b : List ℕ) (i : ℕ) → at (xors a b) i ≡ xor (at a i) (at b i)
at-xors a b i = rw (get_or-xors a b (i / 64)) (bit-xor (get_or a (i / 64) 0) (get_or b (i / 64) 0) (i % 64))

pub at-ands : (a b : List ℕ) (i : ℕ) → at (ands a b) i ≡ (at a i && at b i)
at-ands a b i = rw (get_or-ands a b (i / 64)) (bit-and (get_or a (i / 64) 0) (get_or b (i / 64) 0) (i % 64))

pub members-xors : (a b : List ℕ) → members (xors a b) ≡ difference (members a) (members b)
members-xors a b =
    let f = ascending-members a in
    let g = ascending-members b in
    members_are (xors a b) (difference (members a) (members b)) (ascending-difference (members a) (members b) f g)
    (λ i. at-xors a b i ∙ rw (has-difference (members a) (members b) i f g, has-members a i, has-members b i))

pub members-ands : (a b : List ℕ) → members (ands a b) ≡ intersection (members a) (members b)
members-ands a b =
    let f = ascending-members a in
    let g = ascending-members b in
    members_are (ands a b) (intersection (members a) (members b)) (ascending-intersection (members a) (members b) f g)
    (λ i. at-ands a b i ∙ rw (has-intersection (members a) (members b) i f g, has-members a i, has-members b i))

pub members-into : (a b : List ℕ) → length b ≤ length a → members (into a b) ≡ difference (members a) (members b)
members-into a b h = rw (into-is a b h) (members-xors a b)

pub count-xors : (a b : List ℕ) → count (xors a b) + 2 * count (ands a b) ≡ count a + count b
unfolding count
count-xors a b = rw (members-xors a b, members-ands a b) (length-difference (members a) (members b) (ascending-members a) (ascending-members b))

-- ---- a list of indices flipped, one after another

pub length-flips : (ws l : List ℕ) → length (flips ws l) ≡ length ws
unfolding flips
length-flips ws [] = refl
length-flips ws (i ∷ l) = length-flips (flip ws i) l ∙ length-put_at ws i (not (at ws i))

pub flips-append : (ws l r : List ℕ) → flips ws (l ++ r) ≡ flips (flips ws l) r
unfolding flips
flips-append ws [] r = refl
flips-append ws (i ∷ l) r = flips-append (flip ws i) l r

pub words-flips : (ws l : List ℕ) → Words ws → Words (flips ws l)
unfolding flips
words-flips ws [] h = h
words-flips ws (i ∷ l) h = words-flips (flip ws i) l (words-put_at ws i (not (at ws i)) h)

has-later : (x : ℕ) (l : List ℕ) (i : ℕ) → has l i ≡ true → has (x ∷ l) i ≡ true
unfolding has
has-later x l i h = rw h (or-true (eqb x i))

at-flips : (b : ℕ) (ws l : List ℕ) (j : ℕ) → From b l → ((i : ℕ) → has l i ≡ true → i / 64 < length ws) → at (flips ws l) j ≡ xor (has l j) (at ws j)
unfolding flips has From
at-flips b ws [] j f h = sym (xor-pick false (at ws j))
at-flips b ws (x ∷ l) j f h =
    at-flips (suc x) (flip ws x) l j f.1 (λ i e. rw (length-put_at ws x (not (at ws x))) (h i (has-later x l i e)))
    ∙ rw (at-flip ws x j (h x (has_head x l))) (once (eqb x j) (has l j) (at ws j) (λ e. has_low (suc x) j l f.1 (omega (arith, eqb-true x j e))))
  where
    once : (s t u : Bool) → (s ≡ true → t ≡ false) → xor t (xor s u) ≡ xor (s || t) u
    once true t u h = rw (h refl) (xor-pick false (xor true u))
    once false t u h = ap (xor t) (xor-pick false u)

-- of an ascending list within the words, each index is flipped once
pub members-flips : (ws l : List ℕ) → Ascending l → Below (64 * length ws) l → members (flips ws l) ≡ difference l (members ws)
members-flips ws l f h =
    members_are (flips ws l) (difference l (members ws)) (ascending-difference l (members ws) f (ascending-members ws))
    (λ j. at-flips 0 ws l j f (λ i e. omega (arith, below-has (64 * length ws) l h i e)) ∙ rw (has-difference l (members ws) j f (ascending-members ws), has-members ws j))

-- ---- words and members determine each other

pub members-zeros : (n : ℕ) → members (replicate n 0) ≡ []
unfolding From has
members-zeros n = members_are (replicate n 0) [] tt (λ i. rw (zeros-at (replicate n 0) (zeros-replicate n) (i / 64)) (bit-none (i % 64)))

pub members-words : (n : ℕ) (l : List ℕ) → Ascending l → Below (64 * n) l → members (words_of n l) ≡ l
unfolding words_of merge From
members-words n l f h =
    let room : Below (64 * length {A = ℕ} (replicate n 0)) l = rw (length-replicate {A = ℕ} n 0) h in
    members-flips (replicate n 0) l f room ∙ rw (members-zeros n) (difference_comm l [] f tt)

pub length-words_of : (n : ℕ) (l : List ℕ) → length (words_of n l) ≡ n
unfolding words_of
length-words_of n l = length-flips (replicate n 0) l ∙ length-replicate n 0

pub words-words_of : (n : ℕ) (l : List ℕ) → Words (words_of n l)
unfolding words_of
words-words_of n l =
    words-flips (replicate n 0) l (words_from (replicate n 0) (λ k. rw (zeros-at (replicate n 0) (zeros-replicate n) k) (omega arith)))

at_place : (ws : List ℕ) (k j : ℕ) → j < 64 → at ws (64 * k + j) ≡ bit (get_or ws k 0) j
at_place ws k j h =
    let word : (64 * k + j) / 64 ≡ k = omega arith in
    let place : (64 * k + j) % 64 ≡ j = omega arith in
    rw (word, place)

pub same-words : (a b : List ℕ) → length a ≡ length b → Words a → Words b → members a ≡ members b → a ≡ b
same-words a b e f g h =
    ext_get_or 0 a b e (λ k l. same_bits 64 (get_or a k 0) (get_or b k 0) (words-at a f k) (words-at b g k) (same k))
  where
    same : (k j : ℕ) → j < 64 → bit (get_or a k 0) j ≡ bit (get_or b k 0) j
    same k j l =
        let i = 64 * k + j in
        sym (at_place a k j l) ∙ sym (has-members a i) ∙ rw h (has-members b i) ∙ at_place b k j l

pub words-members : (ws : List ℕ) → Words ws → words_of (length ws) (members ws) ≡ ws
words-members ws h =
    same-words (words_of (length ws) (members ws)) ws (length-words_of (length ws) (members ws)) (words-words_of (length ws) (members ws)) h
    (members-words (length ws) (members ws) (ascending-members ws) (members-below ws))

-- ---- words that are 0

pub members-none : (ws : List ℕ) → zeros ws ≡ true → members ws ≡ []
members-none ws h = ap (λ (l : List ℕ). members l) (zeros-is ws h) ∙ members-zeros (length ws)

-- all words are 0 exactly when there is no member
pub zeros-none : (ws : List ℕ) → Words ws → zeros ws ≡ eqb (length (members ws)) 0
unfolding words_of flips
zeros-none ws h = go (zeros ws) refl (members ws) refl
  where
    go : (t : Bool) → zeros ws ≡ t → (l : List ℕ) → members ws ≡ l → t ≡ eqb (length l) 0
    go true e [] m = refl
    go true e (x ∷ l) m = absurd (omega (arith, ap length (sym (members-none ws e) ∙ m)))
    go false e [] m = clash (sym (zeros-replicate (length ws)) ∙ ap zeros (rw m at (words-members ws h)) ∙ e)
    go false e (x ∷ l) m = sym (ne_eqb (suc (length l)) 0 (λ q. omega arith))

-- where all words behind a front are 0, the front has all members
front_at : (k : ℕ) (ws : List ℕ) → zeros (drop k ws) ≡ true → (j : ℕ) → get_or (take k ws) j 0 ≡ get_or ws j 0
front_at zero ws h j = sym (zeros-at ws h j)
front_at (suc k) [] h j = refl
front_at (suc k) (w ∷ ws) h zero = refl
front_at (suc k) (w ∷ ws) h (suc j) = front_at k ws h j

pub members_front : (k : ℕ) (ws : List ℕ) → zeros (drop k ws) ≡ true → members (take k ws) ≡ members ws
members_front k ws h =
    members_are (take k ws) (members ws) (ascending-members ws) (λ i. rw (front_at k ws h (i / 64)) (sym (has-members ws i)))

-- which are then below 64 * k
pub zeros-below : (k : ℕ) (ws : List ℕ) → zeros (drop k ws) ≡ true → Below (64 * k) (members ws)
zeros-below k ws h =
    rw (members_front k ws h) at
    (below-le (64 * length (take k ws)) (64 * k) (members (take k ws)) (members-below (take k ws)) (omega (arith, length-take k ws)))

-- a word without members is 0
absent_word : (ws : List ℕ) (k : ℕ) → Words ws → ((i : ℕ) → has (members ws) i ≡ true → i / 64 ≡ k → ⊥) → get_or ws k 0 ≡ 0
absent_word ws k h none =
    same_bits 64 (get_or ws k 0) 0 (words-at ws h k) (omega arith)
    (λ j m. let i = 64 * k + j in
    sym (at_place ws k j m) ∙ sym (has-members ws i) ∙ never (has (members ws) i) (λ t. none i t (omega arith)) ∙ sym (bit-none j))

-- and the other way round
pub below-zeros : (k : ℕ) (ws : List ℕ) → Words ws → Below (64 * k) (members ws) → zeros (drop k ws) ≡ true
below-zeros k ws h b =
    zeros_of (drop k ws) (λ j. get_or-drop k ws j 0 ∙ absent_word ws (k + j) h (λ i t e. omega (arith, below-has (64 * k) (members ws) b i t)))

pub zeros_front : (k : ℕ) (ws : List ℕ) → zeros (drop k ws) ≡ true → zeros (take k ws) ≡ zeros ws
zeros_front k ws h = sym (rw (take-append-drop k ws, h, and-true) at (zeros-append (take k ws) (drop k ws)))

-- ---- the exact span by members

pub needed-cons : (x : ℕ) (l : List ℕ) → From x l → needed (x ∷ l) ≡ max (x / 64 + 1) (needed l)
unfolding needed From
needed-cons x [] f = omega arith
needed-cons x (y ∷ l) f = omega (arith, f.0, needed-cons y l (from_le y (suc y) l f.1 (omega arith)))

needed-from : (b : ℕ) (l : List ℕ) → From b l → (i : ℕ) → has l i ≡ true → i / 64 + 1 ≤ needed l
unfolding From has
needed-from b [] f i h = clash (sym h)
needed-from b (x ∷ l) f i h =
    let most = needed-cons x l (from_le x (suc x) l f.1 (omega arith)) in
    ⊎_elim (λ e. omega arith) (λ n. omega (arith, needed-from (suc x) l f.1 i (sym (has-tail x i l n) ∙ h))) (same_or_not x i)

pub needed-has : (l : List ℕ) → Ascending l → (i : ℕ) → has l i ≡ true → i / 64 + 1 ≤ needed l
needed-has l f = needed-from 0 l f

-- past it there is none
pub needed-past : (l : List ℕ) → Ascending l → (i : ℕ) → needed l ≤ i / 64 → has l i ≡ false
needed-past l f i h = never (has l i) (λ e. omega (arith, needed-has l f i e))

-- it is at most n exactly when every member is below 64 * n
pub needed-below : (n : ℕ) (l : List ℕ) → Ascending l → needed l ≤ n → Below (64 * n) l
needed-below n l f h = has-below (64 * n) l (λ i e. omega (arith, needed-has l f i e))

pub below-needed : (n : ℕ) (l : List ℕ) → Below (64 * n) l → needed l ≤ n
unfolding needed Below
below-needed n l h = go 0 l (omega arith) h
  where
    go : (s : ℕ) (l : List ℕ) → s ≤ n → Below (64 * n) l → needed_from s l ≤ n
    go s [] q h = q
    go s (x ∷ l) q h = go (x / 64 + 1) l (omega (arith, h.0)) h.1

-- fewer members need no more
pub needed_part : (l r : List ℕ) → Ascending r → ((i : ℕ) → has l i ≡ true → has r i ≡ true) → needed l ≤ needed r
needed_part l r g h = below-needed (needed r) l (has-below (64 * needed r) l (λ i e. omega (arith, needed-has r g i (h i e))))

pub needed-merge : (left right both : Bool) (l r : List ℕ) → Ascending l → Ascending r
    → needed (merge left right both l r) ≤ max (needed l) (needed r)
needed-merge left right both l r f g =
    let most = max (needed l) (needed r) in
    below-needed most (merge left right both l r)
    (below-merge left right both (64 * most) l r f g (needed-below most l f (omega arith)) (needed-below most r g (omega arith)))

pub needed-intersection : (l r : List ℕ) → Ascending l → Ascending r → needed (intersection l r) ≤ min (needed l) (needed r)
needed-intersection l r f g =
    omega (
      arith,
      needed_part (intersection l r) l f (λ i e. (parts i e).0),
      needed_part (intersection l r) r g (λ i e. (parts i e).1),
    )
  where
    parts : (i : ℕ) → has (intersection l r) i ≡ true → (has l i ≡ true) × (has r i ≡ true)
    parts i e = and_parts (has l i) (has r i) (sym (has-intersection l r i f g) ∙ e)

pub needed-insert : (i : ℕ) (l : List ℕ) → Ascending l → needed (insert i l) ≡ max (i / 64 + 1) (needed l)
unfolding needed
needed-insert i l f =
    omega (
      arith,
      needed-merge true true true (i ∷ []) l (single i) f,
      needed-has (insert i l) g i (member i (rw (eq-eqb i i refl))),
      needed_part l (insert i l) g (λ j e. member j (rw e (or-true (eqb i j)))),
    )
  where
    g : Ascending (insert i l)
    g = ascending-insert i l f

    member : (j : ℕ) → (eqb i j || has l j) ≡ true → has (insert i l) j ≡ true
    member j e = has-insert i l j f ∙ e

pub needed-remove : (i : ℕ) (l : List ℕ) → Ascending l → needed (remove i l) ≤ needed l
needed-remove i l f =
    needed_part (remove i l) l f (λ j e. (and_parts (not (eqb i j)) (has l j) (sym (has-remove i l j f) ∙ e)).1)

-- the words' exact span is what their members need
pub exact-needed : (ws : List ℕ) → Words ws → exact ws ≡ needed (members ws)
exact-needed ws h = exact-is ws (needed (members ws)) past last
  where
    past : (k : ℕ) → needed (members ws) ≤ k → get_or ws k 0 ≡ 0
    past k l = absent_word ws k h (λ i t e. omega (arith, needed-has (members ws) (ascending-members ws) i t))

    before : (k i : ℕ) → k + 1 ≡ needed (members ws) → get_or ws k 0 ≡ 0 → has (members ws) i ≡ true → i < 64 * k
    before k i e z m =
        ⊎_elim (λ l. l) (λ l. let d : i / 64 ≡ k = omega (arith, needed-has (members ws) (ascending-members ws) i m) in
        clash (sym m ∙ has-members ws i ∙ rw (d, z) (bit-none (i % 64)))) (below_or_not i (64 * k))

    last : (k : ℕ) → k + 1 ≡ needed (members ws) → get_or ws k 0 ≡ 0 → ⊥
    last k e z = omega (arith, below-needed k (members ws) (has-below (64 * k) (members ws) (λ i. before k i e z)))

-- it is 0 exactly when there is no member
pub exact_empty : (ws : List ℕ) → Words ws → eqb (exact ws) 0 ≡ eqb (length (members ws)) 0
unfolding needed
exact_empty ws h = rw (exact-needed ws h) (go (members ws) (ascending-members ws))
  where
    go : (l : List ℕ) → Ascending l → eqb (needed l) 0 ≡ eqb (length l) 0
    go [] f = refl
    go (x ∷ l) f =
        ne_eqb (needed (x ∷ l)) 0 (λ e. omega (arith, needed-has (x ∷ l) f x (has_head x l)))
        ∙ sym (ne_eqb (suc (length l)) 0 (λ e. omega arith))
