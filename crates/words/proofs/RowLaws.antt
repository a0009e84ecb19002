-- Rows of words, word by word: XOR, AND, counts and exact spans, and each of them over a part and the rest. Assumes nothing.
use mathlib.Core.Path.{◌≡◌, refl, sym, ap, ap₂, ◌∙◌}
use mathlib.Core.Logic.{◌⊎◌, inl, inr, ⊎_elim}
use mathlib.Core.Bool.{Bool, true, false, ◌&&◌, and_assoc}
use mathlib.Core.List.{List, [], ◌∷◌, ◌++◌, append_assoc, append-nil}
use Prim.Native.Nat.{ℕ, zero, suc, ◌+◌, ◌-◌, ◌*◌, ◌/◌, ◌%◌, ◌^◌, ◌≤◌, ◌<◌, min, max}
use native.Mathlib.Nat.{zero-add}
use native.Mathlib.Omega.{arith}
use lib.Dec.{eqb}
use lib.Bits.{bit_and, bit_xor, and_zero_l, and_zero_r, xor_zero_l, xor_zero_r, xor_lt}
use lib.Count.{ones}
use lib.ListN.{length, get_or, take, drop, replicate, length-append, take-append-drop, get_or-eq_default}
use lib.Seq.{take-length}
use borrow.Author.Tests.{eq-eqb, ne_eqb, eqb-true}
use Rattle.words.specs.Sets.{pick}
use Rattle.words.specs.Words.{at, ones_from, members_from, members, count, exact_from, exact, zeros, Words, xors, ands, into}
use Rattle.words.proofs.Cases.{three_ways, same_or_not, and_parts}
use Rattle.words.proofs.BitLaws.{bit-none, xor_assoc, test_is, or_is, and-not-is, xor_is, length-ones, length-ones-le, count-is, lowest-is, without-lowest-is}

-- ---- XOR and AND, at each place

pub get_or-xors : (a b : List ℕ) (k : ℕ) → get_or (xors a b) k 0 ≡ bit_xor (get_or a k 0) (get_or b k 0)
unfolding xors
get_or-xors [] b k = sym (xor_zero_l (get_or b k 0))
get_or-xors (w ∷ a) [] k = sym (xor_zero_r (get_or (w ∷ a) k 0))
get_or-xors (w ∷ a) (v ∷ b) zero = refl
get_or-xors (w ∷ a) (v ∷ b) (suc k) = get_or-xors a b k

pub get_or-ands : (a b : List ℕ) (k : ℕ) → get_or (ands a b) k 0 ≡ bit_and (get_or a k 0) (get_or b k 0)
unfolding ands
get_or-ands [] b k = sym (and_zero_l (get_or b k 0))
get_or-ands (w ∷ a) [] k = sym (and_zero_r (get_or (w ∷ a) k 0))
get_or-ands (w ∷ a) (v ∷ b) zero = refl
get_or-ands (w ∷ a) (v ∷ b) (suc k) = get_or-ands a b k

pub length-xors : (a b : List ℕ) → length (xors a b) ≡ max (length a) (length b)
unfolding xors
length-xors [] b = omega arith
length-xors (w ∷ a) [] = omega arith
length-xors (w ∷ a) (v ∷ b) = omega (arith, length-xors a b)

pub length-ands : (a b : List ℕ) → length (ands a b) ≡ min (length a) (length b)
unfolding ands
length-ands [] b = omega arith
length-ands (w ∷ a) [] = omega arith
length-ands (w ∷ a) (v ∷ b) = omega (arith, length-ands a b)

pub length-into : (a b : List ℕ) → length (into a b) ≡ length a
unfolding into
length-into [] b = refl
length-into (w ∷ a) [] = refl
length-into (w ∷ a) (v ∷ b) = ap suc (length-into a b)

pub xors-none : (a : List ℕ) → xors a [] ≡ a
unfolding xors
xors-none [] = refl
xors-none (w ∷ a) = refl

pub ands-none : (a : List ℕ) → ands a [] ≡ []
unfolding ands
ands-none [] = refl
ands-none (w ∷ a) = refl

-- what is stored is the XOR, where there is room for it
pub into-is : (a b : List ℕ) → length b ≤ length a → into a b ≡ xors a b
unfolding into xors
into-is [] [] h = refl
into-is [] (v ∷ b) h = absurd (omega arith)
into-is (w ∷ a) [] h = refl
into-is (w ∷ a) (v ∷ b) h = ap (λ (l : List ℕ). bit_xor w v ∷ l) (into-is a b (omega arith))

-- and where there isn't, its front
pub into_front : (a b : List ℕ) → into a b ≡ take (length a) (xors a b)
unfolding into xors
into_front [] b = refl
into_front (w ∷ a) [] = sym (take-length (w ∷ a))
into_front (w ∷ a) (v ∷ b) = ap (λ (l : List ℕ). bit_xor w v ∷ l) (into_front a b)

-- one row after the other is their XOR
pub into_twice : (ws a b : List ℕ) → into (into ws a) b ≡ into ws (xors a b)
unfolding into xors
into_twice [] a b = refl
into_twice (w ∷ ws) [] b = refl
into_twice (w ∷ ws) (u ∷ a) [] = refl
into_twice (w ∷ ws) (u ∷ a) (v ∷ b) = ap₂ (λ (x : ℕ) (l : List ℕ). x ∷ l) (xor_assoc w u v) (into_twice ws a b)

-- ---- a part and the rest

pub xors-append : (a b c d : List ℕ) → length a ≡ length c → xors (a ++ b) (c ++ d) ≡ xors a c ++ xors b d
unfolding xors
xors-append [] b [] d h = refl
xors-append [] b (v ∷ c) d h = absurd (omega arith)
xors-append (w ∷ a) b [] d h = absurd (omega arith)
xors-append (w ∷ a) b (v ∷ c) d h = ap (λ (l : List ℕ). bit_xor w v ∷ l) (xors-append a b c d (omega arith))

pub ands-append : (a b c d : List ℕ) → length a ≡ length c → ands (a ++ b) (c ++ d) ≡ ands a c ++ ands b d
unfolding ands
ands-append [] b [] d h = refl
ands-append [] b (v ∷ c) d h = absurd (omega arith)
ands-append (w ∷ a) b [] d h = absurd (omega arith)
ands-append (w ∷ a) b (v ∷ c) d h = ap (λ (l : List ℕ). bit_and w v ∷ l) (ands-append a b c d (omega arith))

pub into-append : (a b c d : List ℕ) → length a ≡ length c → into (a ++ b) (c ++ d) ≡ into a c ++ into b d
unfolding into
into-append [] b [] d h = refl
into-append [] b (v ∷ c) d h = absurd (omega arith)
into-append (w ∷ a) b [] d h = absurd (omega arith)
into-append (w ∷ a) b (v ∷ c) d h = ap (λ (l : List ℕ). bit_xor w v ∷ l) (into-append a b c d (omega arith))

pub members-append : (p : ℕ) (a b : List ℕ) → members_from p (a ++ b) ≡ members_from p a ++ members_from (p + 64 * length a) b
unfolding members_from
members-append p [] b = ap (λ (q : ℕ). members_from q b) (omega arith)
members-append p (w ∷ a) b =
    let place : p + 64 + 64 * length a ≡ p + 64 * suc (length a) = omega arith in
    rw (members-append (p + 64) a b, place) (sym (append_assoc (ones_from p 64 w) (members_from (p + 64) a) _))

length-members : (p q : ℕ) (ws : List ℕ) → length (members_from p ws) ≡ length (members_from q ws)
unfolding members_from
length-members p q [] = refl
length-members p q (w ∷ ws) = simp length-append (ap₂ (λ (m n : ℕ). m + n) (length-ones p q 64 w) (length-members (p + 64) (q + 64) ws))

pub count-append : (a b : List ℕ) → count (a ++ b) ≡ count a + count b
unfolding count
count-append a b = rw (members-append 0 a b, length-append) (ap (λ (n : ℕ). length (members a) + n) (length-members _ 0 b))

pub count-cons : (w : ℕ) (ws : List ℕ) → count (w ∷ ws) ≡ count (w ∷ []) + count ws
count-cons w ws = count-append (w ∷ []) ws

-- `count_ones`
pub count_word : (w : ℕ) → w < 2 ^ 64 → count (w ∷ []) ≡ ones w
unfolding count members_from
count_word w h = rw (append-nil (ones_from 0 64 w)) (count-is 0 64 w h)

-- what the code does to a word, by what its contracts say
pub ruleset on_words = (test_is, or_is, and-not-is, xor_is, count_word, lowest-is, without-lowest-is)

pub count_none : count [] ≡ 0
unfolding count
count_none = refl

pub count-le : (ws : List ℕ) → count ws ≤ 64 * length ws
unfolding count
count-le ws = go 0 ws
  where
    go : (p : ℕ) (ws : List ℕ) → length (members_from p ws) ≤ 64 * length ws
    go p [] = omega arith
    go p (w ∷ ws) = simp length-append (omega (arith, length-ones-le p 64 w, go (p + 64) ws))

pub zeros-append : (a b : List ℕ) → zeros (a ++ b) ≡ (zeros a && zeros b)
unfolding zeros
zeros-append [] b = refl
zeros-append (w ∷ a) b = ap (λ (t : Bool). eqb w 0 && t) (zeros-append a b) ∙ sym (and_assoc (eqb w 0) (zeros a) (zeros b))

pub zeros-drop : (k : ℕ) (ws : List ℕ) → zeros ws ≡ true → zeros (drop k ws) ≡ true
zeros-drop k ws h = (and_parts (zeros (take k ws)) (zeros (drop k ws)) (sym (zeros-append (take k ws) (drop k ws)) ∙ rw (take-append-drop k ws) h)).1

exact-from : (p s : ℕ) (ws : List ℕ) → exact_from p s ws ≡ pick (eqb (exact ws) 0) s (p + exact ws)
unfolding exact
exact-from p s [] = refl
exact-from p s (w ∷ ws) =
    rw (exact-from (suc p) (pick (eqb w 0) s (suc p)) ws, exact-from 1 (pick (eqb w 0) 0 1) ws) (cases (eqb (exact ws) 0) (eqb w 0) (exact ws))
  where
    cases : (rest here : Bool) (n : ℕ)
        → let m : ℕ = pick rest (pick here 0 1) (1 + n) in pick rest (pick here s (suc p)) (suc p + n) ≡ pick (eqb m 0) s (p + m)
    cases true true n = refl
    cases true false n = omega arith
    cases false here n = rw (ne_eqb (1 + n) 0 (λ e. omega arith)) (omega arith)

exact-from-append : (p s : ℕ) (a b : List ℕ) → exact_from p s (a ++ b) ≡ exact_from (p + length a) (exact_from p s a) b
unfolding exact_from
exact-from-append p s [] b = ap (λ (q : ℕ). exact_from q s b) (omega arith)
exact-from-append p s (w ∷ a) b =
    let place : suc p + length a ≡ p + suc (length a) = omega arith in
    rw (← place) (exact-from-append (suc p) (pick (eqb w 0) s (suc p)) a b)

-- the rest tells, unless it is all 0
pub exact-append : (a b : List ℕ) → exact (a ++ b) ≡ pick (eqb (exact b) 0) (exact a) (length a + exact b)
unfolding exact
exact-append a b = exact-from-append 0 0 a b ∙ rw (zero-add (length a)) (exact-from (length a) (exact a) b)

-- ---- the exact span

pub exact_none : exact [] ≡ 0
unfolding exact
exact_none = refl

-- a word in front: the row is all 0, or its exact span grows by one
exact-cases : (w : ℕ) (ws : List ℕ)
    → ((exact (w ∷ ws) ≡ 0) × (exact ws ≡ 0) × (w ≡ 0)) ⊎ ((exact (w ∷ ws) ≡ suc (exact ws)) × (exact ws ≡ 0 → w ≡ 0 → ⊥))
unfolding exact
exact-cases w ws = go (same_or_not (exact ws) 0) (same_or_not w 0)
  where
    is : exact (w ∷ ws) ≡ pick (eqb (exact ws) 0) (pick (eqb w 0) 0 1) (1 + exact ws)
    is = exact-from 1 (pick (eqb w 0) 0 1) ws

    go : (exact ws ≡ 0) ⊎ (exact ws ≡ 0 → ⊥) → (w ≡ 0) ⊎ (w ≡ 0 → ⊥)
        → ((exact (w ∷ ws) ≡ 0) × (exact ws ≡ 0) × (w ≡ 0)) ⊎ ((exact (w ∷ ws) ≡ suc (exact ws)) × (exact ws ≡ 0 → w ≡ 0 → ⊥))
    go (inl e) (inl z) = inl (is ∙ rw (eq-eqb (exact ws) 0 e, eq-eqb w 0 z), e, z)
    go (inl e) (inr n) = inr (is ∙ rw (eq-eqb (exact ws) 0 e, ne_eqb w 0 n) (omega arith), λ _ z. n z)
    go (inr n) here = inr (is ∙ rw (ne_eqb (exact ws) 0 n) (omega arith), λ e _. n e)

-- a front has the exact span of the row that is 0 behind it; and behind a front in which its exact span lies a row is 0
pub exact-front : (ws tail : List ℕ) → exact tail ≡ 0 → exact (ws ++ tail) ≡ exact ws
exact-front ws tail z = exact-append ws tail ∙ rw z

pub exact-behind : (ws tail : List ℕ) → exact (ws ++ tail) ≤ length ws → exact tail ≡ 0
exact-behind ws tail h = go (exact tail) refl
  where
    go : (s : ℕ) → exact tail ≡ s → exact tail ≡ 0
    go zero e = e
    go (suc s) e =
        let beyond : exact (ws ++ tail) ≡ length ws + suc s = exact-append ws tail ∙ rw (e, ne_eqb (suc s) 0 (λ z. omega arith)) in
        absurd (omega (arith, beyond, h))

pub exact-le : (ws : List ℕ) → exact ws ≤ length ws
unfolding exact
exact-le [] = omega arith
exact-le (w ∷ ws) = let rest : exact ws ≤ length ws = exact-le ws in ⊎_elim (λ c. omega arith) (λ c. omega arith) (exact-cases w ws)

-- from there on all is 0, and the word before is not
pub exact_past : (ws : List ℕ) (k : ℕ) → exact ws ≤ k → get_or ws k 0 ≡ 0
exact_past [] k h = refl
exact_past (w ∷ ws) zero h = ⊎_elim (λ c. c.2) (λ c. absurd (omega arith)) (exact-cases w ws)
exact_past (w ∷ ws) (suc k) h = exact_past ws k (⊎_elim (λ c. omega arith) (λ c. omega arith) (exact-cases w ws))

pub exact_last : (ws : List ℕ) (k : ℕ) → k + 1 ≡ exact ws → get_or ws k 0 ≡ 0 → ⊥
unfolding exact
exact_last [] k e z = omega arith
exact_last (w ∷ ws) zero e z = ⊎_elim (λ c. omega arith) (λ c. c.1 (omega arith) z) (exact-cases w ws)
exact_last (w ∷ ws) (suc k) e z = ⊎_elim (λ c. omega arith) (λ c. exact_last ws k (omega arith) z) (exact-cases w ws)

-- which fixes it
pub exact-is : (ws : List ℕ) (s : ℕ) → ((k : ℕ) → s ≤ k → get_or ws k 0 ≡ 0) → ((k : ℕ) → k + 1 ≡ s → get_or ws k 0 ≡ 0 → ⊥) → exact ws ≡ s
exact-is ws s past last =
    ⊎_elim (λ l. absurd (last (s - 1) (omega arith) (exact_past ws (s - 1) (omega arith))))
    (λ r. ⊎_elim (λ e. e) (λ l. absurd (exact_last ws (exact ws - 1) (omega arith) (past (exact ws - 1) (omega arith)))) r)
    (three_ways (exact ws) s)

-- ---- all zero, and all below 2 ^ 64

pub zeros-at : (ws : List ℕ) → zeros ws ≡ true → (k : ℕ) → get_or ws k 0 ≡ 0
unfolding zeros
zeros-at [] h k = refl
zeros-at (w ∷ ws) h zero = eqb-true w 0 (and_parts (eqb w 0) (zeros ws) h).0
zeros-at (w ∷ ws) h (suc k) = zeros-at ws (and_parts (eqb w 0) (zeros ws) h).1 k

pub zeros_of : (ws : List ℕ) → ((k : ℕ) → get_or ws k 0 ≡ 0) → zeros ws ≡ true
unfolding zeros
zeros_of [] h = refl
zeros_of (w ∷ ws) h = rw (eq-eqb w 0 (h 0)) (zeros_of ws (λ k. h (suc k)))

pub zeros-is : (ws : List ℕ) → zeros ws ≡ true → ws ≡ replicate (length ws) 0
unfolding zeros
zeros-is [] h = refl
zeros-is (w ∷ ws) h =
    let parts = and_parts (eqb w 0) (zeros ws) h in
    ap₂ (λ (v : ℕ) (l : List ℕ). v ∷ l) (eqb-true w 0 parts.0) (zeros-is ws parts.1)

pub zeros-replicate : (n : ℕ) → zeros (replicate n 0) ≡ true
unfolding zeros
zeros-replicate zero = refl
zeros-replicate (suc n) = zeros-replicate n

pub words-at : (ws : List ℕ) → Words ws → (k : ℕ) → get_or ws k 0 < 2 ^ 64
unfolding Words
words-at [] h k = omega arith
words-at (w ∷ ws) h zero = h.0
words-at (w ∷ ws) h (suc k) = words-at ws h.1 k

pub words_from : (ws : List ℕ) → ((k : ℕ) → get_or ws k 0 < 2 ^ 64) → Words ws
unfolding Words
words_from [] h = tt
words_from (w ∷ ws) h = (h 0, words_from ws (λ k. h (suc k)))

pub words_append : (a b : List ℕ) → Words a → Words b → Words (a ++ b)
unfolding Words
words_append [] b f g = g
words_append (w ∷ a) b f g = (f.0, words_append a b f.1 g)

pub words_take : (k : ℕ) (ws : List ℕ) → Words ws → Words (take k ws)
unfolding Words
words_take zero ws h = tt
words_take (suc k) [] h = tt
words_take (suc k) (w ∷ ws) h = (h.0, words_take k ws h.1)

pub words-xors : (a b : List ℕ) → Words a → Words b → Words (xors a b)
unfolding Words xors
words-xors [] b f g = g
words-xors (w ∷ a) [] f g = f
words-xors (w ∷ a) (v ∷ b) f g = (xor_lt 64 w v f.0 g.0, words-xors a b f.1 g.1)

-- past the last word nothing is a member
pub at-past : (ws : List ℕ) (i : ℕ) → length ws ≤ i / 64 → at ws i ≡ false
at-past ws i h = rw (get_or-eq_default ws 0 {n = i / 64} h) (bit-none (i % 64))
