-- What the loops over rows keep: counting up, coming down to the last word that is not 0, and writing word by word; and what
-- chains over a row give. Each is stated over any row, so that a row of words and rows combined have one proof. Assumes nothing.
use mathlib.Core.Path.{◌≡◌, refl, sym, ap, ◌∙◌}
use mathlib.Core.Logic.{⊎_elim}
use mathlib.Core.Bool.{◌&&◌, and_assoc, and-true}
use mathlib.Core.List.{List, [], ◌∷◌, ◌++◌, append-nil}
use Prim.Native.Nat.{ℕ, zero, suc, ◌+◌, ◌-◌, ◌*◌, ◌≤◌, ◌<◌, min}
use native.Mathlib.Numerals.{add-one}
use native.Mathlib.Omega.{arith}
use lib.Bits.{bit_or, bit_xor}
use lib.Dec.{eqb}
use lib.ListN.{length, get_or, set, take, drop, get_or-eq_default, length-take, length-drop, length-set, drop_of_length-le, take-append-drop}
use lib.Seq.{drop-cons, take_all, take-suc, length-take-le, set_at, append_snoc, take-suc-set, drop-set-lt}
use borrow.Author.Tests.{ne_eqb, eq-eqb, eqb-true}
use borrow.Rule.Slice.PartMut.{put_mid}
use Rattle.std.specs.List.{sum_by}
use Rattle.std.proofs.lemmas.List.Recursion.{is_sum_by}
use Rattle.std.proofs.Common.{Option, Some, None}
use Rattle.std.specs.Option.{MatchOption, option_map_or}
use Rattle.words.specs.Sets.{pick}
use Rattle.words.specs.Words.{ones_from, members_from, count, exact, exact_from, reach, zeros, xors, ands, into}
use Rattle.words.proofs.Cases.{below_or_not, and_parts}
use Rattle.words.proofs.BitLaws.{or_zero}
use Rattle.words.proofs.RowLaws.{count-cons, count_none, count-le, exact-le, exact-is, exact_past, exact_last, exact-append, exact-front, exact-behind, xors-none, into_twice}

-- a slice from a place to its end, as the code takes it
abbrev pub tail : List ℕ → ℕ → List ℕ
tail ws k = take (length ws - k) (drop k ws)

pub rest-is : (ws : List ℕ) (k : ℕ) → tail ws k ≡ drop k ws
rest-is ws k = take_all (length ws - k) (drop k ws) (omega (arith, length-drop k ws))

-- the rest of combined rows is the combined rests
pub drop-xors : (k : ℕ) (a b : List ℕ) → drop k (xors a b) ≡ xors (drop k a) (drop k b)
unfolding xors
drop-xors zero a b = refl
drop-xors (suc k) [] b = refl
drop-xors (suc k) (x ∷ a) [] = sym (xors-none (drop k a))
drop-xors (suc k) (x ∷ a) (y ∷ b) = drop-xors k a b

pub drop-ands : (k : ℕ) (a b : List ℕ) → drop k (ands a b) ≡ ands (drop k a) (drop k b)
unfolding ands
drop-ands zero a b = refl
drop-ands (suc k) [] b = refl
drop-ands (suc k) (x ∷ a) [] = none (drop k a)
  where
    none : (l : List ℕ) → [] ≡ ands l []
    none [] = refl
    none (x ∷ l) = refl
drop-ands (suc k) (x ∷ a) (y ∷ b) = drop-ands k a b

-- ---- the rest of a row

-- past the first k words of a row, f, the count or the exact span, is x
pub record Rest (f : List ℕ → ℕ) (r : List ℕ) (k x : ℕ) : Type 0 where
  pub is : x ≡ f (drop k r)

pub rest-row : {f : List ℕ → ℕ} {r : List ℕ} {k x : ℕ} → x ≡ f (tail r k) → Rest f r k x
rest-row {f} {r} {k} e = record { is = e ∙ ap f (rest-is r k) }

pub rest-ands : {f : List ℕ → ℕ} (a b : List ℕ) {k x : ℕ} → x ≡ f (ands (tail a k) (tail b k)) → Rest f (ands a b) k x
rest-ands a b {k} e = record { is = rw (drop-ands k a b, ← rest-is a k, ← rest-is b k) e }

-- past the end of the shorter of two rows their XOR is the rest of the longer
pub rest-xors : {f : List ℕ → ℕ} {a b : List ℕ} {k x y : ℕ}
    → f [] ≡ 0 → k ≡ min (length a) (length b) → Rest f a k x → Rest f b k y → Rest f (xors a b) k (x + y)
unfolding xors
rest-xors {f} {a} {b} {k} none h p q = record {
  is = rw (drop-xors k a b) (go (drop k a) (drop k b) (simp length-drop (omega arith)) p.is q.is);
}
  where
    go : (p q : List ℕ) {x y : ℕ} → min (length p) (length q) ≡ 0 → x ≡ f p → y ≡ f q → x + y ≡ f (xors p q)
    go [] q h e d = omega (arith, none)
    go (w ∷ p) [] h e d = omega (arith, none)
    go (w ∷ p) (v ∷ q) h e d = absurd (omega arith)

-- past the end of one of three rows their XOR is that of the other two
module _ {f : List ℕ → ℕ} (c a b : List ℕ) {k x : ℕ} where
  pub rest-first : length c ≤ k → x ≡ f (xors (tail a k) (tail b k)) → Rest f (xors c (xors a b)) k x
  unfolding xors
  rest-first h e = record { is = rw (drop-xors, drop-xors, drop_of_length-le c h, ← rest-is a k, ← rest-is b k) e }

  pub rest-second : length a ≤ k → x ≡ f (xors (tail c k) (tail b k)) → Rest f (xors c (xors a b)) k x
  unfolding xors
  rest-second h e = record { is = rw (drop-xors, drop-xors, drop_of_length-le a h, ← rest-is c k, ← rest-is b k) e }

  pub rest-third : length b ≤ k → x ≡ f (xors (tail c k) (tail a k)) → Rest f (xors c (xors a b)) k x
  rest-third h e = record { is = rw (drop-xors, drop-xors, drop_of_length-le b h, xors-none (drop k a), ← rest-is c k, ← rest-is a k) e }

-- ---- counting up

pub word_count-le : {m : ℕ} (w : ℕ) → m ≡ count (w ∷ []) → m ≤ 64
word_count-le w e = omega (arith, count-le (w ∷ []))

-- of the first k words of a row, the first i have n members
pub record Counted (r : List ℕ) (k n i : ℕ) : Type 0 where
  pub within : i ≤ k
  pub most : n ≤ 64 * i
  pub is : n + count (drop i r) ≡ count r

pub counted_begin : {r : List ℕ} {k : ℕ} → Counted r k 0 0
counted_begin = record { within = omega arith; most = omega arith; is = omega arith }

-- one word and the rest; past the end of the row both are nothing
count-drop : (r : List ℕ) (i : ℕ) → count (drop i r) ≡ count (get_or r i 0 ∷ []) + count (drop (suc i) r)
unfolding count members_from ones_from
count-drop [] zero = refl
count-drop [] (suc i) = refl
count-drop (w ∷ r) zero = count-cons w r
count-drop (w ∷ r) (suc i) = count-drop r i

pub counted_next : {r : List ℕ} {k n i w m : ℕ} → Counted r k n i → i < k → get_or r i 0 ≡ w → m ≡ count (w ∷ []) → Counted r k (n + m) (i + 1)
counted_next {r} {i = i} {m = m} c h e q =
    let here : m ≡ count (get_or r i 0 ∷ []) = q ∙ ap (λ (v : ℕ). count (v ∷ [])) (sym e) in
    record {
      within = omega arith;
      most = omega (arith, c.most, word_count-le _ q);
      is = rw (add-one i) (omega (arith, c.is, count-drop r i));
    }

pub counted_end : {r : List ℕ} {k n i : ℕ} → Counted r k n i → length r ≤ i → n ≡ count r
counted_end {r} c h = omega (arith, c.is, ap count (drop_of_length-le r h), count_none)

-- with the members of what follows the k words
pub counted-rest : {r : List ℕ} {k n i rest : ℕ} → Counted r k n i → k ≤ i → Rest count r k rest → n + rest ≡ count r
counted-rest {r} {k} {n} {i} c h e =
    let all : i ≡ k = omega (arith, c.within) in
    omega (arith, c.is, e.is, ap (λ (j : ℕ). count (drop j r)) all)

pub rest-count-le : {r : List ℕ} {k rest : ℕ} → Rest count r k rest → rest ≤ 64 * length r
rest-count-le {r} {k} e = omega (arith, e.is, count-le (drop k r), length-drop k r)

-- the count of a row is the sum of its words' counts
pub sum_of_counts : (r : List ℕ) → count r ≡ sum_by (λ w. count (w ∷ [])) r
sum_of_counts = is_sum_by count (λ w. count (w ∷ [])) count_none count-cons

-- ---- the exact span, walking up

pub exact_begin : (ws : List ℕ) → exact_from 0 0 ws ≡ exact ws
unfolding exact
exact_begin ws = refl

pub exact_turn : (ws : List ℕ) (i s t : ℕ) → exact_from i s (drop i ws) ≡ exact ws → i < length ws → t ≡ reach (get_or ws i 0) i s → exact_from (i + 1) t (drop (i + 1) ws) ≡ exact ws
unfolding exact_from
exact_turn ws i s t e h q = rw (q, add-one i) (sym (ap (exact_from i s) (drop-cons ws i 0 h)) ∙ e)

pub exact_end : (ws : List ℕ) (i s : ℕ) → exact_from i s (drop i ws) ≡ exact ws → length ws ≤ i → s ≡ exact ws
unfolding exact_from
exact_end ws i s e h = sym (ap (exact_from i s) (drop_of_length-le ws h)) ∙ e

-- ---- the exact span, by the place of the last word that is not 0

-- past the end of a row there is nothing but 0
zero-at : (ws : List ℕ) (k : ℕ) → (k < length ws → get_or ws k 0 ≡ 0) → get_or ws k 0 ≡ 0
zero-at ws k z = ⊎_elim z (λ past. get_or-eq_default ws 0 past) (below_or_not k (length ws))

pub exact_by_last : (ws : List ℕ) (last : Option ℕ)
    → MatchOption last ((k : ℕ) → k < length ws → get_or ws k 0 ≡ 0)
    (λ p. ¬ (get_or ws p 0 ≡ 0) × ((k : ℕ) → p < k → k < length ws → get_or ws k 0 ≡ 0))
    → option_map_or (λ p. p + 1) last 0 ≡ exact ws
exact_by_last ws None h = sym (exact-is ws 0 (λ k _. zero-at ws k (h k)) (λ k e. omega arith))
exact_by_last ws (Some p) h =
    sym (exact-is ws (p + 1) (λ k l. zero-at ws k (h.1 k (omega arith)))
    (λ k e z. h.0 (ap (λ (j : ℕ). get_or ws j 0) (omega arith) ∙ z)))

-- ---- the exact span, coming down

-- the words from place n on are 0, and n is one of the first k places, or k
pub record Clear (r : List ℕ) (k n : ℕ) : Type 0 where
  pub within : n ≤ k
  pub past : exact r ≤ n

pub clear_begin : {r : List ℕ} {k : ℕ} → length r ≤ k → Clear r k k
clear_begin {r} h = record { within = omega arith; past = omega (arith, exact-le r) }

pub clear_next : {r : List ℕ} {k n m w : ℕ} → Clear r k n → m + 1 ≡ n → get_or r m 0 ≡ w → w ≡ 0 → Clear r k m
clear_next {r} {m = m} c q e z = record {
  within = omega (arith, c.within);
  past = ⊎_elim (λ l. absurd (exact_last r m (omega (arith, c.past)) (e ∙ z))) (λ l. l) (below_or_not m (exact r));
}

-- four words at once, whose OR is 0
pub clear-four : {r : List ℕ} {k n : ℕ} → Clear r k n → 4 ≤ n
    → bit_or (bit_or (bit_or (get_or r (n - 1) 0) (get_or r (n - 2) 0)) (get_or r (n - 3) 0)) (get_or r (n - 4) 0) ≡ 0 → Clear r k (n - 4)
clear-four {r} {k} {n} c h e =
    let last = or_none e in
    let third = or_none last.0 in
    let first = or_none third.0 in
    let a : Clear r k (n - 1) = clear_next c (omega arith) refl first.0 in
    let b : Clear r k (n - 2) = clear_next a (omega arith) refl first.1 in
    let d : Clear r k (n - 3) = clear_next b (omega arith) refl third.1 in
    clear_next d (omega arith) refl last.1
  where
    or_none : {x y : ℕ} → bit_or x y ≡ 0 → (x ≡ 0) × (y ≡ 0)
    or_none {x} {y} e =
        let parts = and_parts (eqb x 0) (eqb y 0) (sym (or_zero x y) ∙ eq-eqb (bit_or x y) 0 e) in
        (eqb-true x 0 parts.0, eqb-true y 0 parts.1)

pub clear-found : {r : List ℕ} {k n w : ℕ} → Clear r k n → 0 < n → get_or r (n - 1) 0 ≡ w → (w ≡ 0 → ⊥) → n ≡ exact r
clear-found {r} {n = n} c p e h =
    ⊎_elim (λ l. absurd (h (sym e ∙ exact_past r (n - 1) (omega arith)))) (λ l. omega (arith, c.past)) (below_or_not (exact r) n)

-- what follows the first k words tells, unless it is all 0
exact-drop : (r : List ℕ) (k : ℕ) → exact r ≡ pick (eqb (exact (drop k r)) 0) (exact (take k r)) (length (take k r) + exact (drop k r))
exact-drop r k = sym (ap exact (take-append-drop k r)) ∙ exact-append (take k r) (drop k r)

-- the words in front have the exact span of all
pub clear-front : {r : List ℕ} {k n : ℕ} → Clear r k n → exact (take n r) ≡ exact r
clear-front {r} {n = n} c =
    let all : exact (take n r ++ drop n r) ≡ exact r = ap exact (take-append-drop n r) in
    sym (exact-front (take n r) (drop n r) (exact-behind (take n r) (drop n r) (omega (arith, all, c.past, exact-le r, length-take n r)))) ∙ all

pub exact-rest : {r : List ℕ} {k rest : ℕ} → Rest exact r k rest → 0 < rest → k + rest ≡ exact r
exact-rest {r} {k} {rest} e h =
    let within : k ≤ length r = omega (arith, e.is, exact-le (drop k r), length-drop k r) in
    sym (exact-drop r k ∙ rw (← e.is, ne_eqb rest 0 (λ z. omega arith), length-take-le k r within))

pub clear-rest : {r : List ℕ} {k rest : ℕ} → Rest exact r k rest → rest ≡ 0 → Clear r k k
clear-rest {r} {k} e z =
    let is : exact r ≡ exact (take k r) = exact-drop r k ∙ rw (← e.is, z) in
    record { within = omega arith; past = omega (arith, exact-le (take k r), length-take k r) }

pub rest-exact-le : {r : List ℕ} {k rest : ℕ} → Rest exact r k rest → rest ≤ length r
rest-exact-le {r} {k} e = omega (arith, e.is, exact-le (drop k r), length-drop k r)

-- ---- all zero

-- `any`, the OR of the words passed, and the words that are left
pub any_turn : (ws : List ℕ) (i any : ℕ) → i < length ws → (eqb (bit_or any (get_or ws i 0)) 0 && zeros (drop (i + 1) ws)) ≡ (eqb any 0 && zeros (drop i ws))
unfolding zeros
any_turn ws i any h =
    rw (add-one i, drop-cons ws i 0 h, or_zero any (get_or ws i 0)) (and_assoc (eqb any 0) (eqb (get_or ws i 0) 0) (zeros (drop (suc i) ws)))

pub any_end : (ws : List ℕ) (i any : ℕ) → length ws ≤ i → eqb any 0 ≡ (eqb any 0 && zeros (drop i ws))
unfolding zeros
any_end ws i any h = rw (drop_of_length-le ws h) (sym (and-true (eqb any 0)))

-- ---- writing

-- of the row that is to be, the first i words stand; the others are as they were
pub record Written (result old new : List ℕ) (i : ℕ) : Type 0 where
  pub within : i ≤ length old
  pub same : length result ≡ length old
  pub long : length new ≡ length old
  pub is : new ≡ take i result ++ drop i old

pub written_begin : {result old : List ℕ} → length result ≡ length old → Written result old old 0
written_begin e = record { within = omega arith; same = e; long = refl; is = refl }

pub written_next : {result old new : List ℕ} {i : ℕ} (v : ℕ) → Written result old new i → i < length old → v ≡ get_or result i 0 → Written result old (set new i v) (i + 1)
written_next {result} {old} {new} {i} v w h e =
    let front : length (take i result) ≡ i = length-take-le i result (omega arith) in
    record {
      within = omega arith;
      same = w.same;
      long = length-set new i v ∙ w.long;
      is =
          rw (w.is, drop-cons old i 0, set_at, add-one i, take-suc result i 0 (omega arith), e)
          (sym (append_snoc (take i result) (get_or result i 0) (drop (suc i) old)));
    }

pub written_end : {result old new : List ℕ} {i : ℕ} → Written result old new i → length old ≤ i → new ≡ result
written_end {result} {old} {i = i} w h = w.is ∙ rw (drop_of_length-le old h, ← drop_of_length-le result {i = i} (omega arith)) (take-append-drop i result)

-- the row b XORed into words from place k on, the words before it as they are
abbrev pub into_from : ℕ → List ℕ → List ℕ → List ℕ
into_from k ws b = take k ws ++ into (drop k ws) (drop k b)

-- XORing the row b into new from place i on gives what XORing it into old from place k on gives
pub record Xored (k : ℕ) (b old new : List ℕ) (i : ℕ) : Type 0 where
  pub long : length new ≡ length old
  pub is : into_from i new b ≡ into_from k old b

pub xored_begin : {k : ℕ} {b old : List ℕ} → Xored k b old old k
xored_begin = record { long = refl; is = refl }

pub xored-next : {k : ℕ} {b old new : List ℕ} {i v : ℕ} → Xored k b old new i → i < length old → i < length b → get_or b i 0 ≡ v
    → Xored k b old (set new i (bit_xor (get_or new i 0) v)) (i + 1)
unfolding into
xored-next {b = b} {new = new} {i} {v} x h l e =
    let here : i < length new = omega arith in
    let past : i < suc i = omega arith in
    record {
      long = length-set new i (bit_xor (get_or new i 0) v) ∙ x.long;
      is = rw (add-one i, take-suc-set, drop-set-lt, ← e, append_snoc) (rw (drop-cons new i 0 here, drop-cons b i 0 l) at x.is);
    }

-- past the end of the words or of the row nothing changes
pub xored_end : {k : ℕ} {b old new : List ℕ} {i : ℕ} → Xored k b old new i → min (length old) (length b) ≤ i → new ≡ into_from k old b
unfolding into
xored_end {b = b} {new = new} {i} x h =
    sym (rw (ended (drop i new) (drop i b) (simp length-drop (omega arith))) (take-append-drop i new)) ∙ x.is
  where
    ended : (p q : List ℕ) → min (length p) (length q) ≡ 0 → into p q ≡ p
    ended [] q h = refl
    ended (w ∷ p) [] h = refl
    ended (w ∷ p) (v ∷ q) h = absurd (omega arith)

-- that row, XORed into the part of the words that begins at place k
pub into_rest : (k : ℕ) (ws b : List ℕ) {part : List ℕ} → part ≡ into (tail ws k) (tail b k) → put_mid k (length ws - k) ws part ≡ into_from k ws b
into_rest k ws b e =
    let none : drop (length ws - k) (drop k ws) ≡ [] = drop_of_length-le (drop k ws) (omega (arith, length-drop k ws)) in
    rw (e, rest-is ws k, rest-is b k, none, append-nil)

-- what is left of the XOR of two rows may go in one row after the other
pub xored_rests : (a b : List ℕ) {old new mid last : List ℕ} {i : ℕ}
    → Xored 0 (xors a b) old new i → mid ≡ into_from i new a → last ≡ into_from i mid b → last ≡ into old (xors a b)
unfolding into
xored_rests a b {new = new} {i = i} x e d = d ∙ rw (e, twice i new (drop i a) (drop i b), ← drop-xors) x.is
  where
    twice : (k : ℕ) (ws p q : List ℕ)
        → let mid : List ℕ = take k ws ++ into (drop k ws) p in take k mid ++ into (drop k mid) q ≡ take k ws ++ into (drop k ws) (xors p q)
    twice zero ws p q = into_twice ws p q
    twice (suc k) [] p q = refl
    twice (suc k) (w ∷ ws) p q = ap (λ (l : List ℕ). w ∷ l) (twice k ws p q)
