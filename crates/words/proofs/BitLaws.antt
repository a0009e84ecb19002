-- The bits of one word: what the operators on words do to them, the lowest one, and the list of ones. Assumes nothing.
use mathlib.Core.Path.{◌≡◌, refl, sym, ap, ◌∙◌}
use mathlib.Core.Logic.{⊎_elim}
use mathlib.Core.Bool.{Bool, true, false, not, ◌&&◌, xor}
use mathlib.Core.List.{List, [], ◌∷◌}
use Prim.Native.Nat.{ℕ, zero, suc, ◌+◌, ◌-◌, ◌*◌, ◌/◌, ◌%◌, ◌^◌, ◌≤◌, ◌<◌, min}
use native.Mathlib.Nat.{add-zero, add-suc, zero-add, suc-add, pow-suc, pow-succ', div-one, div-eq_of_lt, div-div-eq-div-mul, lt_of_lt_of_le}
use native.Mathlib.Omega.{arith}
use lib.Arith.{bin_ind}
use lib.Dec.{eqb, eqb-zero-suc, eqb-suc-zero, eqb-suc-suc}
use lib.Pow.{pow_pos, pow-lt, pow_mono}
use lib.Bits.{bit_and, bit_or, bit_xor, and_step, and_shr, xor_shr, and_le_l, and_le_r, and_self, and_mask, or_lt, or_add_and, xor_self, xor_add_and}
use lib.Count.{ones, ones_step, ones-le, count_trailing_zeros, under}
use lib.ListN.{length, get_or}
use borrow.Author.Tests.{eq-eqb, ne_eqb}
use Rattle.words.specs.Sets.{pick, keep, From, has}
use Rattle.words.specs.Words.{bit, ones_from, put, lowest}
use Rattle.words.proofs.Cases.{same_or_not, clash, pick-case}
use Rattle.words.proofs.SetLaws.{has_low, from_le}

-- ---- bits

-- what holds of the digits 0 and 1 holds of a number's lowest digit, and of those of two numbers
digit : (P : ℕ → Type 0) → P 0 → P 1 → (a : ℕ) → P (a % 2)
digit P p q a = go (a % 2) (omega arith)
  where
    go : (d : ℕ) → d < 2 → P d
    go zero h = p
    go (suc zero) h = q
    go (suc (suc d)) h = absurd (omega arith)

digits : (P : ℕ → ℕ → Type 0) → P 0 0 → P 0 1 → P 1 0 → P 1 1 → (a b : ℕ) → P (a % 2) (b % 2)
digits P p q r s a b = digit (λ (d : ℕ). P d (b % 2)) (digit (P 0) p q b) (digit (P 1) r s b) a

-- a word's bit 0, and the others as those of its half
pub bit_low : (w : ℕ) → bit w 0 ≡ eqb (w % 2) 1
bit_low w = rw div-one

pub bit-suc : (w k : ℕ) → bit w (suc k) ≡ bit (w / 2) k
bit-suc w k = rw (pow-succ', div-div-eq-div-mul)

-- a word of n bits has no ones past them, and 0 has none
pub bit_high : (n w k : ℕ) → w < 2 ^ n → n ≤ k → bit w k ≡ false
bit_high n w k h l = rw (div-eq_of_lt (lt_of_lt_of_le h (pow_mono l)))

pub bit-none : (k : ℕ) → bit 0 k ≡ false
bit-none k = bit_high 0 0 k (omega arith) (omega arith)

pub bit-and : (a b k : ℕ) → bit (bit_and a b) k ≡ (bit a k && bit b k)
bit-and a b k = rw and_shr (step (a / 2 ^ k) (b / 2 ^ k))
  where
    step : (x y : ℕ) → eqb (bit_and x y % 2) 1 ≡ (eqb (x % 2) 1 && eqb (y % 2) 1)
    step x y =
        let e : bit_and x y % 2 ≡ min (x % 2) (y % 2) = omega (arith, and_step x y) in
        rw e (digits (λ (p q : ℕ). eqb (min p q) 1 ≡ (eqb p 1 && eqb q 1)) refl refl refl refl x y)

-- the half and the lowest digit of an XOR
xor_half : (a b : ℕ) → bit_xor a b / 2 ≡ bit_xor (a / 2) (b / 2)
xor_half a b = xor_shr a b 1

xor_low : (a b : ℕ) → bit_xor a b % 2 ≡ (a % 2 + b % 2) % 2
xor_low a b = omega (arith, xor_add_and a b)

pub bit-xor : (a b k : ℕ) → bit (bit_xor a b) k ≡ xor (bit a k) (bit b k)
unfolding xor
bit-xor a b k = rw xor_shr (step (a / 2 ^ k) (b / 2 ^ k))
  where
    step : (x y : ℕ) → eqb (bit_xor x y % 2) 1 ≡ xor (eqb (x % 2) 1) (eqb (y % 2) 1)
    step x y = rw (xor_low x y) (digits (λ (p q : ℕ). eqb ((p + q) % 2) 1 ≡ xor (eqb p 1) (eqb q 1)) refl refl refl refl x y)

pub xor_assoc : (a b c : ℕ) → bit_xor (bit_xor a b) c ≡ bit_xor a (bit_xor b c)
xor_assoc = bin_ind (λ (a : ℕ). (b c : ℕ) → bit_xor (bit_xor a b) c ≡ bit_xor a (bit_xor b c)) (λ b c. refl) step
  where
    step : (a : ℕ) → ((b c : ℕ) → bit_xor (bit_xor (a / 2) b) c ≡ bit_xor (a / 2) (bit_xor b c)) → (b c : ℕ) → bit_xor (bit_xor a b) c ≡ bit_xor a (bit_xor b c)
    step a ih b c = halved (rw (xor_half (bit_xor a b) c, xor_half a b, xor_half a (bit_xor b c), xor_half b c) (ih (b / 2) (c / 2))) low
      where
        halved : {x y : ℕ} → x / 2 ≡ y / 2 → x % 2 ≡ y % 2 → x ≡ y
        halved h l = omega arith

        low : bit_xor (bit_xor a b) c % 2 ≡ bit_xor a (bit_xor b c) % 2
        low = rw (xor_low (bit_xor a b) c, xor_low a b, xor_low a (bit_xor b c), xor_low b c)
            (digits (λ (p q : ℕ). ((p + q) % 2 + c % 2) % 2 ≡ (p + (q + c % 2) % 2) % 2) (omega arith) (omega arith) (omega arith) (omega arith) a b)

-- an OR is 0 where both are
pub or_zero : (a b : ℕ) → eqb (bit_or a b) 0 ≡ (eqb a 0 && eqb b 0)
or_zero zero b = refl
or_zero (suc a) b = rw eqb-suc-zero (ne_eqb (bit_or (suc a) b) 0 (λ e. omega (arith, or_add_and (suc a) b, and_le_r (suc a) b)))

-- an XOR is 0 where both are the same
pub xor-zero : (a b : ℕ) → eqb (bit_xor a b) 0 ≡ eqb a b
xor-zero a b =
    ⊎_elim (λ e. rw (eq-eqb a b e) (eq-eqb (bit_xor a b) 0 (ap (λ (x : ℕ). bit_xor x b) e ∙ xor_self b)))
    (λ n. rw (ne_eqb a b n) (ne_eqb (bit_xor a b) 0 (λ z. n (omega (arith, xor_add_and a b, and_le_l a b, and_le_r a b))))) (same_or_not a b)

-- words of n bits with the same bits are equal
pub same_bits : (n a b : ℕ) → a < 2 ^ n → b < 2 ^ n → ((k : ℕ) → k < n → bit a k ≡ bit b k) → a ≡ b
same_bits zero a b ha hb h = omega arith
same_bits (suc n) a b ha hb h =
    let low : a % 2 ≡ b % 2 = same a b (sym (bit_low a) ∙ h 0 (omega arith) ∙ bit_low b) in
    let rest : (k : ℕ) → k < n → bit (a / 2) k ≡ bit (b / 2) k = λ k l. sym (bit-suc a k) ∙ h (suc k) (omega arith) ∙ bit-suc b k in
    omega (arith, same_bits n (a / 2) (b / 2) (omega (arith, pow-suc 2 n)) (omega (arith, pow-suc 2 n)) rest)
  where
    same : (a b : ℕ) → eqb (a % 2) 1 ≡ eqb (b % 2) 1 → a % 2 ≡ b % 2
    same = digits (λ (p q : ℕ). eqb p 1 ≡ eqb q 1 → p ≡ q) (λ e. refl) (λ e. clash (sym e)) clash (λ e. refl)

-- ---- one bit made one or zero

-- the mask of bit k takes that bit of a word
and_mask_suc : (w k : ℕ) → bit_and w (2 ^ suc k) ≡ bit_and (w / 2) (2 ^ k) * 2
and_mask_suc w k =
    let half : 2 ^ suc k / 2 ≡ 2 ^ k = omega (arith, pow-suc 2 k) in
    omega (arith, and_step w (2 ^ suc k), ap (bit_and (w / 2)) half, pow-suc 2 k)

double : (t : Bool) (k : ℕ) → pick t (2 ^ k) 0 * 2 ≡ pick t (2 ^ suc k) 0
double true k = omega (arith, pow-suc 2 k)
double false k = refl

and_mask_is : (w k : ℕ) → bit_and w (2 ^ k) ≡ pick (bit w k) (2 ^ k) 0
and_mask_is w zero = rw (bit_low, and_mask w 1) (digit (λ (d : ℕ). d ≡ pick (eqb d 1) 1 0) refl refl w)
and_mask_is w (suc k) = rw (and_mask_suc, and_mask_is (w / 2) k, bit-suc) (double (bit (w / 2) k) k)

put_is : (w k : ℕ) (v : Bool) → put w k v ≡ w - bit_and w (2 ^ k) + pick v (2 ^ k) 0
unfolding put
put_is w k v = rw and_mask_is

-- bit 0 made v, and another bit as one of the half
put_low : (w : ℕ) (v : Bool) → put w 0 v ≡ w / 2 * 2 + pick v 1 0
put_low w v = omega (arith, put_is w 0 v, and_mask w 1)

put-suc : (w k : ℕ) (v : Bool) → put w (suc k) v ≡ put (w / 2) k v * 2 + w % 2
put-suc w k v = omega (arith, put_is w (suc k) v, put_is (w / 2) k v, and_mask_suc w k, and_le_l (w / 2) (2 ^ k), double v k)

pub bit-put : (w k : ℕ) (v : Bool) (j : ℕ) → bit (put w k v) j ≡ pick (eqb k j) v (bit w j)
bit-put w zero true zero = rw bit_low (eq-eqb (put w 0 true % 2) 1 (omega (arith, put_low w true)))
bit-put w zero false zero = rw bit_low (ne_eqb (put w 0 false % 2) 1 (λ e. omega (arith, put_low w false)))
bit-put w zero v (suc j) =
    let small : pick v 1 0 < 2 = pick-case (λ (d : ℕ). d < 2) v (λ e. omega arith) (λ e. omega arith) in
    let half : put w 0 v / 2 ≡ w / 2 = omega (arith, put_low w v) in
    rw (bit-suc (put w 0 v), half, bit-suc w, eqb-zero-suc)
bit-put w (suc k) v zero =
    let low : put w (suc k) v % 2 ≡ w % 2 = omega (arith, put-suc w k v) in
    rw (bit_low (put w (suc k) v), low, bit_low w, eqb-suc-zero)
bit-put w (suc k) v (suc j) =
    let half : put w (suc k) v / 2 ≡ put (w / 2) k v = omega (arith, put-suc w k v) in
    rw (bit-suc (put w (suc k) v), half, bit-suc w, eqb-suc-suc) (bit-put (w / 2) k v j)

-- made what it is
pub put_same : (w k : ℕ) → put w k (bit w k) ≡ w
unfolding put
put_same w k = omega (arith, and_mask_is w k, and_le_l w (2 ^ k))

-- what the code computes by mask: `1 << k`, `w & m != 0`, `w | m`, `w & !m`, `w ^ m`
pub shift_is : (k : ℕ) → k < 64 → (1 * 2 ^ k) % 2 ^ 64 ≡ 2 ^ k
shift_is k h = omega (arith, pow-lt h)

pub test_is : (w k : ℕ) → not (eqb (bit_and w (2 ^ k)) 0) ≡ bit w k
test_is w k = rw and_mask_is (test (bit w k))
  where
    test : (t : Bool) → not (eqb (pick t (2 ^ k) 0) 0) ≡ t
    test true = ap not (ne_eqb (2 ^ k) 0 (λ e. omega (arith, pow_pos k)))
    test false = refl

pub or_is : (w k : ℕ) → bit_or w (2 ^ k) ≡ put w k true
or_is w k = omega (arith, put_is w k true, or_add_and w (2 ^ k), and_le_l w (2 ^ k))

-- a mask and the mask of the other bits share out a word
and_both : (n w m c : ℕ) → w < 2 ^ n → m + c + 1 ≡ 2 ^ n → bit_and w m + bit_and w c ≡ w
and_both zero w m c h e =
    let none : w ≡ 0 = omega arith in
    rw none
and_both (suc n) w m c h e =
    let low : m % 2 + c % 2 ≡ 1 = omega (arith, pow-suc 2 n) in
    let half : m / 2 + c / 2 + 1 ≡ 2 ^ n = omega (arith, pow-suc 2 n) in
    omega (arith, and_step w m, and_step w c, and_both n (w / 2) (m / 2) (c / 2) (omega (arith, pow-suc 2 n)) half)

pub and-not-is : (w k : ℕ) → w < 2 ^ 64 → k < 64 → bit_and w ((2 ^ 64 - 1) - 2 ^ k) ≡ put w k false
and-not-is w k h l = omega (arith, put_is w k false, and_both 64 w (2 ^ k) ((2 ^ 64 - 1) - 2 ^ k) h (omega (arith, pow-lt l)))

pub xor_is : (w k : ℕ) → bit_xor w (2 ^ k) ≡ put w k (not (bit w k))
unfolding put
xor_is w k = flip (bit w k) (and_mask_is w k)
  where
    flip : (t : Bool) → bit_and w (2 ^ k) ≡ pick t (2 ^ k) 0 → bit_xor w (2 ^ k) ≡ w - pick t (2 ^ k) 0 + pick (not t) (2 ^ k) 0
    flip true e = omega (arith, xor_add_and w (2 ^ k), and_le_l w (2 ^ k))
    flip false e = omega (arith, xor_add_and w (2 ^ k))

pub put-lt : (n w k : ℕ) (v : Bool) → w < 2 ^ n → k < n → put w k v < 2 ^ n
put-lt n w k true h l = rw (← (or_is w k)) (or_lt n w (2 ^ k) h (pow-lt l))
put-lt n w k false h l = omega (arith, put_is w k false)

-- ---- the list of ones

pub from-ones : (b n w : ℕ) → From b (ones_from b n w)
unfolding ones_from From
from-ones b zero w = tt
from-ones b (suc n) w =
    let rest : From (suc b) (ones_from (suc b) n (w / 2)) = from-ones (suc b) n (w / 2) in
    pick-case (From b) (eqb (w % 2) 1) (λ e. (omega arith, rest)) (λ e. from_le b (suc b) (ones_from (suc b) n (w / 2)) rest (omega arith))

has-keep : (t : Bool) (x i : ℕ) (l : List ℕ) → (x ≡ i → ⊥) → has (keep t x l) i ≡ has l i
unfolding has
has-keep true x i l h = rw (ne_eqb x i h)
has-keep false x i l h = refl

-- at b + k stands bit k; below b and from b + n on there are none
pub has-ones : (b n w k : ℕ) → k < n → has (ones_from b n w) (b + k) ≡ bit w k
unfolding ones_from has
has-ones b zero w k h = absurd (omega arith)
has-ones b (suc n) w zero h = rw (add-zero, bit_low) (first (eqb (w % 2) 1))
  where
    rest : List ℕ
    rest = ones_from (suc b) n (w / 2)

    first : (t : Bool) → has (keep t b rest) b ≡ t
    first true = rw (eq-eqb b b refl)
    first false = has_low (suc b) b rest (from-ones (suc b) n (w / 2)) (omega arith)
has-ones b (suc n) w (suc k) h =
    let next : b + suc k ≡ suc b + k = omega arith in
    has-keep (eqb (w % 2) 1) b (b + suc k) (ones_from (suc b) n (w / 2)) (λ e. omega arith)
    ∙ rw (next, bit-suc) (has-ones (suc b) n (w / 2) k (omega arith))

pub has-ones-past : (b n w i : ℕ) → b + n ≤ i → has (ones_from b n w) i ≡ false
unfolding ones_from has
has-ones-past b zero w i h = refl
has-ones-past b (suc n) w i h =
    has-keep (eqb (w % 2) 1) b i (ones_from (suc b) n (w / 2)) (λ e. omega arith) ∙ has-ones-past (suc b) n (w / 2) i (omega arith)

pub ones_none : (b n : ℕ) → ones_from b n 0 ≡ []
unfolding ones_from
ones_none b zero = refl
ones_none b (suc n) = ones_none (suc b) n

length-suc : (b n w : ℕ) → length (ones_from b (suc n) w) ≡ w % 2 + length (ones_from (suc b) n (w / 2))
unfolding ones_from
length-suc b n w =
    let rest : List ℕ = ones_from (suc b) n (w / 2) in
    digit (λ (d : ℕ). length (keep (eqb d 1) b rest) ≡ d + length rest) (omega arith) (omega arith) w

-- the number of ones does not hang on the first index
pub length-ones : (b c n w : ℕ) → length (ones_from b n w) ≡ length (ones_from c n w)
unfolding ones_from
length-ones b c zero w = refl
length-ones b c (suc n) w = omega (arith, length-suc b n w, length-suc c n w, length-ones (suc b) (suc c) n (w / 2))

pub length-ones-le : (b n w : ℕ) → length (ones_from b n w) ≤ n
unfolding ones_from
length-ones-le b zero w = omega arith
length-ones-le b (suc n) w = omega (arith, length-suc b n w, length-ones-le (suc b) n (w / 2))

-- `count_ones`
pub count-is : (b n w : ℕ) → w < 2 ^ n → length (ones_from b n w) ≡ ones w
unfolding ones_from
count-is b zero w h = omega (arith, ones-le 0 w h)
count-is b (suc n) w h = omega (arith, length-suc b n w, count-is (suc b) n (w / 2) (omega (arith, pow-suc 2 n)), ones_step w)

-- ---- the lowest one

first_one : (b n w : ℕ) → get_or (ones_from b n w) 0 (b + n) ≡ b + count_trailing_zeros n w
unfolding ones_from count_trailing_zeros
first_one b zero w = refl
first_one b (suc n) w =
    let rest : List ℕ = ones_from (suc b) n (w / 2) in
    let later : get_or rest 0 (suc b + n) ≡ suc b + count_trailing_zeros n (w / 2) = first_one (suc b) n (w / 2) in
    digit (λ (d : ℕ). get_or (keep (eqb d 1) b rest) 0 (b + suc n) ≡ b + under d (count_trailing_zeros n (w / 2)))
    (simp add-suc (simp suc-add at later)) (sym (add-zero b)) w

-- `trailing_zeros`
pub lowest-is : (w : ℕ) → count_trailing_zeros 64 w ≡ lowest w
unfolding lowest
lowest-is w = sym (first_one 0 64 w ∙ zero-add _)

-- what holds of an odd word at 0, and of an even word one above the place where it holds of the half, holds at the lowest one
trailing_ind : (P : ℕ → ℕ → ℕ → Type 0) → ((n w : ℕ) → w % 2 ≡ 1 → P (suc n) w 0) → ((n w t : ℕ) → w % 2 ≡ 0 → P n (w / 2) t → P (suc n) w (suc t))
    → (n w : ℕ) → 0 < w → w < 2 ^ n → P n w (count_trailing_zeros n w)
unfolding count_trailing_zeros
trailing_ind P odd even zero w p h = absurd (omega arith)
trailing_ind P odd even (suc n) w p h =
    let t : ℕ = count_trailing_zeros n (w / 2) in
    digit (λ (d : ℕ). w % 2 ≡ d → P (suc n) w (under d t))
    (λ e. even n w t e (trailing_ind P odd even n (w / 2) (omega arith) (omega (arith, pow-suc 2 n)))) (λ e. odd n w e) w refl

-- `w & (w - 1)`
pub without-lowest-is : (w : ℕ) → 0 < w → w < 2 ^ 64 → bit_and w (w - 1) ≡ put w (lowest w) false
without-lowest-is w p h = rw (lowest-is w) at (trailing_ind (λ (n w t : ℕ). bit_and w (w - 1) ≡ put w t false) odd even 64 w p h)
  where
    odd : (n w : ℕ) → w % 2 ≡ 1 → bit_and w (w - 1) ≡ put w 0 false
    odd n w e =
        let half : (w - 1) / 2 ≡ w / 2 = omega arith in
        omega (arith, put_low w false, and_step w (w - 1), ap (bit_and (w / 2)) half, and_self (w / 2))

    even : (n w t : ℕ) → w % 2 ≡ 0 → bit_and (w / 2) (w / 2 - 1) ≡ put (w / 2) t false → bit_and w (w - 1) ≡ put w (suc t) false
    even n w t e ih =
        let half : (w - 1) / 2 ≡ w / 2 - 1 = omega arith in
        omega (arith, put-suc w t false, and_step w (w - 1), ap (bit_and (w / 2)) half)

-- the walk: the lowest one, and then those of the word without it
pub ones-lowest : (b w : ℕ) → 0 < w → w < 2 ^ 64 → ones_from b 64 w ≡ (b + lowest w) ∷ ones_from b 64 (put w (lowest w) false)
unfolding ones_from
ones-lowest b w p h =
    rw (lowest-is w) at (trailing_ind (λ (n w t : ℕ). (b : ℕ) → ones_from b n w ≡ (b + t) ∷ ones_from b n (put w t false)) odd even 64 w p h b)
  where
    odd : (n w : ℕ) → w % 2 ≡ 1 → (b : ℕ) → ones_from b (suc n) w ≡ (b + 0) ∷ ones_from b (suc n) (put w 0 false)
    odd n w e b =
        let half : put w 0 false / 2 ≡ w / 2 = omega (arith, put_low w false) in
        let low : put w 0 false % 2 ≡ 0 = omega (arith, put_low w false) in
        rw (e, half, low, add-zero)

    even : (n w t : ℕ) → w % 2 ≡ 0 → ((b : ℕ) → ones_from b n (w / 2) ≡ (b + t) ∷ ones_from b n (put (w / 2) t false))
        → (b : ℕ) → ones_from b (suc n) w ≡ (b + suc t) ∷ ones_from b (suc n) (put w (suc t) false)
    even n w t e ih b =
        let half : put w (suc t) false / 2 ≡ put (w / 2) t false = omega (arith, put-suc w t false) in
        let low : put w (suc t) false % 2 ≡ 0 = omega (arith, put-suc w t false) in
        rw (e, half, low, add-suc, ← suc-add) (ih (suc b))

pub lowest-lt : (w : ℕ) → 0 < w → w < 2 ^ 64 → lowest w < 64
lowest-lt w p h = rw (lowest-is w) at (trailing_ind (λ (n w t : ℕ). t < n) (λ n w e. omega arith) (λ n w t e l. omega arith) 64 w p h)
