-- Buffers that hold a list in front and 0 behind it, and lists copied into them. Assumes nothing.
use mathlib.Core.Path.{◌≡◌, refl, sym, ap, ◌∙◌}
use mathlib.Core.Bool.{true}
use mathlib.Core.List.{List, ◌++◌, append_assoc}
use Prim.Native.Nat.{ℕ, zero, suc, ◌+◌, ◌-◌, ◌≤◌, ◌<◌}
use borrow.Rule.Slice.PartMut.{put_mid}
use Rattle.std.proofs.Common.{map}
use Rattle.std.proofs.lemmas.List.{map-append, length-map, drop-map}
use native.Mathlib.Omega.{arith}
use lib.ListN.{length, take, drop, replicate, length-append, length-take, length-drop, length-replicate, take-append-drop}
use lib.Seq.{sets, length-sets, sets-eq, drop-drop, get_or-drop, take-append_seam, drop-append_seam}
use Rattle.words.specs.Words.{zeros}
use Rattle.words.proofs.RowLaws.{zeros-append, zeros-at, zeros_of, zeros-is, zeros-replicate}
use Rattle.ascending.specs.Order.{row}

-- ---- rows

pub row_of : (room : ℕ) (l d : List ℕ) → length l + length d ≡ room → zeros d ≡ true → l ++ d ≡ row room l
unfolding row
row_of room l d e z = let n : length d ≡ room - length l = omega arith in rw (← n) (ap (λ (s : List ℕ). l ++ s) (zeros-is d z))

module _ (room : ℕ) (l : List ℕ) where
  pub length-row : length l ≤ room → length (row room l) ≡ room
  unfolding row
  length-row h = simp (length-append, length-replicate) (omega arith)

  pub take_row : take (length l) (row room l) ≡ l
  unfolding row
  take_row = take-append_seam l (replicate (room - length l) 0)

  pub zeros-row : zeros (drop (length l) (row room l)) ≡ true
  unfolding row
  zeros-row = rw (drop-append_seam l (replicate (room - length l) 0)) (zeros-replicate (room - length l))

-- a buffer that is 0 from place n on is the row of its first n
pub row_is : (n : ℕ) (b : List ℕ) → n ≤ length b → zeros (drop n b) ≡ true → b ≡ row (length b) (take n b)
row_is n b h z = sym (take-append-drop n b) ∙ row_of (length b) (take n b) (drop n b) (simp (length-take, length-drop) (omega arith)) z

-- ---- a list copied

pub copied : {A : Type 0} (from to : List A) (place : ℕ) → place + length from ≤ length to
    → put_mid place (place + length from - place) to from ≡ sets to place from
copied from to place h =
    let n : place + (place + length from - place) ≡ place + length from = omega arith in
    rw (sets-eq from to place h, append_assoc, drop-drop, n)

-- ---- a list stored over a buffer that is 0 from place `count` on

zeros-drop : (k : ℕ) (l : List ℕ) → zeros l ≡ true → zeros (drop k l) ≡ true
zeros-drop k l z = zeros_of (drop k l) (λ i. get_or-drop k l i 0 ∙ zeros-at l z (k + i))

zeros-none : {A : Type 0} (value : A → ℕ) (none : A) → value none ≡ 0 → (k : ℕ) → zeros (map value (replicate k none)) ≡ true
unfolding zeros
zeros-none value none o zero = refl
zeros-none value none o (suc k) = rw (o, zeros-none value none o k)

module _ {A : Type 0} (value : A → ℕ) (old members : List A) (count : ℕ) {n : ℕ} {new : List A} (fits : length members ≤ length old)
    (z : zeros (drop count (map value old)) ≡ true) (e : n ≡ 0 + length members) (w : new ≡ sets old 0 members) where
  in_front : new ≡ members ++ drop (length members) old
  in_front = let p : 0 + length members ≡ length members = omega arith in w ∙ rw p at (sets-eq members old 0 (omega arith))

  pub stored-whole : count ≤ n → map value new ≡ row (length old) (map value members)
  stored-whole h =
      let p : count + (length members - count) ≡ length members = omega arith in
      rw (in_front, map-append, ← drop-map value (length members) old)
      (row_of (length old) (map value members) (drop (length members) (map value old)) (simp (length-drop, length-map) (omega arith))
      (rw (drop-drop, p) at (zeros-drop (length members - count) (drop count (map value old)) z)))

  -- what the list leaves of the first `count` is cleared
  pub stored-cleared : {part : List A} {blank : A} → value blank ≡ 0 → n < count → count ≤ length old
      → part ≡ replicate (length (take (count - n) (drop n new))) blank
      → map value (put_mid n (count - n) new part) ≡ row (length old) (map value members)
  stored-cleared {part} {blank} o h r p =
      let m : n ≡ length members = omega arith in
      let k : length members + (count - length members) ≡ count = omega arith in
      let long : length part ≡ count - n = ap length p ∙ simp (length-replicate, length-take, length-drop) (omega (arith, ap length w, length-sets old 0 members)) in
      rw (m, in_front, take-append_seam, drop-append_seam, drop-drop, k, map-append, map-append)
      (row_of (length old) (map value members) (map value part ++ map value (drop count old))
      (simp (length-append, length-map, length-drop) (omega arith)) (rw (zeros-append, ← drop-map value count old, z, p, zeros-none value blank o)))
