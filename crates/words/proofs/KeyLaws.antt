-- What the loops between words and keys keep: keys that are written one after another, by what is left of them, and keys that
-- are flipped. Assumes nothing.
use mathlib.Core.Path.{◌≡◌, refl, sym, ap, ◌∙◌}
use mathlib.Core.Bool.{false}
use mathlib.Core.List.{List, [], ◌∷◌, ◌++◌}
use Prim.Native.Nat.{ℕ, suc, ◌+◌, ◌*◌, ◌^◌, ◌≤◌, ◌<◌}
use native.Mathlib.Numerals.{add-one}
use native.Mathlib.Omega.{arith}
use lib.ListN.{length, get_or, drop, set, length-append, drop_of_length-le}
use lib.Seq.{sets, length-sets, sets-eq, drop-cons}
use Rattle.words.specs.Words.{ones_from, lowest, put, members_from, members, count, flip, flips}
use Rattle.words.proofs.SetLaws.{below_at}
use Rattle.words.proofs.BitLaws.{lowest-lt, ones-lowest}

-- ---- keys written, one after another

sets-append : (l : List ℕ) (i : ℕ) (a b : List ℕ) → sets l i (a ++ b) ≡ sets (sets l i a) (i + length a) b
sets-append l i [] b = ap (λ (k : ℕ). sets l k b) (omega arith)
sets-append l i (x ∷ a) b = sets-append (set l i x) (suc i) a b ∙ ap (λ (k : ℕ). sets (sets (set l i x) (suc i) a) k b) (omega arith)

-- `all` goes over the list `old` from place `to` on; it stands in `new` but for `rest`, which goes there from place n on
pub record Writing (all : List ℕ) (to : ℕ) (old rest : List ℕ) (n : ℕ) (new : List ℕ) : Type 0 where
  pub fits : to + length all ≤ length old
  pub ends : n + length rest ≡ to + length all
  pub same : length new ≡ length old
  pub is : sets new n rest ≡ sets old to all

pub writing_begin : {all old : List ℕ} {to : ℕ} → to + length all ≤ length old → Writing all to old all to old
writing_begin h = record { fits = h; ends = refl; same = refl; is = refl }

module _ {all old rest new : List ℕ} {to n : ℕ} (w : Writing all to old rest n new) where
  pub writing-next : (part more : List ℕ) → rest ≡ part ++ more → Writing all to old more (n + length part) (sets new n part)
  writing-next part more e = record {
    fits = w.fits;
    ends = omega (arith, ap length e, length-append part more);
    same = length-sets new n part ∙ w.same;
    is = sym (sets-append new n part more) ∙ ap (sets new n) (sym e) ∙ w.is;
  }

  pub writing-end : rest ≡ [] → (n ≡ to + length all) × (new ≡ sets old to all)
  writing-end e = (omega (arith, ap length e), ap (sets new n) (sym e) ∙ w.is)

-- the lowest one of what is left of a word
pub ones-next : {all old new : List ℕ} {to n : ℕ} (base word : ℕ) → Writing all to old (ones_from base 64 word) n new
    → 0 < word → word < 2 ^ 64 → Writing all to old (ones_from base 64 (put word (lowest word) false)) (n + 1) (set new n (base + lowest word))
ones-next base word w p h = writing-next w ((base + lowest word) ∷ []) _ (ones-lowest base word p h)

-- a word that is not 0 has a one, and room is left for it
pub ones-some : (b w : ℕ) → 0 < w → w < 2 ^ 64 → 0 < length (ones_from b 64 w)
ones-some b w p h = omega (arith, ap length (ones-lowest b w p h))

-- what the walk over the ones of a word stays within
pub ruleset walking = (lowest-lt, ones-some)

-- ---- the members of words written, word by word

pub members_begin : {old : List ℕ} (ws : List ℕ) → count ws ≤ length old → Writing (members ws) 0 old (members ws) 0 old
unfolding count
members_begin ws h = writing_begin (omega arith)

module _ {old new : List ℕ} {n : ℕ} (ws : List ℕ) (p : ℕ) (w : Writing (members ws) 0 old (members_from (64 * p) (drop p ws)) n new) where
  pub members-next : p < length ws
      → Writing (members ws) 0 old (members_from (64 * (p + 1)) (drop (p + 1) ws)) (n + length (ones_from (64 * p) 64 (get_or ws p 0)))
      (sets new n (ones_from (64 * p) 64 (get_or ws p 0)))
  unfolding members_from
  members-next h =
      let q : 64 * p + 64 ≡ 64 * suc p = omega arith in
      writing-next w (ones_from (64 * p) 64 (get_or ws p 0)) _ (rw (add-one p, drop-cons ws p 0 h, ← q))

  pub members-end : length ws ≤ p → (n ≡ count ws) × (new ≡ members ws ++ drop n old)
  unfolding members_from count
  members-end h =
      let z = writing-end w (ap (members_from (64 * p)) (drop_of_length-le ws h)) in
      (omega arith, rw z.0 (z.1 ∙ sets-eq (members ws) old 0 w.fits))

-- ---- keys flipped, one after another

pub flips-next : (ws old ks : List ℕ) (i : ℕ) → flips ws (drop i ks) ≡ flips old ks → i < length ks
    → flips (flip ws (get_or ks i 0)) (drop (i + 1) ks) ≡ flips old ks
unfolding flips
flips-next ws old ks i e h = rw (add-one i) (sym (ap (flips ws) (drop-cons ks i 0 h)) ∙ e)

pub flips_end : (ws old ks : List ℕ) (i : ℕ) → flips ws (drop i ks) ≡ flips old ks → length ks ≤ i → ws ≡ flips old ks
unfolding flips
flips_end ws old ks i e h = sym (ap (flips ws) (drop_of_length-le ks h)) ∙ e

-- what flipping each key of a list keeps
pub ruleset flipping = (below_at, flips-next, flips_end)
