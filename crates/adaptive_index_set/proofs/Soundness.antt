-- What testing a wide set takes besides the definition of soundness. Assumes nothing.
use Rattle.std.proofs.Common.{◌≡◌, ℕ, ◌*◌, ◌-◌, ◌≤◌, ◌<◌, ◌&&◌, false, not, eqb, leb, List, length, get_or, drop, arith}
use mathlib.Core.Bool.{and_assoc, and-false}
use mathlib.Core.Logic.{⊎_elim}
use borrow.Author.Tests.{eq-eqb, ne_eqb, le-leb, lt-leb, lt-ltb}
use Rattle.words.specs.Words.{count, zeros}
use Rattle.words.proofs.Cases.{same_or_not}
use Rattle.words.proofs.RowLaws.{count-le}
use Rattle.adaptive_rules.specs.Bytes.{Bytes, stored, view, sound_wide, sound}

-- words in range count no more than their bits
pub count_small : (words : List ℕ) → length words ≤ 8192 → count words ≤ 524288
count_small words h = omega (arith, count-le words)

module _ (b : Bytes) (m : b.header.mode ≡ 0) (s : 32 < b.header.span) where
  -- a span past the words
  pub wide_long : length b.words < b.header.span → sound b ≡ false
  unfolding sound sound_wide
  wide_long l = rw (eq-eqb _ _ m, lt-leb _ _ s, lt-ltb _ _ s, lt-leb _ _ l, and-false)

  -- the count of the words, where the definition has the header's
  pub wide_counted : b.header.span ≤ length b.words
      → sound b
      ≡ ((((eqb b.header.count (count b.words) && not (eqb (get_or b.words (b.header.span - 1) 0) 0)) && leb b.header.span (4 * count b.words))
      && zeros (drop b.header.span b.words)) && zeros b.keys)
  unfolding sound view stored sound_wide count
  wide_counted l =
      ⊎_elim (λ e. rw (eq-eqb _ _ m, lt-leb _ _ s, eq-eqb b.header.count (count b.words) e, lt-ltb _ _ s, le-leb _ _ l) (simp (and_assoc, e)))
      (λ d. rw (eq-eqb _ _ m, lt-leb _ _ s, ne_eqb b.header.count (count b.words) d)) (same_or_not b.header.count (count b.words))
