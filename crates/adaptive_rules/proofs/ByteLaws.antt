-- Bytes and states: the bytes of a lawful state are sound and hold it, sound bytes hold a lawful state and are its bytes. "The
-- members, W, K, mode and narrow span fix every byte." Assumes nothing.
use mathlib.Core.Path.{◌≡◌, refl, sym, ◌∙◌}
use mathlib.Core.Logic.{◌⊎◌, inl, inr}
use mathlib.Core.Bool.{Bool, true, false}
use mathlib.Core.List.{List, []}
use Prim.Native.Nat.{ℕ, ◌-◌, ◌*◌, ◌^◌, ◌≤◌, ◌<◌}
use native.Mathlib.Omega.{arith}
use lib.Dec.{eqb, leb}
use lib.ListN.{length, get_or, take, drop, length-replicate}
use lib.Seq.{length-take-le}
use borrow.Author.Tests.{eq-eqb, ne_eqb, eqb-true, eqb-false, le-leb, lt-leb, leb-true, lt-ltb, ltb-true, not-true}
use Rattle.words.specs.Sets.{Ascending, Below}
use Rattle.words.specs.Words as words
use Rattle.words.specs.Words.{needed, zeros, words_of, flips, Words}
use Rattle.words.proofs.Cases.{below_or_not, clash, and_parts, pick-case}
use Rattle.words.proofs.SetLaws.{below-le, replicate-below, below-append, below-take}
use Rattle.words.proofs.RowLaws.{exact_past, exact_last, zeros-is, zeros-replicate}
use Rattle.words.proofs.MemberLaws.{needed-below, below-needed, ascending-members, members-below, members-words, length-words_of, words-words_of, words-members, zeros-below, below-zeros, exact-needed}
use Rattle.ascending.specs.Order.{row}
use Rattle.ascending.proofs.OrderLaws.{ascends-ascending, ascending-ascends}
use Rattle.ascending.proofs.RowLaws.{row_is, length-row, take_row, zeros-row}
use Rattle.adaptive_rules.specs.States.{State, narrow, wide, sparse, count, is_narrow}
use Rattle.adaptive_rules.specs.Bytes.{Bytes, in_range, stored, view, encode, sound_narrow, sound_wide, sound_sparse, sound, Slices, Fits, Lawful}

-- ---- the bytes of a lawful state

pub length-words-encode : (W K : ℕ) (s : State) → length (encode W K s).words ≡ W
unfolding encode
length-words-encode W K (narrow p l) = length-words_of W l
length-words-encode W K (wide l) = length-words_of W l
length-words-encode W K (sparse l) = length-replicate W 0

pub length_keys_encode : {W K : ℕ} {s : State} → Lawful W K s → length (encode W K s).keys ≡ K
unfolding encode Fits
length_keys_encode {K = K} {s = narrow p l} h = length-replicate K 0
length_keys_encode {K = K} {s = wide l} h = length-replicate K 0
length_keys_encode {K = K} {s = sparse l} h = length-row K l h.fits

pub encode_in_range : {W K : ℕ} {s : State} → 32 ≤ W → W ≤ 8192 → K ≤ 16384 → Lawful W K s → in_range (encode W K s) ≡ true
unfolding in_range
encode_in_range {W} {K} {s} least most room h =
    rw (length-words-encode W K s, length_keys_encode h, le-leb 32 W least, le-leb W 8192 most) (le-leb K 16384 room)

-- words that reach as far as the members
module _ (W : ℕ) (l : List ℕ) (f : Ascending l) where
  members-within : needed l ≤ W → words.members (words_of W l) ≡ l
  members-within w = members-words W l f (needed-below W l f w)

  zeros-past : (p : ℕ) → needed l ≤ p → p ≤ W → zeros (drop p (words_of W l)) ≡ true
  zeros-past p n w =
      below-zeros p (words_of W l) (words-words_of W l)
      (rw (members-within (omega arith)) (needed-below p l f n))

  last_within : 0 < needed l → needed l ≤ W → get_or (words_of W l) (needed l - 1) 0 ≡ 0 → ⊥
  last_within n w =
      let e = exact-needed (words_of W l) (words-words_of W l) in
      exact_last (words_of W l) (needed l - 1) (omega (arith, rw (members-within w) at e))

-- where it isn't narrow, a state's stored count is the number of its members
stored_is : (s : State) → is_narrow s ≡ false → stored s ≡ count s
unfolding stored
stored_is (narrow p l) e = clash e
stored_is (wide l) e = refl
stored_is (sparse l) e = refl

pub view-encode : {W K : ℕ} {s : State} → 32 ≤ W → Lawful W K s → view (encode W K s) ≡ s
unfolding view encode Fits
view-encode {W} {s = narrow p l} w h =
    rw (le-leb p 32 h.fits.1, members-within W l h.ascending (omega (arith, h.fits.0, h.fits.1)))
view-encode {W} {s = wide l} w h = rw (lt-leb (needed l) 32 h.fits.0, members-within W l h.ascending h.fits.1)
view-encode {K = K} {s = sparse l} w h = rw (stored_is (sparse l) refl, take_row K l)

pub encode-sound : {W K : ℕ} {s : State} → 32 ≤ W → Lawful W K s → sound (encode W K s) ≡ true
unfolding sound encode sound_narrow sound_wide sound_sparse Fits
encode-sound {W} {K} {s = narrow p l} w h =
    rw (view-encode w h, eq-eqb (stored (narrow p l)) _ refl, le-leb p 32 h.fits.1, zeros-past W l h.ascending p h.fits.0 (omega (arith, h.fits.1)))
    (zeros-replicate K)
encode-sound {W} {K} {s = wide l} w h =
    rw (
      view-encode w h,
      eq-eqb (stored (wide l)) _ refl,
      stored_is (wide l) refl,
      lt-leb (needed l) 32 h.fits.0,
      lt-ltb 32 (needed l) h.fits.0,
      length-words_of W l,
      le-leb (needed l) W h.fits.1,
      ne_eqb _ 0 (last_within W l h.ascending (omega (arith, h.fits.0)) h.fits.1),
      le-leb (needed l) (4 * length l) h.fits.2,
      zeros-past W l h.ascending (needed l) (omega arith) h.fits.1,
    )
    (zeros-replicate K)
encode-sound {W} {K} {s = sparse l} w h =
    rw (
      view-encode w h,
      eq-eqb (stored (sparse l)) _ refl,
      stored_is (sparse l) refl,
      length-row K l h.fits,
      le-leb (length l) K h.fits,
      take_row K l,
      ascending-ascends l h.ascending,
      zeros-row K l,
    )
    (zeros-replicate W)

pub encode-slices : {W K : ℕ} {s : State} → Lawful W K s → Slices (encode W K s)
unfolding encode words_of flips row
encode-slices {W} {K} {s = narrow p l} h = record { words = words-words_of W l; keys = replicate-below (2 ^ 32) K (omega arith) }
encode-slices {W} {K} {s = wide l} h = record { words = words-words_of W l; keys = replicate-below (2 ^ 32) K (omega arith) }
encode-slices {W} {K} {s = sparse l} h =
    record {
      words = words-words_of W [];
      keys = below-append (2 ^ 32) l _ h.below (replicate-below (2 ^ 32) (K - length l) (omega arith));
    }

-- ---- what soundness says: "Sound means one of", with the state that is held

pub record Narrow (b : Bytes) : Type 0 where
  pub view : view b ≡ narrow b.header.span (words.members b.words)
  pub mode : b.header.mode ≡ 0
  pub low : b.header.span ≤ 32
  pub past : zeros (drop b.header.span b.words) ≡ true
  pub keys : zeros b.keys ≡ true

pub record Wide (b : Bytes) : Type 0 where
  pub view : view b ≡ wide (words.members b.words)
  pub mode : b.header.mode ≡ 0
  pub high : 32 < b.header.span
  pub room : b.header.span ≤ length b.words
  pub last : get_or b.words (b.header.span - 1) 0 ≡ 0 → ⊥
  pub few : b.header.span ≤ 4 * b.header.count
  pub past : zeros (drop b.header.span b.words) ≡ true
  pub keys : zeros b.keys ≡ true

pub record Sparse (b : Bytes) : Type 0 where
  pub view : view b ≡ sparse (take b.header.count b.keys)
  pub mode : b.header.mode ≡ 1
  pub span : b.header.span ≡ 0
  pub room : b.header.count ≤ length b.keys
  pub ascending : Ascending (take b.header.count b.keys)
  pub past : zeros (drop b.header.count b.keys) ≡ true
  pub words : zeros b.words ≡ true

pub data Shape (b : Bytes) : Type 0 where
  is-narrow : Narrow b → Shape b
  is_wide : Wide b → Shape b
  is-sparse : Sparse b → Shape b

module _ (b : Bytes) where
  narrow-of : eqb b.header.mode 0 ≡ true → leb b.header.span 32 ≡ true → sound_narrow b ≡ true → Narrow b
  unfolding view sound_narrow
  narrow-of m l e =
      let first = and_parts _ _ e in
      let second = and_parts _ _ first.1 in
      record { view = rw (m, l); mode = eqb-true _ 0 m; low = leb-true _ 32 first.0; past = second.0; keys = second.1 }

  wide_of : eqb b.header.mode 0 ≡ true → leb b.header.span 32 ≡ false → sound_wide b ≡ true → Wide b
  unfolding view sound_wide
  wide_of m l e =
      let first = and_parts _ _ e in
      let second = and_parts _ _ first.1 in
      let third = and_parts _ _ second.1 in
      let fourth = and_parts _ _ third.1 in
      let fifth = and_parts _ _ fourth.1 in
      record {
        view = rw (m, l);
        mode = eqb-true _ 0 m;
        high = ltb-true 32 _ first.0;
        room = leb-true _ _ second.0;
        last = eqb-false _ 0 (not-true _ third.0);
        few = leb-true _ _ fourth.0;
        past = fifth.0;
        keys = fifth.1;
      }

  sparse_of : eqb b.header.mode 0 ≡ false → eqb b.header.mode 1 ≡ true → sound_sparse b ≡ true → Sparse b
  unfolding view sound_sparse
  sparse_of m o e =
      let first = and_parts _ _ e in
      let second = and_parts _ _ first.1 in
      let third = and_parts _ _ second.1 in
      let fourth = and_parts _ _ third.1 in
      record {
        view = rw m;
        mode = eqb-true _ 1 o;
        span = eqb-true _ 0 first.0;
        room = leb-true _ _ second.0;
        ascending = ascends-ascending _ third.0;
        past = fourth.0;
        words = fourth.1;
      }

  pub sound-is : sound b ≡ true → Shape b
  unfolding sound
  sound-is h =
      pick-case (λ (t : Bool). t ≡ true → Shape b) (eqb b.header.mode 0)
      (λ m. pick-case (λ (t : Bool). t ≡ true → Shape b) (leb b.header.span 32)
      (λ l e. is-narrow (narrow-of m l e)) (λ l e. is_wide (wide_of m l e)))
      (λ m. pick-case (λ (t : Bool). t ≡ true → Shape b) (eqb b.header.mode 1)
      (λ o e. is-sparse (sparse_of m o e)) (λ o e. clash (sym e)))
      (and_parts (eqb b.header.count (stored (view b))) _ h).1

  -- and the header's count is that of the state
  pub sound-count : sound b ≡ true → b.header.count ≡ stored (view b)
  unfolding sound
  sound-count h = eqb-true _ _ (and_parts (eqb b.header.count (stored (view b))) _ h).0

  -- where it isn't narrow, the number of the members
  pub stored-count : sound b ≡ true → is_narrow (view b) ≡ false → b.header.count ≡ count (view b)
  stored-count h n = sound-count h ∙ stored_is (view b) n

-- a wide span is the exact one
pub wide-span : {b : Bytes} → Wide b → Words b.words → needed (words.members b.words) ≡ b.header.span
wide-span {b} d w = go (below_or_not (needed (words.members b.words)) b.header.span)
  where
    go : (needed (words.members b.words) < b.header.span) ⊎ (b.header.span ≤ needed (words.members b.words))
        → needed (words.members b.words) ≡ b.header.span
    go (inl l) = absurd (d.last (exact_past b.words (b.header.span - 1) (rw (exact-needed b.words w) (omega arith))))
    go (inr l) = omega (arith, below-needed b.header.span _ (zeros-below b.header.span b.words d.past))

-- ---- sound bytes

words-below : (b : Bytes) → in_range b ≡ true → Below (2 ^ 32) (words.members b.words)
unfolding in_range
words-below b r =
    let parts = and_parts (leb 32 (length b.words)) _ r in
    let most = leb-true (length b.words) 8192 (and_parts (leb (length b.words) 8192) _ parts.1).0 in
    below-le (64 * length b.words) (2 ^ 32) (words.members b.words) (members-below b.words) (omega (arith, most))

pub view-lawful : (b : Bytes) → in_range b ≡ true → sound b ≡ true → Slices b → Lawful (length b.words) (length b.keys) (view b)
unfolding Fits
view-lawful b r h slices = go (sound-is b h)
  where
    go : Shape b → Lawful (length b.words) (length b.keys) (view b)
    go (is-narrow d) =
        rw d.view
        (record {
          ascending = ascending-members b.words;
          below = words-below b r;
          fits = (below-needed b.header.span _ (zeros-below b.header.span b.words d.past), d.low);
        })
    go (is_wide d) =
        let span = wide-span d slices.words in
        let number = rw d.view at (stored-count b h (rw d.view)) in
        rw d.view
        (record {
          ascending = ascending-members b.words;
          below = words-below b r;
          fits = (omega (arith, span, d.high), omega (arith, span, d.room), omega (arith, span, d.few, number));
        })
    go (is-sparse d) =
        rw d.view
        (record {
          ascending = d.ascending;
          below = below-take (2 ^ 32) b.header.count b.keys slices.keys;
          fits = rw (length-take-le b.header.count b.keys d.room) d.room;
        })

same_bytes : {a b : Bytes} → a.header.mode ≡ b.header.mode → a.header.span ≡ b.header.span → a.header.count ≡ b.header.count
    → a.words ≡ b.words → a.keys ≡ b.keys → a ≡ b
same_bytes m s c w k = λ i. record { header = record { mode = m i; span = s i; count = c i }; words = w i; keys = k i }

pub encode-view : (b : Bytes) → sound b ≡ true → Slices b → encode (length b.words) (length b.keys) (view b) ≡ b
unfolding encode
encode-view b h slices = go (sound-is b h)
  where
    go : Shape b → encode (length b.words) (length b.keys) (view b) ≡ b
    go (is-narrow d) =
        let c = rw d.view at (sound-count b h) in
        rw d.view
        (same_bytes (sym d.mode) refl (sym c) (words-members b.words slices.words) (sym (zeros-is b.keys d.keys)))
    go (is_wide d) =
        let c = rw d.view at (sound-count b h) in
        rw d.view
        (same_bytes (sym d.mode) (wide-span d slices.words) (sym c) (words-members b.words slices.words) (sym (zeros-is b.keys d.keys)))
    go (is-sparse d) =
        let c = rw d.view at (sound-count b h) in
        rw d.view
        (same_bytes (sym d.mode) (sym d.span) (sym c) (sym (zeros-is b.words d.words))
        (sym (row_is b.header.count b.keys d.room d.past)))

-- "The members, W, K, mode and narrow span fix every byte."
pub bytes_fixed : (a b : Bytes) → sound a ≡ true → sound b ≡ true → Slices a → Slices b → length a.words ≡ length b.words
    → length a.keys ≡ length b.keys → view a ≡ view b → a ≡ b
bytes_fixed a b f g v w W K e = sym (encode-view a f v) ∙ rw (W, K, e) (encode-view b g w)

-- ---- a wide set is exact

-- "last word of the span not 0, count exact, span at most 4 × count"
pub record Exact (b : Bytes) : Type 0 where
  pub last : get_or b.words (b.header.span - 1) 0 ≡ 0 → ⊥
  pub counted : b.header.count ≡ length (words.members b.words)
  pub few : b.header.span ≤ 4 * b.header.count

pub wide-exact : (b : Bytes) → sound b ≡ true → b.header.mode ≡ 0 → 32 < b.header.span → Exact b
wide-exact b h m l = go (sound-is b h)
  where
    go : Shape b → Exact b
    go (is-narrow d) = absurd (omega (arith, d.low))
    go (is_wide d) = record { last = d.last; counted = rw d.view at (stored-count b h (rw d.view)); few = d.few }
    go (is-sparse d) = absurd (omega (arith, d.mode))

-- it has a member
pub stored_empty : (b : Bytes) → sound b ≡ true → b.header.mode ≡ 0 → 32 < b.header.span → b.header.count ≡ 0 → ⊥
stored_empty b h m l z = omega (arith, (wide-exact b h m l).few)
