-- What a set's lengths and refusals come to, what its storage says of its header, and what the reads of a sound set answer, path by
-- path: as theorems beside the calls, whose proofs do without them. Assumes nothing.
use mathlib.Core.Path.{◌≡◌, refl, sym, ◌∙◌}
use mathlib.Core.Bool.{Bool, true, false}
use mathlib.Core.List.{List, [], ◌∷◌}
use Prim.Native.Nat.{ℕ, ◌≤◌, ◌<◌}
use native.Mathlib.Omega.{arith}
use lib.Dec.{eqb, leb}
use lib.ListN.{length, take, drop}
use borrow.Author.Tests.{eq-eqb, ne_eqb, eqb-true, eqb-false, le-leb, lt-leb, leb-true, leb-false}
use Rattle.words.specs.Sets.{pick, has}
use Rattle.words.specs.Words as words
use Rattle.words.specs.Words.{zeros}
use Rattle.words.proofs.Cases.{never, and_parts, pick-case}
use Rattle.answers.specs.Answers.{Answer, truth}
use Rattle.adaptive_rules.specs.States.{State, narrow, wide, sparse, members, count, is_narrow}
use Rattle.adaptive_rules.specs.Bytes.{Bytes, in_range, sound, view, Sound}
use Rattle.adaptive_rules.specs.Calls.{containing, emptiness, effect, value, refusal, first, range, verdict, limited, index, fit, answer, operands, viewed, result_of}
use Rattle.adaptive_rules.proofs.ByteLaws as shapes
use Rattle.adaptive_rules.proofs.CallLaws.{AllSound, sound-answer}
use Rattle.adaptive_index_set.specs.declared.Header.{Header}
use Rattle.adaptive_index_set.specs.declared.storage.Storage.TheVariants.{Narrow, Wide, Sparse}
use Rattle.adaptive_index_set.specs.Contract.{bytes_of}
use Rattle.adaptive_index_set.specs.Steps.{storage_of}

-- ---- lengths in range

-- "W words (32 to 8,192) and K keys (0 to 16,384)"
pub record Lent (b : Bytes) : Type 0 where
  pub least : 32 ≤ length b.words
  pub most : length b.words ≤ 8192
  pub room : length b.keys ≤ 16384

pub lent_of : {b : Bytes} → in_range b ≡ true → Lent b
unfolding in_range
lent_of {b} e =
    let first = and_parts (leb 32 (length b.words)) _ e in
    let second = and_parts (leb (length b.words) 8192) _ first.1 in
    record { least = leb-true _ _ first.0; most = leb-true _ _ second.0; room = leb-true _ _ second.1 }

pub range_out : (b : Bytes) → ((range b).number ≡ 0 → ⊥) → in_range b ≡ false
unfolding range refusal
range_out b n = never (in_range b) (λ t. n (rw t))

-- ---- what one set is refused with

pub one_refused : (b : Bytes) → ((range b).number ≡ 0 → ⊥) → first (range b ∷ verdict b ∷ []) (refusal 0) ≡ range b
unfolding first
one_refused b n = rw (ne_eqb _ _ n)

pub one_judged : (b : Bytes) → (range b).number ≡ 0 → first (range b ∷ verdict b ∷ []) (refusal 0) ≡ verdict b
unfolding first verdict refusal
one_judged b e =
    rw (eq-eqb _ _ e)
    (pick-case {a = 0} {b = 2} (λ (n : ℕ). pick (eqb n 0) (refusal 0) (refusal n) ≡ refusal n) (sound b) (λ t. refl) (λ t. refl))

-- ---- what the storage says of the header, and of the members

pub in_keys : (h : Header) {n : ℕ} → storage_of h ≡ Sparse n → (h.mode ≡ 0 → ⊥) × (n ≡ h.count)
unfolding storage_of
in_keys h {n} e = go (eqb h.mode 0) refl (leb h.span 32) e
  where
    go : (t : Bool) → eqb h.mode 0 ≡ t → (u : Bool)
        → pick t (pick u (Narrow h.span) (Wide h.span h.count)) (Sparse h.count) ≡ Sparse n → (h.mode ≡ 0 → ⊥) × (n ≡ h.count)
    go true d true e = let z : ◌≡◌ {A = ℕ} 0 1 = cc in absurd (omega arith)
    go true d false e = let z : ◌≡◌ {A = ℕ} 0 1 = cc in absurd (omega arith)
    go false d u e = (eqb-false h.mode 0 d, cc)

pub is-narrow : (h : Header) {p : ℕ} → storage_of h ≡ Narrow p → (h.mode ≡ 0) × (h.span ≤ 32) × (p ≡ h.span)
unfolding storage_of
is-narrow h {p} e = go (eqb h.mode 0) refl (leb h.span 32) refl e
  where
    go : (t : Bool) → eqb h.mode 0 ≡ t → (u : Bool) → leb h.span 32 ≡ u
        → pick t (pick u (Narrow h.span) (Wide h.span h.count)) (Sparse h.count) ≡ Narrow p
        → (h.mode ≡ 0) × (h.span ≤ 32) × (p ≡ h.span)
    go true d true l e = (eqb-true h.mode 0 d, leb-true h.span 32 l, cc)
    go true d false l e = let z : ◌≡◌ {A = ℕ} 0 1 = cc in absurd (omega arith)
    go false d u l e = let z : ◌≡◌ {A = ℕ} 0 1 = cc in absurd (omega arith)

pub is_wide : (h : Header) {p n : ℕ} → storage_of h ≡ Wide p n → (h.mode ≡ 0) × (32 < h.span) × (p ≡ h.span) × (n ≡ h.count)
unfolding storage_of
is_wide h {p} {n} e = go (eqb h.mode 0) refl (leb h.span 32) refl e
  where
    go : (t : Bool) → eqb h.mode 0 ≡ t → (u : Bool) → leb h.span 32 ≡ u
        → pick t (pick u (Narrow h.span) (Wide h.span h.count)) (Sparse h.count) ≡ Wide p n
        → (h.mode ≡ 0) × (32 < h.span) × (p ≡ h.span) × (n ≡ h.count)
    go true d true l e = let z : ◌≡◌ {A = ℕ} 0 1 = cc in absurd (omega arith)
    go true d false l e = (eqb-true h.mode 0 d, leb-false h.span 32 l, cc, cc)
    go false d u l e = let z : ◌≡◌ {A = ℕ} 0 1 = cc in absurd (omega arith)

-- what is not in keys is in words
pub in_words : (h : Header) → ((n : ℕ) → storage_of h ≡ Sparse n → ⊥) → h.mode ≡ 0
unfolding storage_of
in_words h d = go (eqb h.mode 0) refl
  where
    go : (t : Bool) → eqb h.mode 0 ≡ t → h.mode ≡ 0
    go true e = eqb-true h.mode 0 e
    go false e = absurd (d h.count (rw e))

module _ (h : Header) (ws ks : List ℕ) where
  pub view-narrow : h.mode ≡ 0 → h.span ≤ 32 → view (bytes_of h ws ks) ≡ narrow h.span (words.members ws)
  unfolding view bytes_of
  view-narrow e l = rw (eq-eqb h.mode 0 e, le-leb h.span 32 l)

  pub view-wide : h.mode ≡ 0 → 32 < h.span → view (bytes_of h ws ks) ≡ wide (words.members ws)
  unfolding view bytes_of
  view-wide e l = rw (eq-eqb h.mode 0 e, lt-leb h.span 32 l)

  pub view-sparse : (h.mode ≡ 0 → ⊥) → view (bytes_of h ws ks) ≡ sparse (take h.count ks)
  unfolding view bytes_of
  view-sparse n = rw (ne_eqb h.mode 0 n)

-- in words, narrow or wide
pub members_dense : (h : Header) (ws ks : List ℕ) → h.mode ≡ 0 → members (view (bytes_of h ws ks)) ≡ words.members ws
unfolding view bytes_of
members_dense h ws ks e =
    rw (eq-eqb h.mode 0 e) (pick-case (λ (s : State). members s ≡ words.members ws) (leb h.span 32) (λ t. refl) (λ t. refl))

-- ---- what soundness says of it

module _ (h : Header) (ws ks : List ℕ) (s : Sound (bytes_of h ws ks)) where
  pub sparse-shape : (h.mode ≡ 0 → ⊥) → shapes.Sparse (bytes_of h ws ks)
  unfolding bytes_of
  sparse-shape n = go (shapes.sound-is (bytes_of h ws ks) s.sound)
    where
      go : shapes.Shape (bytes_of h ws ks) → shapes.Sparse (bytes_of h ws ks)
      go (shapes.is-narrow x) = absurd (n x.mode)
      go (shapes.is_wide x) = absurd (n x.mode)
      go (shapes.is-sparse x) = x

  -- a dense set's words past the span are 0, and its keys
  pub dense-zeros : h.mode ≡ 0 → (zeros (drop h.span ws) ≡ true) × (zeros ks ≡ true)
  unfolding bytes_of
  dense-zeros e = go (shapes.sound-is (bytes_of h ws ks) s.sound)
    where
      go : shapes.Shape (bytes_of h ws ks) → (zeros (drop h.span ws) ≡ true) × (zeros ks ≡ true)
      go (shapes.is-narrow x) = (x.past, x.keys)
      go (shapes.is_wide x) = (x.past, x.keys)
      go (shapes.is-sparse x) = absurd (omega (arith, x.mode))

  pub lent : (32 ≤ length ws) × (length ws ≤ 8192) × (length ks ≤ 16384)
  unfolding bytes_of in_range
  lent =
      let parts = and_parts _ _ s.in_range in
      let rest = and_parts _ _ parts.1 in
      (leb-true _ _ parts.0, leb-true _ _ rest.0, leb-true _ _ rest.1)

  pub dense-span : h.mode ≡ 0 → h.span ≤ length ws
  unfolding bytes_of
  dense-span e = go (shapes.sound-is (bytes_of h ws ks) s.sound)
    where
      go : shapes.Shape (bytes_of h ws ks) → h.span ≤ length ws
      go (shapes.is-narrow x) = omega (arith, x.low, lent.0)
      go (shapes.is_wide x) = x.room
      go (shapes.is-sparse x) = absurd (omega (arith, x.mode))

  -- the stored count, unless narrow
  pub count-stored : is_narrow (view (bytes_of h ws ks)) ≡ false → h.count ≡ count (view (bytes_of h ws ks))
  unfolding bytes_of
  count-stored e = shapes.stored-count (bytes_of h ws ks) s.sound e

-- ---- reading

module _ {b : Bytes} (h : Sound b) where
  pub empty_answer : {n value : ℕ} {r : Answer} → n ≡ count (view b) → value ≡ truth (eqb n 0) → r ≡ record { number = 0; value = value }
      → r ≡ (result_of emptiness b).answer
  unfolding AllSound operands viewed answer first index fit effect refusal value
  empty_answer e a q = q ∙ rw (a, e) (sym (sound-answer emptiness b (h, tt)))

  pub contained_answer : (i : ℕ) {value : ℕ} {r : Answer} → i ≤ 4294967295 → value ≡ truth (has (members (view b)) i)
      → r ≡ record { number = 0; value = value } → r ≡ (result_of (containing i) b).answer
  unfolding AllSound operands viewed answer first index limited fit effect refusal value
  contained_answer i l a q = q ∙ rw a (sym (sound-answer (containing i) b (h, tt) ∙ rw (le-leb i 4294967295 l)))
