-- States and bytes: the members, W and the span fix every byte, each rule keeps a state lawful, and every call leaves a target in
-- range and sound that was so, whatever its operands hold. Assumes nothing.
use mathlib.Core.Path.{◌≡◌, sym, ap₂, ◌∙◌}
use mathlib.Core.Bool.{Bool, true, false}
use mathlib.Core.List.{List, [], ◌∷◌}
use Prim.Native.Nat.{ℕ, ◌+◌, ◌*◌, ◌/◌, ◌≤◌, min}
use native.Mathlib.Omega.{arith}
use lib.Dec.{eqb, leb}
use lib.ListN.{length, drop}
use borrow.Author.Tests.{eqb-true, le-leb, leb-true}
use Rattle.words.specs.Sets.{From, Below, has, merge}
use Rattle.words.specs.Words.{members, zeros, Words, words_of}
use Rattle.words.proofs.Cases.{and_parts, pick-case}
use Rattle.words.proofs.SetLaws.{from-merge, single, ascending-remove, ascending-intersection, below-le, below-merge, below-intersection, below-remove}
use Rattle.words.proofs.MemberLaws.{ascending-members, members-words, length-words_of, words-words_of, words-members, zeros-below, below-zeros}
use Rattle.answers.specs.Judging.{Judged, verdict}
use Rattle.answers.proofs.Judging.{Passed, none_passed, none_more}
use Rattle.bitset.specs.Rules.{State, Lawful, inserted, toggled, removed, cleared, xored, shared, unshared, flipped, entries}
use Rattle.bitset.specs.Calls.{Bytes, Outcome, in_range, sound, view, encode, judged, result, preparing, inserting, toggling, removing, clearing, xoring, xoring_shared, xoring_unshared, flipping, flipping_shared}
use Rattle.bitset.proofs.Slices.{with_none}

-- in range and sound
abbrev pub InOrder : Bytes → Type 0
InOrder b = Passed (judged b)

-- ---- bytes and states

pub view-lawful : (b : Bytes) → sound b ≡ true → Lawful (length b.words) (view b)
unfolding sound view
view-lawful b h =
    let parts = and_parts (leb b.span (length b.words)) (zeros (drop b.span b.words)) h in
    record {
      ascending = ascending-members b.words;
      below = zeros-below b.span b.words parts.1;
      within = leb-true b.span (length b.words) parts.0;
    }

pub encode-view : (b : Bytes) → Words b.words → encode (length b.words) (view b) ≡ b
unfolding encode view
encode-view b h = rw (words-members b.words h)

-- the members, W and the span fix every byte
pub bytes_fixed : (a b : Bytes) → Words a.words → Words b.words → length a.words ≡ length b.words → view a ≡ view b → a ≡ b
bytes_fixed a b f g e v = sym (encode-view a f) ∙ ap₂ encode e v ∙ encode-view b g

members-encode : {W : ℕ} {s : State} → Lawful W s → members (words_of W s.members) ≡ s.members
members-encode {W} {s} h =
    members-words W s.members h.ascending (below-le (64 * s.span) (64 * W) s.members h.below (omega (arith, h.within)))

pub view-encode : {W : ℕ} {s : State} → Lawful W s → view (encode W s) ≡ s
unfolding encode view
view-encode h = rw (members-encode h)

pub encode-sound : {W : ℕ} {s : State} → Lawful W s → W ≤ 8192 → InOrder (encode W s)
unfolding encode judged in_range sound
encode-sound {W} {s} h w =
    let beyond = below-zeros s.span (words_of W s.members) (words-words_of W s.members) (rw (members-encode h) h.below) in
    record {
      in_range = rw (length-words_of W s.members) (le-leb W 8192 w);
      sound = rw (length-words_of W s.members, le-leb s.span W h.within) beyond;
    }

-- ---- the rules

-- two states merged, with a span that holds both
merged : (left right both : Bool) (n : ℕ) {M N W : ℕ} {s o : State} → Lawful M s → Lawful N o → s.span ≤ n → o.span ≤ n → n ≤ W
    → Lawful W (record { span = n; members = merge left right both s.members o.members })
merged left right both n {s = s} {o = o} h k p q w =
    record {
      ascending = from-merge left right both 0 s.members o.members h.ascending k.ascending;
      below = below-merge left right both (64 * n) s.members o.members h.ascending k.ascending
          (below-le (64 * s.span) (64 * n) s.members h.below (omega arith))
          (below-le (64 * o.span) (64 * n) o.members k.below (omega arith));
      within = w;
    }

alone : (i : ℕ) → Lawful (i / 64 + 1) (record { span = i / 64 + 1; members = i ∷ [] })
unfolding Below
alone i = record { ascending = single i; below = (omega arith, tt); within = omega arith }

pub inserted-lawful : (i : ℕ) {N W : ℕ} {s : State} → Lawful N s → (inserted i s).span ≤ W → Lawful W (inserted i s)
unfolding inserted
inserted-lawful i h w = merged true true true _ (alone i) h (omega arith) (omega arith) w

pub toggled-lawful : (i : ℕ) {N W : ℕ} {s : State} → Lawful N s → (toggled i s).span ≤ W → Lawful W (toggled i s)
unfolding toggled
toggled-lawful i h w = merged true true false _ (alone i) h (omega arith) (omega arith) w

pub removed-lawful : (i : ℕ) {W : ℕ} {s : State} → Lawful W s → Lawful W (removed i s)
unfolding removed
removed-lawful i {s = s} h =
    record {
      ascending = ascending-remove i s.members h.ascending;
      below = below-remove i (64 * s.span) s.members h.ascending h.below;
      within = h.within;
    }

pub cleared-lawful : {W : ℕ} {s : State} → Lawful W s → Lawful W (cleared s)
unfolding cleared From Below
cleared-lawful h = record { ascending = tt; below = tt; within = h.within }

pub xored-lawful : {M N W : ℕ} {s o : State} → Lawful M s → Lawful N o → (xored s o).span ≤ W → Lawful W (xored s o)
unfolding xored
xored-lawful h k w = merged true true false _ h k (omega arith) (omega arith) w

pub unshared-lawful : {M N W : ℕ} {o p : State} → Lawful M o → Lawful N p → (unshared o p).span ≤ W → Lawful W (unshared o p)
unfolding unshared
unshared-lawful h k w = merged true true false _ h k (omega arith) (omega arith) w

pub shared-lawful : {M N W : ℕ} {o p : State} → Lawful M o → Lawful N p → (shared o p).span ≤ W → Lawful W (shared o p)
unfolding shared
shared-lawful {o = o} {p = p} h k w =
    record {
      ascending = ascending-intersection o.members p.members h.ascending k.ascending;
      below = below-le (min (64 * o.span) (64 * p.span)) (64 * min o.span p.span) _
          (below-intersection (64 * o.span) (64 * p.span) o.members p.members h.ascending k.ascending h.below k.below)
          (omega arith);
      within = w;
    }

pub flipped-lawful : (l : List ℕ) {N W : ℕ} {s : State} → Lawful N s → (flipped l s).span ≤ W → Lawful W (flipped l s)
unfolding flipped
flipped-lawful [] h w = record { ascending = h.ascending; below = h.below; within = w }
flipped-lawful (i ∷ l) {s = s} h w = flipped-lawful l (toggled-lawful i {W = (toggled i s).span} h (omega arith)) w

-- ---- the calls

pub result-sound : (n : ℕ) (b : Bytes) (v : ℕ) (s : State) → InOrder b
    → (n ≡ 0 → s.span ≤ length b.words → Lawful (length b.words) s) → InOrder (result n b v s).bytes
unfolding result judged in_range
result-sound n b v s w h =
    pick-case (λ (o : Outcome). InOrder o.bytes) (eqb n 0)
    (λ e. pick-case (λ (o : Outcome). InOrder o.bytes) (leb s.span (length b.words))
    (λ d. encode-sound (h (eqb-true n 0 e) (leb-true s.span (length b.words) d)) (leb-true (length b.words) 8192 w.in_range)) (λ d. w))
    (λ e. w)

-- sets that nothing refuses hold lawful states
none-lawful : (b : Bytes) → verdict (judged b ∷ []) ≡ 0 → Lawful (length b.words) (view b)
unfolding judged
none-lawful b z = view-lawful b (none_passed (judged b) z).sound

more_lawful : (b : Bytes) (sets : List Judged) → verdict (judged b ∷ sets) ≡ 0 → Lawful (length b.words) (view b) × (verdict sets ≡ 0)
unfolding judged
more_lawful b sets z = let parts = none_more (judged b) sets z in (view-lawful b parts.0.sound, parts.1)

pub preparing-sound : (ws : List ℕ) → length ws ≤ 8192 → InOrder (preparing ws).bytes
unfolding preparing encode words_of From Below
preparing-sound ws h =
    rw (le-leb (length ws) 8192 h)
    (encode-sound {s = record { span = 0; members = [] }} (record { ascending = tt; below = tt; within = omega arith }) h)

pub inserting-sound : (i : ℕ) (b : Bytes) → InOrder b → InOrder (inserting i b).bytes
unfolding inserting
inserting-sound i b w = result-sound _ b _ _ w (λ z. inserted-lawful i (none-lawful b z))

pub toggling-sound : (i : ℕ) (b : Bytes) → InOrder b → InOrder (toggling i b).bytes
unfolding toggling
toggling-sound i b w = result-sound _ b _ _ w (λ z. toggled-lawful i (none-lawful b z))

pub removing-sound : (i : ℕ) (b : Bytes) → InOrder b → InOrder (removing i b).bytes
unfolding removing
removing-sound i b w = result-sound _ b _ _ w (λ z p. removed-lawful i (none-lawful b z))

pub clearing-sound : (b : Bytes) → InOrder b → InOrder (clearing b).bytes
unfolding clearing
clearing-sound b w = result-sound _ b _ _ w (λ z p. cleared-lawful (none-lawful b z))

pub xoring-sound : (b o : Bytes) → InOrder b → InOrder (xoring b o).bytes
unfolding xoring
xoring-sound b o w = result-sound _ b _ _ w (λ z. let all = more_lawful b (judged o ∷ []) z in xored-lawful all.0 (none-lawful o all.1))

pub xoring-shared-sound : (b o p : Bytes) → InOrder b → InOrder (xoring_shared b o p).bytes
unfolding xoring_shared
xoring-shared-sound b o p w =
    result-sound _ b _ _ w (λ z. let all = more_lawful b (judged o ∷ judged p ∷ []) z in let two = more_lawful o (judged p ∷ []) all.1 in
    xored-lawful all.0 (shared-lawful {W = (shared (view o) (view p)).span} two.0 (none-lawful p two.1) (omega arith)))

pub xoring-unshared-sound : (b o p : Bytes) → InOrder b → InOrder (xoring_unshared b o p).bytes
unfolding xoring_unshared
xoring-unshared-sound b o p w =
    result-sound _ b _ _ w (λ z. let all = more_lawful b (judged o ∷ judged p ∷ []) z in let two = more_lawful o (judged p ∷ []) all.1 in
    xored-lawful all.0 (unshared-lawful {W = (unshared (view o) (view p)).span} two.0 (none-lawful p two.1) (omega arith)))

pub flipping-sound : (l : List ℕ) (b : Bytes) → InOrder b → InOrder (flipping l b).bytes
unfolding flipping
flipping-sound l b w = result-sound _ b _ _ w (λ z. flipped-lawful l (none-lawful b (with_none l (judged b ∷ []) z).1))

pub flipping-shared-sound : (l : List ℕ) (b o : Bytes) → InOrder b → InOrder (flipping_shared l b o).bytes
unfolding flipping_shared
flipping-shared-sound l b o w =
    result-sound _ b _ _ w (λ z. let sets = with_none l (judged b ∷ judged o ∷ []) z in
    flipped-lawful (entries (has (members o.words)) l) (more_lawful b (judged o ∷ []) sets.1).0)
