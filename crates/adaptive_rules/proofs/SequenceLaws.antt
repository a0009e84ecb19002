-- Demand 3: over any sequence of calls the members moved between words and keys are at most eight times the flips asked for, and
-- every set stays in order. Assumes nothing.
use mathlib.Core.Path.{◌≡◌, refl, sym, ap, ◌∙◌}
use mathlib.Core.Logic.{◌⊎◌, inl, inr, ⊎_elim}
use mathlib.Core.Bool.{Bool, true, false, xor}
use mathlib.Core.List.{List, [], ◌∷◌}
use Prim.Native.Nat.{ℕ, ◌+◌, ◌*◌, ◌≤◌, ◌<◌}
use native.Mathlib.Omega.{arith}
use lib.Dec.{eqb, leb}
use lib.ListN.{length}
use borrow.Author.Tests.{eq-eqb, leb-true}
use Rattle.words.specs.Sets.{pick, has, From, Below}
use Rattle.words.specs.Words.{needed_from, needed}
use Rattle.words.proofs.Cases.{clash, same_or_not, and_parts}
use Rattle.words.proofs.SetLaws.{length-insert, length-remove, length-toggle, length-difference}
use Rattle.adaptive_rules.specs.States.{State, members, count, is_sparse, prepared}
use Rattle.adaptive_rules.specs.Rules.{Operand, inserted, removed, toggled, cleared, alone, shared, unshared, xored}
use Rattle.adaptive_rules.specs.Bytes.{Bytes, in_range, view, encode, Sound, Slices, Fits, Lawful}
use Rattle.adaptive_rules.specs.Calls.{Call, inserting, removing, toggling, containing, counting, emptiness, clearing, spreading, xoring, counting_shared, xoring_shared, xoring_unshared, Effect, keeps, becomes, effect, limited, index, fit, operands, viewed, written, result_of, preparing}
use Rattle.adaptive_rules.specs.Sequences.{moved, flips, moved_by, flips_of, after, potential}
use Rattle.adaptive_rules.proofs.RuleLaws.{members-inserted, members-toggled, members-removed, members-cleared, members-xored, sparse-inserted, sparse-toggled, sparse-removed, xored-leaves, inserted-lawful, toggled-lawful, removed-lawful, cleared-lawful, LawfulOperand, alone-lawful, shared-lawful, unshared-lawful, xored-lawful}
use Rattle.adaptive_rules.proofs.ByteLaws.{encode_in_range, encode-sound, view-encode, encode-slices, view-lawful, Exact, wide-exact}
use Rattle.adaptive_rules.proofs.CallLaws.{AllSound, Served, served, refused-same, range_in, passes}

-- ---- what one call pays

-- Two facts are enough: the members grow by at most the flips, and a set leaves sparse only empty or with no more members than flips.
record Paid (s t : State) (f : ℕ) : Type 0 where
  grows : count t ≤ count s + f
  leaves : is_sparse s ≡ true → is_sparse t ≡ false → (count t ≡ 0) ⊎ (count s ≤ f)

paid : {s t : State} {f : ℕ} → Paid s t f → moved s t + potential t ≤ potential s + 8 * f
unfolding moved potential xor
paid {s} {t} {f} h = go (is_sparse s) refl (is_sparse t) refl
  where
    pays : Bool → Bool → Type 0
    pays u v = pick (xor u v) (count s + count t) 0 + pick v (count t) (3 * count t) ≤ pick u (count s) (3 * count s) + 8 * f

    go : (u : Bool) → is_sparse s ≡ u → (v : Bool) → is_sparse t ≡ v → pays u v
    go true d true e = omega (arith, h.grows)
    go true d false e = ⊎_elim (λ z. omega arith) (λ l. omega (arith, h.grows)) (h.leaves d e)
    go false d true e = omega (arith, h.grows)
    go false d false e = omega (arith, h.grows)

-- a set that stays as it is moves nothing
moved_none : (s : State) → moved s s ≡ 0
unfolding moved xor
moved_none s = go (is_sparse s)
  where
    go : (u : Bool) → pick (xor u u) (count s + count s) 0 ≡ 0
    go true = refl
    go false = refl

-- what stays sparse doesn't leave
stays : (s t : State) (f : ℕ) → (is_sparse s ≡ true → is_sparse t ≡ true) → is_sparse s ≡ true → is_sparse t ≡ false → (count t ≡ 0) ⊎ (count s ≤ f)
stays s t f h d e = clash (sym (h d) ∙ e)

-- ---- bytes in order

-- in range, sound, and such as slices hold
pub record InOrder (b : Bytes) : Type 0 where
  pub sound : Sound b
  pub slices : Slices b

unfoldable pub AllSlices : List Bytes → Type 0
AllSlices [] = Unit
AllSlices (b ∷ sets) = Slices b × AllSlices sets

holds : {b : Bytes} → InOrder b → Lawful (length b.words) (length b.keys) (view b)
holds {b} h = view-lawful b h.sound.in_range h.sound.sound h.slices

operand : {o : Bytes} → Sound o → Slices o → Lawful (length o.words) (length o.keys) (view o)
operand {o} p s = holds (record { sound = p; slices = s })

wide_enough : (b : Bytes) → in_range b ≡ true → (32 ≤ length b.words) × (length b.words ≤ 8192) × (length b.keys ≤ 16384)
unfolding in_range
wide_enough b e =
    let parts = and_parts _ _ e in
    let rest = and_parts _ _ parts.1 in
    (leb-true _ _ parts.0, leb-true _ _ rest.0, leb-true _ _ rest.1)

-- ---- what a served call does to the state

-- it becomes another that is lawful, and the flips pay for it
record Changes (W K : ℕ) (s : State) (e : Effect) (f : ℕ) : Type 0 where
  state : State
  is : e ≡ becomes state
  lawful : Lawful W K state
  pays : Paid s state f

xor-changes : {W K : ℕ} (s : State) (o : Operand) → Lawful W K s → LawfulOperand o → (fit W K (becomes (xored s o))).number ≡ 0
    → Changes W K s (becomes (xored s o)) (length o.members)
unfolding fit
xor-changes s o g p e = record {
  state = xored s o;
  is = refl;
  lawful = xored-lawful g p e;
  pays = record {
    grows = omega (arith, ap length (members-xored s o), length-difference (members s) o.members g.ascending p.ascending);
    leaves = λ d n. inr (xored-leaves s o d n);
  };
}

-- an index that is not refused
allowed : (i : ℕ) → (limited i).number ≡ 0 → i ≤ 4294967295
unfolding limited
allowed i e = leb-true i 4294967295 (passes (leb i 4294967295) 3 (λ z. omega arith) e)

one : (t : Bool) → (pick t 0 1 ≤ 1) × (pick t 1 0 ≤ 1)
one true = omega arith
one false = omega arith

state-after : (c : Call Bytes) (b : Bytes) → InOrder b → AllSlices (operands c) → Served c b
    → (effect (viewed c) (view b) ≡ keeps)
    ⊎ Changes (length b.words) (length b.keys) (view b) (effect (viewed c) (view b)) (flips (viewed c) (view b))
unfolding viewed operands effect flips index fit alone AllSlices AllSound
state-after (inserting i) b h a v =
    let s = view b in
    let g = holds h in
    inr (record {
      state = inserted i s;
      is = refl;
      lawful = inserted-lawful i g (allowed i v.index) v.fits;
      pays = record {
        grows = omega (arith, ap length (members-inserted i s), length-insert i (members s) g.ascending, one (has (members s) i));
        leaves = stays s (inserted i s) 1 (sparse-inserted i s);
      };
    })
state-after (removing i) b h a v =
    let s = view b in
    let g = holds h in
    inr (record {
      state = removed i s;
      is = refl;
      lawful = removed-lawful i g v.fits;
      pays = record {
        grows = omega (arith, ap length (members-removed i s g.ascending), length-remove i (members s) g.ascending);
        leaves = stays s (removed i s) 1 (sparse-removed i s);
      };
    })
state-after (toggling i) b h a v =
    let s = view b in
    let g = holds h in
    inr (record {
      state = toggled i s;
      is = refl;
      lawful = toggled-lawful i g (allowed i v.index) v.fits;
      pays = record {
        grows = omega (arith, ap length (members-toggled i s), length-toggle i (members s) g.ascending);
        leaves = stays s (toggled i s) 1 (sparse-toggled i s);
      };
    })
state-after (containing i) b h a v = inl refl
state-after counting b h a v = inl refl
state-after emptiness b h a v = inl refl
state-after clearing b h a v =
    let s = view b in
    inr (record {
      state = cleared s;
      is = refl;
      lawful = cleared-lawful (holds h);
      pays = record { grows = omega (arith, ap length (members-cleared s)); leaves = λ d n. inl (ap length (members-cleared s)) };
    })
state-after spreading b h a v = inl refl
state-after (xoring o) b h a v = inr (xor-changes (view b) (alone (view o)) (holds h) (alone-lawful (operand v.sets.1.0 a.0)) v.fits)
state-after (counting_shared o) b h a v = inl refl
state-after (xoring_shared o p) b h a v =
    inr (xor-changes (view b) (shared (view b) (view o) (view p)) (holds h)
    (shared-lawful _ (operand v.sets.1.0 a.0) (operand v.sets.1.1.0 a.1.0)) v.fits)
state-after (xoring_unshared o p) b h a v =
    inr (xor-changes (view b) (unshared (view b) (view o) (view p)) (holds h)
    (unshared-lawful _ (operand v.sets.1.0 a.0) (operand v.sets.1.1.0 a.1.0)) v.fits)

-- what the bytes then hold
pub served-view : (c : Call Bytes) (b : Bytes) {t : State} → InOrder b → AllSlices (operands c) → (result_of c b).answer.number ≡ 0
    → effect (viewed c) (view b) ≡ becomes t → view (result_of c b).bytes ≡ t
unfolding written
served-view c b {t} h a e d =
    let v = served c b e in
    ⊎_elim (λ k. let z : ◌≡◌ {A = ℕ} 0 1 = cc in absurd (omega arith))
    (λ n. let same : n.state ≡ t = cc in
    rw (v.bytes, n.is) (view-encode (wide_enough b h.sound.in_range).0 n.lawful ∙ same)) (state-after c b h a v)

-- ---- one call

-- the flips of a call: those of a served one
abbrev asked : Call Bytes → Bytes → ℕ
asked c b = pick (eqb (result_of c b).answer.number 0) (flips (viewed c) (view b)) 0

record Step (c : Call Bytes) (b : Bytes) : Type 0 where
  order : InOrder (result_of c b).bytes
  pays : moved (view b) (view (result_of c b).bytes) + potential (view (result_of c b).bytes) ≤ potential (view b) + 8 * asked c b

-- a call that leaves the bytes as they are
step_same : (c : Call Bytes) (b : Bytes) → InOrder b → (result_of c b).bytes ≡ b → Step c b
step_same c b h e = record { order = rw e h; pays = rw e (omega (arith, moved_none (view b))) }

encoded_order : {W K : ℕ} {s : State} → 32 ≤ W → W ≤ 8192 → K ≤ 16384 → Lawful W K s → InOrder (encode W K s)
encoded_order w x k g =
    record { sound = record { in_range = encode_in_range w x k g; sound = encode-sound w g }; slices = encode-slices g }

step : (c : Call Bytes) (b : Bytes) → InOrder b → AllSlices (operands c) → Step c b
unfolding written
step c b h a = ⊎_elim (λ e. go e (served c b e)) (λ n. step_same c b h (refused-same c b n)) (same_or_not (result_of c b).answer.number 0)
  where
    go : (result_of c b).answer.number ≡ 0 → Served c b → Step c b
    go e v =
        ⊎_elim (λ k. step_same c b h (v.bytes ∙ rw k))
        (λ d. let room = wide_enough b h.sound.in_range in
        let left : (result_of c b).bytes ≡ encode (length b.words) (length b.keys) d.state = v.bytes ∙ rw d.is in
        record {
          order = rw left (encoded_order room.0 room.1 room.2 d.lawful);
          pays = rw (left, view-encode room.0 d.lawful, eq-eqb (result_of c b).answer.number 0 e) (paid d.pays);
        }) (state-after c b h a v)

-- ---- sequences

unfoldable pub Sliced : List (Call Bytes) → Type 0
Sliced [] = Unit
Sliced (c ∷ calls) = AllSlices (operands c) × Sliced calls

-- every set stays in order
pub order_after : (calls : List (Call Bytes)) (b : Bytes) → InOrder b → Sliced calls → InOrder (after calls b)
unfolding after Sliced
order_after [] b h a = h
order_after (c ∷ calls) b h a = order_after calls (result_of c b).bytes (step c b h a.0).order a.1

-- "After every call a dense set with a span above 32 words has a last word there that isn't zero, an exact count, and at most four
-- words to a member."
pub exact-after : (calls : List (Call Bytes)) (b : Bytes) → InOrder b → Sliced calls
    → (after calls b).header.mode ≡ 0 → 32 < (after calls b).header.span → Exact (after calls b)
exact-after calls b h a m w = wide-exact (after calls b) (order_after calls b h a).sound.sound m w

paid-after : (calls : List (Call Bytes)) (b : Bytes) → InOrder b → Sliced calls
    → moved_by calls b + potential (view (after calls b)) ≤ potential (view b) + 8 * flips_of calls b
unfolding moved_by flips_of after Sliced
paid-after [] b h a = omega arith
paid-after (c ∷ calls) b h a =
    let s = step c b h a.0 in omega (arith, s.pays, paid-after calls (result_of c b).bytes s.order a.1)

-- from any set in order: at most what its members may still cost, and eight times the flips
pub moved_bounded : (calls : List (Call Bytes)) (b : Bytes) → InOrder b → Sliced calls → moved_by calls b ≤ potential (view b) + 8 * flips_of calls b
moved_bounded calls b h a = omega (arith, paid-after calls b h a)

-- ---- from preparing

prepared-lawful : (W K : ℕ) → Lawful W K prepared
unfolding From Below Fits needed needed_from
prepared-lawful W K = record { ascending = tt; below = tt; fits = (omega arith, omega arith) }

-- a set whose preparing is served
module _ (words keys : List ℕ) (e : (preparing words keys).answer.number ≡ 0) where
  fresh : Bytes
  fresh = record { header = record { mode = 0; span = 0; count = 0 }; words = words; keys = keys }

  allows : in_range fresh ≡ true
  unfolding preparing fresh
  allows = range_in fresh e

  room : (32 ≤ length words) × (length words ≤ 8192) × (length keys ≤ 16384)
  unfolding fresh
  room = wide_enough fresh allows

  encoded : (preparing words keys).bytes ≡ encode (length words) (length keys) prepared
  unfolding preparing fresh
  encoded = rw allows

  pub prepared-order : InOrder (preparing words keys).bytes
  prepared-order = rw encoded (encoded_order room.0 room.1 room.2 (prepared-lawful (length words) (length keys)))

  -- Demand 3: "Take any sequence of calls on one set from its preparing .. That sum is at most eight times the flips asked for"
  pub demand : (calls : List (Call Bytes)) → Sliced calls → moved_by calls (preparing words keys).bytes ≤ 8 * flips_of calls (preparing words keys).bytes
  unfolding potential
  demand calls a =
      let free : potential (view (preparing words keys).bytes) ≡ 0 = rw (encoded, view-encode room.0 (prepared-lawful (length words) (length keys))) in
      omega (arith, moved_bounded calls (preparing words keys).bytes prepared-order a)

  -- and its second half
  pub demand-exact : (calls : List (Call Bytes)) → Sliced calls → (after calls (preparing words keys).bytes).header.mode ≡ 0
      → 32 < (after calls (preparing words keys).bytes).header.span → Exact (after calls (preparing words keys).bytes)
  demand-exact calls a m w = exact-after calls (preparing words keys).bytes prepared-order a m w
