-- What the mode rules do to members, when a set leaves sparse, and that each rule gives a lawful state from a lawful one where the
-- result fits. Assumes nothing.
use mathlib.Core.Path.{◌≡◌, refl, sym}
use mathlib.Core.Bool.{Bool, true, false, not, ◌&&◌}
use mathlib.Core.List.{List, []}
use Prim.Native.Nat.{ℕ, suc, ◌+◌, ◌*◌, ◌-◌, ◌/◌, ◌^◌, ◌≤◌, ◌<◌, max, min}
use native.Mathlib.Omega.{arith}
use lib.Dec.{leb, ltb}
use lib.ListN.{length}
use borrow.Author.Tests.{ltb-true, ltb-false, leb-true, leb-false, le-leb, le-ltb}
use Rattle.words.specs.Sets.{pick, From, Ascending, Below, has, merge, insert, remove, toggle, difference}
use Rattle.words.specs.Words.{needed}
use Rattle.words.proofs.Cases.{clash, and_parts, pick-case}
use Rattle.words.proofs.SetLaws.{from-merge, ascending-insert, ascending-remove, ascending-difference, length-insert, remove_absent, toggle_inserts, toggle_removes, single, below-merge, below-remove}
use Rattle.words.proofs.MemberLaws.{needed-has, needed-past, needed-merge, needed-intersection, needed-insert, needed-remove}
use Rattle.adaptive_rules.specs.States.{State, narrow, wide, sparse, members, span, is_narrow, is_sparse}
use Rattle.adaptive_rules.specs.Rules.{limit, hold, settle, reach, grown, changed, inserted, toggled, without, removed, cleared, Operand, alone, fused, shared, unshared, xored_dense, turns, xored}
use Rattle.adaptive_rules.specs.Bytes.{Fits, Lawful}
use Rattle.adaptive_rules.specs.Calls.{measured, refusal}

-- ---- members: modes change nothing of them

abbrev Having : List ℕ → State → Type 0
Having l s = members s ≡ l

pub members-settle : (l : List ℕ) → members (settle l) ≡ l
unfolding settle
members-settle l =
    pick-case (Having l) (leb (needed l) 32) (λ t. refl)
    (λ t. pick-case (Having l) (ltb (hold (length l)) (needed l)) (λ u. refl) (λ u. refl))

members-grown : (i n : ℕ) (l : List ℕ) → members (grown i n l) ≡ l
unfolding grown
members-grown i n l = pick-case (Having l) (ltb (limit (n + 1)) (reach i)) (λ t. refl) (λ t. refl)

members-changed : (i : ℕ) (s : State) (l : List ℕ) (within : State) → members within ≡ l → members (changed i s l within) ≡ l
unfolding changed
members-changed i (narrow p m) l within e = pick-case (Having l) (leb (reach i) 32) (λ t. refl) (λ t. members-grown _ _ _)
members-changed i (wide m) l within e = pick-case (Having l) (ltb (needed m) (reach i)) (λ t. members-grown _ _ _) (λ t. e)
members-changed i (sparse m) l within e = refl

pub members-inserted : (i : ℕ) (s : State) → members (inserted i s) ≡ insert i (members s)
unfolding inserted
members-inserted i s = members-changed i s _ (wide _) refl

pub members-toggled : (i : ℕ) (s : State) → members (toggled i s) ≡ toggle i (members s)
unfolding toggled
members-toggled i s =
    members-changed i s _ _ (pick-case (Having (toggle i (members s))) (has (members s) i) (λ t. members-settle _) (λ t. refl))

members-without : (i : ℕ) (s : State) → members (without i s) ≡ remove i (members s)
unfolding without
members-without i (narrow p m) = refl
members-without i (wide m) = members-settle (remove i m)
members-without i (sparse m) = refl

pub members-removed : (i : ℕ) (s : State) → Ascending (members s) → members (removed i s) ≡ remove i (members s)
unfolding removed
members-removed i s f =
    pick-case (Having (remove i (members s))) (has (members s) i) (λ t. members-without i s) (λ t. sym (remove_absent i (members s) f t))

pub members-cleared : (s : State) → members (cleared s) ≡ []
unfolding cleared
members-cleared (narrow p m) = refl
members-cleared (wide m) = refl
members-cleared (sparse m) = refl

members_dense : (p c s n : ℕ) (l : List ℕ) → members (xored_dense p c s n l) ≡ l
unfolding xored_dense
members_dense p c s n l =
    pick-case (Having l) (leb p 32 && leb s 32) (λ t. refl)
    (λ t. pick-case (Having l) (ltb p s && ltb (limit (c + n)) s) (λ u. refl) (λ u. members-settle l))

pub members-xored : (s : State) (o : Operand) → members (xored s o) ≡ difference (members s) o.members
unfolding xored
members-xored (narrow p m) o = members_dense _ _ _ _ _
members-xored (wide m) o = members_dense _ _ _ _ _
members-xored (sparse m) o = pick-case (Having (difference m o.members)) (turns m o) (λ t. members_dense _ _ _ _ _) (λ t. refl)

-- ---- a set leaves sparse only by clear or by rule (a)

pub sparse-inserted : (i : ℕ) (s : State) → is_sparse s ≡ true → is_sparse (inserted i s) ≡ true
unfolding inserted changed
sparse-inserted i (narrow p m) e = clash (sym e)
sparse-inserted i (wide m) e = clash (sym e)
sparse-inserted i (sparse m) e = refl

pub sparse-toggled : (i : ℕ) (s : State) → is_sparse s ≡ true → is_sparse (toggled i s) ≡ true
unfolding toggled changed
sparse-toggled i (narrow p m) e = clash (sym e)
sparse-toggled i (wide m) e = clash (sym e)
sparse-toggled i (sparse m) e = refl

pub sparse-removed : (i : ℕ) (s : State) → is_sparse s ≡ true → is_sparse (removed i s) ≡ true
unfolding removed without
sparse-removed i (narrow p m) e = clash (sym e)
sparse-removed i (wide m) e = clash (sym e)
sparse-removed i (sparse m) e = pick-case (λ u. is_sparse u ≡ true) (has m i) (λ t. refl) (λ t. refl)

-- and then the operand has no fewer members
pub xored-leaves : (s : State) (o : Operand) → is_sparse s ≡ true → is_sparse (xored s o) ≡ false → length (members s) ≤ length o.members
unfolding xored turns
xored-leaves (narrow p m) o e = clash (sym e)
xored-leaves (wide m) o e = clash (sym e)
xored-leaves (sparse m) o e =
    let n = length o.members in
    let few = leb (length m) n in
    let near = leb (max o.span (needed m)) (limit (n - length m)) in
    pick-case (λ u. is_sparse u ≡ false → length m ≤ n) (turns m o)
    (λ t h. leb-true (length m) n (and_parts few near (and_parts (not o.walked) (few && near) t).1).0) (λ t h. clash h)

-- ---- toggling turns on what is off, and off what is on

pub toggled_inserts : (i : ℕ) (s : State) → Ascending (members s) → has (members s) i ≡ false → toggled i s ≡ inserted i s
unfolding toggled inserted
toggled_inserts i s f h = rw (h, toggle_inserts i (members s) f h)

pub toggled_removes : {W K : ℕ} (i : ℕ) (s : State) → Lawful W K s → has (members s) i ≡ true → toggled i s ≡ removed i s
unfolding toggled changed reach removed without Fits
toggled_removes i (narrow p m) g h =
    let low = needed-has m g.ascending i h in
    let same : max p (i / 64 + 1) ≡ p = omega (arith, g.fits) in
    rw (le-leb (i / 64 + 1) 32 (omega (arith, g.fits)), h, same, toggle_removes i m g.ascending h)
toggled_removes i (wide m) g h = rw (le-ltb (needed m) (i / 64 + 1) (needed-has m g.ascending i h), h, toggle_removes i m g.ascending h)
toggled_removes i (sparse m) g h = rw (h, toggle_removes i m g.ascending h)

-- ---- lawful states

-- what `Fits` says of a state whatever the words and keys are
abbrev Shaped : State → Type 0
Shaped (narrow p l) = (needed l ≤ p) × (p ≤ 32)
Shaped (wide l) = (32 < needed l) × (needed l ≤ 4 * length l)
Shaped (sparse l) = Unit

shaped : {W K : ℕ} (s : State) → Lawful W K s → Shaped s
unfolding Fits
shaped (narrow p l) g = g.fits
shaped (wide l) g = (g.fits.0, g.fits.2)
shaped (sparse l) g = tt

unrefused : (n : ℕ) (t : Bool) → pick t 0 (suc n) ≡ 0 → t ≡ true
unrefused n true e = refl
unrefused n false e = absurd (omega arith)

-- and the rest of it is what is measured
shaped-fits : (W K : ℕ) (s : State) → Shaped s → (measured W K s).number ≡ 0 → Fits W K s
unfolding Fits measured refusal
shaped-fits W K (narrow p l) h e = h
shaped-fits W K (wide l) h e = (h.0, leb-true (needed l) W (unrefused 3 (leb (needed l) W) e), h.1)
shaped-fits W K (sparse l) h e = leb-true (length l) K (unrefused 4 (leb (length l) K) e)

lawful : {W K : ℕ} {l : List ℕ} (s : State) → members s ≡ l → Ascending l → Below (2 ^ 32) l → Shaped s → (measured W K s).number ≡ 0
    → Lawful W K s
lawful s e f h g fit = record { ascending = rw e f; below = rw e h; fits = shaped-fits _ _ s g fit }

settle-shaped : (l : List ℕ) → Shaped (settle l)
unfolding settle hold
settle-shaped l =
    pick-case Shaped (leb (needed l) 32) (λ t. (omega arith, omega (arith, leb-true)))
    (λ t. pick-case Shaped (ltb (hold (length l)) (needed l)) (λ u. tt) (λ u. (omega (arith, leb-false), omega (arith, leb-false, ltb-false))))

pub settle-lawful : (W K : ℕ) (l : List ℕ) → Ascending l → Below (2 ^ 32) l → (measured W K (settle l)).number ≡ 0 → Lawful W K (settle l)
settle-lawful W K l f h fit = lawful (settle l) (members-settle l) f h (settle-shaped l) fit

-- ---- one index

-- an index past every member, so that it is one more
grown-shaped : (i : ℕ) (m : List ℕ) → Ascending m → 32 < reach i → needed m < reach i → Shaped (grown i (length m) (insert i m))
unfolding grown reach limit
grown-shaped i m f h past =
    let most = needed-insert i m f in
    let more = rw (needed-past m f i (omega arith)) at (length-insert i m f) in
    pick-case Shaped (ltb (limit (length m + 1)) (reach i)) (λ t. tt)
    (λ t. (omega arith, omega (arith, ltb-false)))

inserted-shaped : (i : ℕ) (s : State) → Ascending (members s) → Shaped s → Shaped (inserted i s)
unfolding inserted changed reach
inserted-shaped i (narrow p m) f h =
    pick-case Shaped (leb (reach i) 32) (λ t. (omega (arith, needed-insert i m f), omega (arith, leb-true)))
    (λ t. grown-shaped i m f (omega (arith, leb-false)) (omega (arith, leb-false)))
inserted-shaped i (wide m) f h =
    let most = needed-insert i m f in
    pick-case Shaped (ltb (needed m) (reach i)) (λ t. grown-shaped i m f (omega (arith, ltb-true)) (omega (arith, ltb-true)))
    (λ t. (omega arith, omega (arith, ltb-false, length-insert i m f)))
inserted-shaped i (sparse m) f h = tt

pub inserted-lawful : (i : ℕ) {W K : ℕ} {s : State} → Lawful W K s → i ≤ 4294967295 → (measured W K (inserted i s)).number ≡ 0
    → Lawful W K (inserted i s)
unfolding Below
inserted-lawful i {s = s} g h fit =
    let f = g.ascending in
    lawful (inserted i s) (members-inserted i s) (ascending-insert i _ f) (below-merge _ _ _ _ _ _ (single i) f (omega arith, tt) g.below)
    (inserted-shaped i s f (shaped s g)) fit

removed-shaped : (i : ℕ) (s : State) → Ascending (members s) → Shaped s → Shaped (removed i s)
unfolding removed without
removed-shaped i s f h = pick-case Shaped (has (members s) i) (λ t. go s f h) (λ t. h)
  where
    go : (s : State) → Ascending (members s) → Shaped s → Shaped (without i s)
    go (narrow p m) f h = (omega (arith, needed-remove i m f), h.1)
    go (wide m) f h = settle-shaped (remove i m)
    go (sparse m) f h = tt

pub removed-lawful : (i : ℕ) {W K : ℕ} {s : State} → Lawful W K s → (measured W K (removed i s)).number ≡ 0 → Lawful W K (removed i s)
removed-lawful i {s = s} g fit =
    let f = g.ascending in
    lawful (removed i s) (members-removed i s f) (ascending-remove i _ f) (below-remove i _ _ f g.below)
    (removed-shaped i s f (shaped s g)) fit

pub toggled-lawful : (i : ℕ) {W K : ℕ} {s : State} → Lawful W K s → i ≤ 4294967295 → (measured W K (toggled i s)).number ≡ 0
    → Lawful W K (toggled i s)
toggled-lawful i {W} {K} {s} g h = go (has (members s) i) refl
  where
    go : (t : Bool) → has (members s) i ≡ t → (measured W K (toggled i s)).number ≡ 0 → Lawful W K (toggled i s)
    go true e = rw (toggled_removes i s g e) (removed-lawful i g)
    go false e = rw (toggled_inserts i s g.ascending e) (inserted-lawful i g h)

pub cleared-lawful : {W K : ℕ} {s : State} → Lawful W K s → Lawful W K (cleared s)
unfolding cleared Fits needed From Below
cleared-lawful {s = narrow p m} g = record { ascending = tt; below = tt; fits = (omega arith, g.fits.1) }
cleared-lawful {s = wide m} g = record { ascending = tt; below = tt; fits = (omega arith, omega arith) }
cleared-lawful {s = sparse m} g = record { ascending = tt; below = tt; fits = (omega arith, omega arith) }

-- ---- XOR

-- members as a set has them, within the span
pub record LawfulOperand (o : Operand) : Type 0 where
  pub ascending : Ascending o.members
  pub below : Below (2 ^ 32) o.members
  pub covered : needed o.members ≤ o.span

covering : {W K : ℕ} {s : State} → Lawful W K s → needed (members s) ≤ span s
unfolding Fits
covering {s = narrow p l} g = g.fits.0
covering {s = wide l} g = omega arith
covering {s = sparse l} g = omega arith

pub alone-lawful : {W K : ℕ} {o : State} → Lawful W K o → LawfulOperand (alone o)
unfolding alone
alone-lawful g = record { ascending = g.ascending; below = g.below; covered = covering g }

fused-lawful : {W K W' K' : ℕ} (left right both : Bool) (t : State) {o p : State} (s : ℕ) → Lawful W K o → Lawful W' K' p
    → needed (merge left right both (members o) (members p)) ≤ s
    → LawfulOperand (fused t o p s (merge left right both (members o) (members p)))
unfolding fused
fused-lawful left right both t {o} {p} s g k h =
    record {
      ascending = from-merge _ _ _ _ _ _ g.ascending k.ascending;
      below = below-merge _ _ _ _ _ _ g.ascending k.ascending g.below k.below;
      covered = pick-case (λ n. needed (merge left right both (members o) (members p)) ≤ n) (is_narrow t && (is_narrow o && is_narrow p))
          (λ e. h) (λ e. omega arith);
    }

pub shared-lawful : {W K W' K' : ℕ} (t : State) {o p : State} → Lawful W K o → Lawful W' K' p → LawfulOperand (shared t o p)
unfolding shared
shared-lawful t {o} {p} g k =
    fused-lawful false false true t (min (span o) (span p)) g k
    (omega (arith, needed-intersection _ _ g.ascending k.ascending, covering g, covering k))

pub unshared-lawful : {W K W' K' : ℕ} (t : State) {o p : State} → Lawful W K o → Lawful W' K' p → LawfulOperand (unshared t o p)
unfolding unshared
unshared-lawful t {o} {p} g k =
    fused-lawful true true false t (max (span o) (span p)) g k
    (omega (arith, needed-merge true true false _ _ g.ascending k.ascending, covering g, covering k))

dense_shaped : (p c s n : ℕ) (l : List ℕ) → needed l ≤ max p s → Shaped (xored_dense p c s n l)
unfolding xored_dense
dense_shaped p c s n l h =
    pick-case Shaped (leb p 32 && leb s 32)
    (λ t. let both = and_parts (leb p 32) (leb s 32) t in (h, omega (arith, leb-true)))
    (λ t. pick-case Shaped (ltb p s && ltb (limit (c + n)) s) (λ u. tt) (λ u. settle-shaped l))

xored-shaped : (s : State) (o : Operand) → Ascending (members s) → LawfulOperand o → Shaped s → Shaped (xored s o)
unfolding xored
xored-shaped s o f k = go s (needed-merge true true false (members s) o.members f k.ascending)
  where
    go : (s : State) → needed (difference (members s) o.members) ≤ max (needed (members s)) (needed o.members) → Shaped s → Shaped (xored s o)
    go (narrow p m) most h = dense_shaped _ _ _ _ _ (omega arith)
    go (wide m) most h = dense_shaped _ _ _ _ _ (omega arith)
    go (sparse m) most h = pick-case Shaped (turns m o) (λ t. dense_shaped _ _ _ _ _ (omega arith)) (λ t. tt)

pub xored-lawful : {W K : ℕ} {s : State} {o : Operand} → Lawful W K s → LawfulOperand o → (measured W K (xored s o)).number ≡ 0
    → Lawful W K (xored s o)
xored-lawful {s = s} {o = o} g k fit =
    let f = g.ascending in
    lawful (xored s o) (members-xored s o) (ascending-difference _ _ f k.ascending)
    (below-merge _ _ _ _ _ _ f k.ascending g.below k.below) (xored-shaped s o f k (shaped s g)) fit
