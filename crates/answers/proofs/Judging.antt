-- Several sets are judged as each by itself. Assumes nothing.
use mathlib.Core.Path.{◌≡◌, refl, sym, ◌∙◌}
use mathlib.Core.Logic.{◌⊎◌, inl, inr}
use mathlib.Core.Bool.{Bool, true, false}
use mathlib.Core.List.{List, [], ◌∷◌, map}
use Prim.Native.Nat.{ℕ}
use mathlib.Core.Bool.{◌&&◌}
use Rattle.std.specs.List.{list_all}
use Rattle.std.proofs.lemmas.List.Folds.{list_all-map}
use native.Mathlib.Omega.{arith}
use borrow.Author.Tests.{eq-eqb, ne_eqb}
use Rattle.words.specs.Sets.{pick}
use Rattle.words.proofs.Cases.{same_or_not, two_tests}
use Rattle.answers.specs.Judging.{Judged, ranged, sounded, verdict, earlier}

-- sets are in range, and sound, where all are
pub ranged_all : (sets : List Judged) (n : ℕ) → ranged sets n ≡ pick (list_all (λ s. s.in_range) sets) n 1
unfolding ranged
ranged_all [] n = refl
ranged_all (s ∷ sets) n = rw (ranged_all sets n) (go s.in_range)
  where
    go : (r : Bool) → pick r (pick (list_all (λ s. s.in_range) sets) n 1) 1 ≡ pick (r && list_all (λ s. s.in_range) sets) n 1
    go true = refl
    go false = refl

pub sounded_all : (sets : List Judged) (n : ℕ) → sounded sets n ≡ pick (list_all (λ s. s.sound) sets) n 2
unfolding sounded
sounded_all [] n = refl
sounded_all (s ∷ sets) n = rw (sounded_all sets n) (go s.sound)
  where
    go : (r : Bool) → pick r (pick (list_all (λ s. s.sound) sets) n 2) 2 ≡ pick (r && list_all (λ s. s.sound) sets) n 2
    go true = refl
    go false = refl

pub verdict_all : {A : Type 0} (judged : A → Judged) (sets : List A)
    → verdict (map judged sets) ≡ pick (list_all (λ s. (judged s).in_range) sets) (pick (list_all (λ s. (judged s).sound) sets) 0 2) 1
unfolding verdict
verdict_all judged sets =
    ranged_all (map judged sets) _ ∙ rw (sounded_all (map judged sets) 0, list_all-map (λ s. s.in_range) judged sets, list_all-map (λ s. s.sound) judged sets)

-- a set that nothing refuses
pub record Passed (s : Judged) : Type 0 where
  pub in_range : s.in_range ≡ true
  pub sound : s.sound ≡ true

-- many sets are in range or not, and sound or not, as one
pub ranged-is : (sets : List Judged) → (t : Bool) × ((n : ℕ) → ranged sets n ≡ pick t n 1)
unfolding ranged
ranged-is [] = (true, λ n. refl)
ranged-is (s ∷ sets) = go s.in_range (ranged-is sets)
  where
    go : (r : Bool) → (t : Bool) × ((n : ℕ) → ranged sets n ≡ pick t n 1) → (t : Bool) × ((n : ℕ) → pick r (ranged sets n) 1 ≡ pick t n 1)
    go true rest = rest
    go false rest = (false, λ n. refl)

pub sounded-is : (sets : List Judged) → (t : Bool) × (sounded sets 0 ≡ pick t 0 2)
unfolding sounded
sounded-is [] = (true, refl)
sounded-is (s ∷ sets) = go s.sound (sounded-is sets)
  where
    go : (r : Bool) → (t : Bool) × (sounded sets 0 ≡ pick t 0 2) → (t : Bool) × (pick r (sounded sets 0) 2 ≡ pick t 0 2)
    go true rest = rest
    go false rest = (false, refl)

pub verdict_more : (s : Judged) (sets : List Judged) → verdict (s ∷ sets) ≡ earlier (verdict (s ∷ [])) (verdict sets)
unfolding verdict ranged sounded earlier
verdict_more s sets =
    let r = ranged-is sets in
    let u = sounded-is sets in
    rw (r.1 (pick s.sound (sounded sets 0) 2), r.1 (sounded sets 0), u.1) (go s.in_range s.sound r.0 u.0)
  where
    go : (r s t u : Bool) → pick r (pick t (pick s (pick u 0 2) 2) 1) 1 ≡ earlier (pick r (pick s 0 2) 1) (pick t (pick u 0 2) 1)
    go =
        two_tests (λ r s. (t u : Bool) → pick r (pick t (pick s (pick u 0 2) 2) 1) 1 ≡ earlier (pick r (pick s 0 2) 1) (pick t (pick u 0 2) 1))
        (two_tests _ refl refl refl refl) (two_tests _ refl refl refl refl) (two_tests _ refl refl refl refl) (two_tests _ refl refl refl refl)

-- where nothing refuses all of them, nothing refuses one
pub earlier-none : (m n : ℕ) → earlier m n ≡ 0 → (m ≡ 0) × (n ≡ 0)
unfolding earlier
earlier-none m n h = go (same_or_not m 0) (same_or_not n 0)
  where
    go : (m ≡ 0) ⊎ (m ≡ 0 → ⊥) → (n ≡ 0) ⊎ (n ≡ 0 → ⊥) → (m ≡ 0) × (n ≡ 0)
    go (inl e) other = (e, rw (eq-eqb m 0 e) at h)
    go (inr d) (inl e) = absurd (d (rw (ne_eqb m 0 d, eq-eqb n 0 e) at h))
    go (inr d) (inr e) = absurd (omega (arith, rw (ne_eqb m 0 d, ne_eqb n 0 e) at h))

-- one set is refused by nothing exactly when it has passed
pub passed_none : {s : Judged} → Passed s → verdict (s ∷ []) ≡ 0
unfolding verdict ranged sounded
passed_none p = rw (p.in_range, p.sound)

pub none_passed : (s : Judged) → verdict (s ∷ []) ≡ 0 → Passed s
unfolding verdict ranged sounded
none_passed s h = go s.in_range refl s.sound refl h
  where
    go : (r : Bool) → s.in_range ≡ r → (t : Bool) → s.sound ≡ t → ◌≡◌ {A = ℕ} (pick r (pick t 0 2) 1) 0 → Passed s
    go true e true d z = record { in_range = e; sound = d }
    go true e false d z = absurd (omega arith)
    go false e t d z = absurd (omega arith)

-- and several, when each has
pub more_none : {s : Judged} (sets : List Judged) → Passed s → verdict sets ≡ 0 → verdict (s ∷ sets) ≡ 0
unfolding earlier
more_none {s} sets p e = verdict_more s sets ∙ rw (passed_none p, e)

pub none_more : (s : Judged) (sets : List Judged) → verdict (s ∷ sets) ≡ 0 → Passed s × (verdict sets ≡ 0)
none_more s sets e = let parts = earlier-none _ _ (sym (verdict_more s sets) ∙ e) in (none_passed s parts.0, parts.1)
