-- Modes change nothing of members: membership after each rule is that of the set rule, and a set is called empty exactly when it has
-- no member, in every mode. Assumes nothing.
use mathlib.Core.Path.{◌≡◌, refl, sym, ap, ◌∙◌}
use mathlib.Core.Bool.{false, not, ◌&&◌, ◌||◌, xor}
use mathlib.Core.List.{List, [], ◌∷◌}
use Prim.Native.Nat.{ℕ, suc}
use native.Mathlib.Omega.{arith}
use lib.Dec.{eqb}
use lib.ListN.{length}
use borrow.Author.Tests.{ne_eqb}
use Rattle.words.specs.Sets.{Ascending, has}
use Rattle.words.proofs.Cases.{clash}
use Rattle.words.proofs.SetLaws.{has_head, has-insert, has-remove, has-toggle, has-difference, has-intersection}
use Rattle.answers.specs.Answers.{truth}
use Rattle.adaptive_rules.specs.States.{State, members, count}
use Rattle.adaptive_rules.specs.Rules.{inserted, removed, toggled, cleared, Operand, alone, fused, shared, unshared, xored}
use Rattle.adaptive_rules.specs.Calls.{emptiness, value}
use Rattle.adaptive_rules.proofs.RuleLaws.{members-inserted, members-toggled, members-removed, members-cleared, members-xored}

module _ (s : State) (f : Ascending (members s)) (j : ℕ) where
  pub has-inserted : (i : ℕ) → has (members (inserted i s)) j ≡ (eqb i j || has (members s) j)
  has-inserted i = rw (members-inserted i s) (has-insert i (members s) j f)

  pub has-removed : (i : ℕ) → has (members (removed i s)) j ≡ (not (eqb i j) && has (members s) j)
  has-removed i = rw (members-removed i s f) (has-remove i (members s) j f)

  pub has-toggled : (i : ℕ) → has (members (toggled i s)) j ≡ xor (eqb i j) (has (members s) j)
  has-toggled i = rw (members-toggled i s) (has-toggle i (members s) j f)

  pub has-xored : (o : Operand) → Ascending o.members → has (members (xored s o)) j ≡ xor (has (members s) j) (has o.members j)
  has-xored o g = rw (members-xored s o) (has-difference (members s) o.members j f g)

pub has-cleared : (s : State) (j : ℕ) → has (members (cleared s)) j ≡ false
unfolding has
has-cleared s j = rw (members-cleared s)

-- and the operands are what their names say
pub has-alone : (o : State) (j : ℕ) → has (alone o).members j ≡ has (members o) j
unfolding alone
has-alone o j = refl

pub has-shared : (t o p : State) (j : ℕ) → Ascending (members o) → Ascending (members p)
    → has (shared t o p).members j ≡ (has (members o) j && has (members p) j)
unfolding shared fused
has-shared t o p j f g = has-intersection (members o) (members p) j f g

pub has-unshared : (t o p : State) (j : ℕ) → Ascending (members o) → Ascending (members p)
    → has (unshared t o p).members j ≡ xor (has (members o) j) (has (members p) j)
unfolding unshared fused
has-unshared t o p j f g = has-difference (members o) (members p) j f g

-- called empty, a set has no member; without members it is called empty
pub empty_none : (s : State) → value emptiness s ≡ 1 → (j : ℕ) → has (members s) j ≡ false
unfolding value truth has
empty_none s e j = go (members s) refl
  where
    go : (l : List ℕ) → members s ≡ l → has l j ≡ false
    go [] d = refl
    go (x ∷ l) d = absurd (omega (arith, rw (d, ne_eqb (suc (length l)) 0 (λ q. omega arith)) at e))

pub none_empty : (s : State) → ((j : ℕ) → has (members s) j ≡ false) → value emptiness s ≡ 1
unfolding value truth
none_empty s h = go (members s) refl
  where
    go : (l : List ℕ) → members s ≡ l → truth (eqb (count s) 0) ≡ 1
    go [] d = rw d
    go (x ∷ l) d = clash (sym (has_head x l) ∙ ap (λ (r : List ℕ). has r x) (sym d) ∙ h x)
