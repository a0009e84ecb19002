-- Taking numbers and tests by cases. Assumes nothing.
use mathlib.Core.Path.{◌≡◌, refl, sym, ap}
use mathlib.Core.Logic.{◌⊎◌, inl, inr, ⊎_elim}
use mathlib.Core.Bool.{Bool, true, false, ◌&&◌, true≢false}
use Prim.Native.Nat.{ℕ, zero, suc, ◌≤◌, ◌<◌}
use native.Mathlib.Omega.{arith}
use Rattle.words.specs.Sets.{pick}

-- a before b, at it, or after it
pub three_ways : (a b : ℕ) → (a < b) ⊎ ((a ≡ b) ⊎ (b < a))
three_ways zero zero = inr (inl refl)
three_ways zero (suc b) = inl (omega arith)
three_ways (suc a) zero = inr (inr (omega arith))
three_ways (suc a) (suc b) =
    ⊎_elim (λ l. inl (omega arith)) (λ r. inr (⊎_elim (λ e. inl (ap suc e)) (λ l. inr (omega arith)) r)) (three_ways a b)

pub below_or_not : (a b : ℕ) → (a < b) ⊎ (b ≤ a)
below_or_not a b = ⊎_elim inl (λ r. inr (⊎_elim (λ e. omega arith) (λ l. omega arith) r)) (three_ways a b)

pub same_or_not : (a b : ℕ) → (a ≡ b) ⊎ (a ≡ b → ⊥)
same_or_not a b = ⊎_elim (λ l. inr (λ e. omega arith)) (λ r. ⊎_elim inl (λ l. inr (λ e. omega arith)) r) (three_ways a b)

-- a test does not answer both
pub clash : {A : Type 0} → true ≡ false → A
clash e = absurd (true≢false e)

-- one that cannot say yes says no
pub never : (t : Bool) → (t ≡ true → ⊥) → t ≡ false
never true n = absurd (n refl)
never false n = refl

-- of two tests that hold together, each holds
pub and_parts : (s t : Bool) → (s && t) ≡ true → (s ≡ true) × (t ≡ true)
and_parts true t h = (refl, h)
and_parts false t h = clash (sym h)

-- what holds of a where a test says yes, and of b where it says no, holds of the one that it picks
pub pick-case : {A : Type 0} {a b : A} (P : A → Type 0) (t : Bool) → (t ≡ true → P a) → (t ≡ false → P b) → P (pick t a b)
pick-case P true held failed = held refl
pick-case P false held failed = failed refl

-- a law of two tests, by its four cases
pub two_tests : (P : Bool → Bool → Type 0) → P true true → P true false → P false true → P false false → (s t : Bool) → P s t
two_tests P a b c d true true = a
two_tests P a b c d true false = b
two_tests P a b c d false true = c
two_tests P a b c d false false = d
