-- What a call has answered, by its number. Assumes nothing.
use mathlib.Core.Path.{◌≡◌, sym, ◌∙◌}
use Prim.Native.Nat.{ℕ}
use native.Mathlib.Omega.{arith}
use borrow.Author.Tests.{ne_eqb}
use Rattle.answers.specs.declared.Refusal.{Refusal}
use Rattle.answers.specs.declared.Refusal.TheVariants.{Length, Unsound, Index, Span, Room}
use Rattle.answers.specs.Answers.{Answer, answered, number}

-- two outcomes that a contract allows coincide
pub coincide : {A : Type 0} {given one other : A} → one ≡ given → other ≡ given → one ≡ other
coincide p q = p ∙ sym q

-- no refusal's number is that of "served"
pub number_some : (refusal : Refusal) → number refusal ≡ 0 → ⊥
unfolding number
number_some Length e = omega arith
number_some Unsound e = omega arith
number_some Index e = omega arith
number_some Span e = omega arith
number_some Room e = omega arith

pub refused-answer : (v : ℕ) {n m : ℕ} {r : Answer} → n ≡ m → (n ≡ 0 → ⊥) → r ≡ record { number = n; value = 0 } → r ≡ answered m v
unfolding answered
refused-answer v {m = m} e h q = rw (q, e, ne_eqb m 0 (λ z. h (e ∙ z)))

pub served-answer : {n v value : ℕ} {r : Answer} → n ≡ 0 → value ≡ v → r ≡ record { number = 0; value = value } → r ≡ answered n v
unfolding answered
served-answer e a q = rw (q, a, e)
