-- What a call answers: document 01's numbers and values, and what stands for them in code. Assumes nothing.
use Rattle.std.specs.Prelude.{Bool, ℕ, eqb, Result, Ok, Err}
use Rattle.words.specs.Sets.{pick}
use Rattle.answers.specs.declared.Refusal.{Refusal}
use Rattle.answers.specs.declared.Refusal.TheVariants.{Length, Unsound, Index, Span, Room}

-- a number of document 01's table, and a value
pub record Answer : Type 0 where
  pub number : ℕ
  pub value : ℕ

-- "Yes is 1"
unfoldable pub truth : Bool → ℕ
truth t = pick t 1 0

-- an answer with value v, if no number refuses it
unfoldable pub answered : ℕ → ℕ → Answer
answered n v = record { number = n; value = pick (eqb n 0) v 0 }

-- the table's number of a refusal
unfoldable pub number : Refusal → ℕ
number Length = 1
number Unsound = 2
number Index = 3
number Span = 4
number Room = 5

-- the table's number of a result: 0 is "served"
unfoldable pub number_of : {A : Type 0} → Result A Refusal → ℕ
unfolding number
number_of (Ok x) = 0
number_of (Err refusal) = number refusal

-- the answer that a result stands for, by the value of what is served; a refusal "gives back value 0"
unfoldable pub answer_of : {A : Type 0} → (A → ℕ) → Result A Refusal → Answer
unfolding number
answer_of value (Ok x) = record { number = 0; value = value x }
answer_of value (Err refusal) = record { number = number refusal; value = 0 }
