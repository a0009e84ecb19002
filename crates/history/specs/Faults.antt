-- Why a line has no answer, by the numbers that are printed. Assumes nothing.
use Rattle.std.specs.Prelude.{ℕ, Result, Ok, Err}
use Rattle.answers.specs.Answers.{Answer, number as refusal_number, answer_of as answered_of}
use Rattle.answers.specs.declared.Refusal.{Refusal}
use Rattle.history.specs.declared.fault.Fault.{Fault}
use Rattle.history.specs.declared.fault.Fault.TheVariants.{Refused, Unknown}

-- document 01's number of a refusal; 6, which isn't among them, where the set doesn't have the operation
unfoldable pub number : Fault → ℕ
number (Refused refusal) = refusal_number refusal
number Unknown = 6

-- the answer that a result stands for; a fault has the value 0
unfoldable pub answer_of : Result ℕ Fault → Answer
unfolding number
answer_of (Ok value) = record { number = 0; value = value }
answer_of (Err fault) = record { number = number fault; value = 0 }

-- the answer that a count stands for
abbrev pub count_of : Result ℕ Refusal → Answer
count_of = answered_of (λ n. n)

-- the number of a result: 0 where it has no fault
unfoldable pub number_of : {A : Type 0} → Result A Fault → ℕ
unfolding number
number_of (Ok value) = 0
number_of (Err fault) = number fault
