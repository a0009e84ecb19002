-- What a replay keeps from line to line. Assumes nothing.
use Rattle.std.specs.Prelude.{◌≡◌, ℕ, ◌+◌, ◌%◌, ◌^◌, min, List, get_or, ◌==◌, if◌then◌else◌}
use Rattle.answers.specs.Answers.{Answer}
use Rattle.history.specs.Faults.{answer_of}
use Rattle.history.specs.declared.state.State.{State}

-- the header of one of the three sets; one above 2 counts as 2
unfoldable pub header_of : {S : Type 0} → S → State S → ℕ → S
header_of other s set = get_or s.sets (min set 2) other

-- the answer to the calls so far and one more: the sum of their values, as a u64 has it, or the number of the last that has one
unfoldable pub added : Answer → Answer → Answer
added sum one =
    if one.number == 0 then record sum { value = if sum.number == 0 then (sum.value + one.value) % 2 ^ 64 else 0 } else record one { value = 0 }

-- the state after a call that leaves these headers and gives one answer
pub record Followed {S : Type 0} (old : State S) (headers : List S) (one : Answer) (new : State S) : Type 0 where
  pub sets : new.sets ≡ headers
  pub lent : new.lent ≡ old.lent
  pub answer : answer_of new.answer ≡ added (answer_of old.answer) one
