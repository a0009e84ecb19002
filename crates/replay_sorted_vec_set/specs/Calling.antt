-- What a line's call leaves of all that it is made on. Assumes nothing.
use Rattle.std.specs.Prelude.{◌≡◌, ℕ, List, ◌++◌, length, min, take, drop, slice_index}
use Rattle.history.specs.Lines.{lower, upper}
use Rattle.history.specs.Scenes.{Scene}
use Rattle.history.specs.States.{Followed}
use Rattle.history.specs.declared.line.Line.{Line}
use Rattle.history.specs.declared.state.State.{State}
use Rattle.sorted_vec_set.specs.declared.SortedVecSet.{SortedVecSet}
use Rattle.replay_sorted_vec_set.specs.declared.Sorted.{Sorted}
use Rattle.replay_sorted_vec_set.specs.Replay.{Made, making}

-- how much of its buffer a set is lent
abbrev pub lent : State SortedVecSet → ℕ → List ℕ → ℕ
lent s place buffer = min (slice_index s.lent (min place 2)) (length buffer)

-- what the call leaves of what the three sets are lent
abbrev pub made : Line → Scene Sorted SortedVecSet → Made
made line s =
    let first = take (lent s.state (lower line.set) s.first) s.first in
    let second = take (lent s.state (upper line.set) s.second) s.second in
    making line s.state s.own first second

-- beyond what they are lent, the buffers of the two other sets stay as they were
pub record Called (line : Line) (old new : Scene Sorted SortedVecSet) : Type 0 where
  pub state : Followed old.state (made line old).sets (made line old).answer new.state
  pub own : new.own ≡ (made line old).elements
  pub first : new.first ≡ (made line old).first ++ drop (lent old.state (lower line.set) old.first) old.first
  pub second : new.second ≡ (made line old).second ++ drop (lent old.state (upper line.set) old.second) old.second
