-- What the calls of a line are made on. Assumes nothing.
use Rattle.std.specs.Prelude.{ℕ, List}
use Rattle.history.specs.declared.state.State.{State}

-- the replay's own, the state, what the line's set is lent, and the buffers of the two other sets, the lower one's first
pub record Scene (R S : Type 0) : Type 0 where
  pub replay : R
  pub state : State S
  pub own : List ℕ
  pub first : List ℕ
  pub second : List ℕ
