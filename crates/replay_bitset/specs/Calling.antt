-- What a line's call leaves of all that it is made on. Assumes nothing.
use Rattle.std.specs.Prelude.{◌≡◌}
use Rattle.history.specs.Scenes.{Scene}
use Rattle.history.specs.States.{Followed}
use Rattle.history.specs.declared.line.Line.{Line}
use Rattle.bitset.specs.declared.BitSet.{BitSet}
use Rattle.bitset.specs.Calls.{Outcome}
use Rattle.replay_bitset.specs.declared.Bits.{Bits}
use Rattle.replay_bitset.specs.Replay.{call, listed, operand, with_header}

-- what the call leaves of the line's set, whose operands are over what they are lent
abbrev pub outcome : Line → Scene Bits BitSet → Outcome
outcome line s =
    let a = operand line s.state line.a s.first s.second in
    let b = operand line s.state line.b s.first s.second in
    call line s.state s.own a b s.replay.list.items

-- the buffers of the two other sets stay as they were
pub record Called (line : Line) (old new : Scene Bits BitSet) : Type 0 where
  pub state : Followed old.state (with_header old.state.sets line.set (outcome line old).bytes) (outcome line old).answer new.state
  pub own : new.own ≡ (outcome line old).bytes.words
  pub list : new.replay.list.items ≡ listed line old.replay.list.items
  pub first : new.first ≡ old.first
  pub second : new.second ≡ old.second
