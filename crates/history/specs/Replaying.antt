-- What replaying a history leaves and prints, by what a replay lends, by its calls and by its answers. Assumes nothing.
use Rattle.std.specs.Prelude.{◌≡◌, ℕ, zero, suc, ◌*◌, ◌/◌, Bool, true, false, min, cond, List, [], ◌++◌, length, take, drop, replicate, slice_index, slice_set, Option, Some, Result, Ok, Err, ◌==◌, if◌then◌else◌}
use Rattle.std.specs.Io.KnownBytes.{Appends}
use Rattle.history.specs.Lines.{line_of, following}
use Rattle.history.specs.Scenes.{Scene}
use Rattle.history.specs.declared.line.Line.{Line}
use Rattle.history.specs.declared.operation.Operation.{Operation}
use Rattle.history.specs.declared.operation.Operation.TheVariants.{New}
use Rattle.history.specs.declared.state.State.{State}

-- the line of a call after so many
unfoldable pub nth_call : ℕ → Line → Line
nth_call zero line = line
nth_call (suc n) line = following (nth_call n line)

-- so many calls, each on the number after the one before
unfoldable pub Calls : {R S : Type 0} → (Line → Scene R S → Scene R S → Type 0) → ℕ → Line → Scene R S → Scene R S → Type 0
Calls calls zero line old new = new ≡ old
Calls {R} {S} calls (suc n) line old new = (mid : Scene R S) × Calls calls n line old mid × calls (nth_call n line) mid new

unfoldable pub is_new : Result Operation ℕ → Bool
is_new (Ok New) = true
is_new (Ok _) = false
is_new (Err _) = false

-- the state that a line's calls start from: nothing is answered yet, and `new` has lent its set anew
abbrev pub begun : {S : Type 0} → (Line → ℕ) → Line → State S → State S
begun lends line s =
    record {
      sets = s.sets;
      lent = cond (is_new line.operation) (slice_set s.lent (min line.set 2) (lends line)) s.lent;
      answer = Ok 0;
    }

-- how much of its buffer a line's set is lent
abbrev pub room : {R S : Type 0} → (Line → ℕ) → Line → Scene R S → ℕ
room lends line old = min (slice_index (begun lends line old.state).lent (min line.set 2)) (length old.own)

-- what playing a line leaves, the scenes being over the whole buffer of its set
pub record Played {R S : Type 0} (lends : Line → ℕ) (calls : Line → Scene R S → Scene R S → Type 0) (line : Line) (old new : Scene R S) : Type 0 where
  pub called : Calls calls line.times line
      (record { replay = old.replay; state = begun lends line old.state; own = take (room lends line old) old.own; first = old.first; second = old.second })
      (record { replay = new.replay; state = new.state; own = take (room lends line old) new.own; first = new.first; second = new.second })
  pub kept : drop (room lends line old) new.own ≡ drop (room lends line old) old.own

-- and what it prints
abbrev pub answer_printed : {R S : Type 0} → (Line → ℕ) → (Line → State S → List ℕ → List ℕ) → Line → Scene R S → Scene R S → List ℕ
answer_printed lends prints line old new = prints (nth_call line.times line) new.state (take (room lends line old) new.own)

-- all that a replay keeps from line to line: its own, the state, and the buffers of the three sets
pub record Session (R S : Type 0) : Type 0 where
  pub replay : R
  pub state : State S
  pub buffer0 : List ℕ
  pub buffer1 : List ℕ
  pub buffer2 : List ℕ

-- a session before its first line
abbrev pub opening : {R S : Type 0} → R → State S → Session R S
opening replay state =
    record { replay = replay; state = state; buffer0 = replicate 8192 0; buffer1 = replicate 8192 0; buffer2 = replicate 8192 0 }

-- the scene of a line on one of the sets; one above 2 counts as 2
unfoldable pub scene_of : {R S : Type 0} → ℕ → Session R S → Scene R S
scene_of set s =
    if set == 0 then (record { replay = s.replay; state = s.state; own = s.buffer0; first = s.buffer1; second = s.buffer2 })
    else if set == 1 then (record { replay = s.replay; state = s.state; own = s.buffer1; first = s.buffer0; second = s.buffer2 })
    else (record { replay = s.replay; state = s.state; own = s.buffer2; first = s.buffer0; second = s.buffer1 })

-- what a line leaves of a session, and the output with its answer
pub record Answered {R S : Type 0} (lends : Line → ℕ) (calls : Line → Scene R S → Scene R S → Type 0) (prints : Line → State S → List ℕ → List ℕ)
    (text : List ℕ) (old new : Session R S) (before output : List ℕ) : Type 0 where
  pub line : Line
  pub said : line_of text ≡ Some line
  pub played : Played lends calls line (scene_of line.set old) (scene_of line.set new)
  pub printed : output ≡ before ++ answer_printed lends prints line (scene_of line.set old) (scene_of line.set new)

-- the first lines of an input, so many, one after another
unfoldable pub Replayed : {R S : Type 0} → (Line → ℕ) → (Line → Scene R S → Scene R S → Type 0) → (Line → State S → List ℕ → List ℕ)
    → ℕ → List ℕ → Session R S → Session R S → List ℕ → Type 0
Replayed lends calls prints zero bytes old new output = (new ≡ old) × (output ≡ [])
Replayed {R} {S} lends calls prints (suc n) bytes old new output =
    (mid : Session R S) × (before : List ℕ) × Replayed lends calls prints n bytes old mid before
    × Answered lends calls prints (take 31 (drop (31 * n) bytes)) mid new before output

-- a run over an input: each of its lines is answered, and a rest that is shorter than a line is not
pub record Ran {R S : Type 0} (lends : Line → ℕ) (calls : Line → Scene R S → Scene R S → Type 0) (prints : Line → State S → List ℕ → List ℕ)
    (bytes : List ℕ) (replay replay' : R) (state state' : State S) (contents contents' : Option (List ℕ)) : Type 0 where
  pub end : Session R S
  pub output : List ℕ
  pub replayed : Replayed lends calls prints (length bytes / 31) bytes (opening replay state) end output
  pub replay-is : replay' ≡ end.replay
  pub state-is : state' ≡ end.state
  pub printed : Appends contents contents' output
