use Rattle.std.proofs.Common.{◌≡◌}
use Rattle.history.specs.Replaying.{Calls, begun, nth_call}
use Rattle.history.proofs.replay.play.Given as goal

-- so many calls have been made of those that the line begins with
abbrev pub invariant-loop : goal.invariant-loop
invariant-loop g l = record {
  begin : l.initial.state ≡ begun g.R.Replay.lends l.initial.line l.fn.state;
  line : l.line ≡ nth_call l.counter l.initial.line;
  called : Calls g.R.Replay.calls l.counter l.initial.line
      (record { replay = l.initial.replay; state = l.initial.state; own = l.initial.own; first = l.initial.first; second = l.initial.second })
      (record { replay = l.replay; state = l.state; own = l.own; first = l.first; second = l.second });
}
