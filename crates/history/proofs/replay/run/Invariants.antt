use Rattle.std.proofs.Common.{IfSome}
use Rattle.history.specs.Replaying.{opening}
use Rattle.history.proofs.InputLaws.{LinesRead}
use Rattle.history.proofs.RunLaws.{UnderWay}
use Rattle.history.proofs.replay.run.Given as goal

-- a line is read and answered each turn
abbrev pub invariant-loop : goal.invariant-loop
invariant-loop g l = record {
  read : LinesRead (g.I.Read.remaining l.initial.input) (g.I.Read.remaining l.input) l.counter;
  answered : IfSome (g.I.Read.remaining l.initial.input) (UnderWay g.R.Replay.lends g.R.Replay.calls g.R.Replay.prints l.counter
      (opening l.initial.replay l.initial.state)
      (record { replay = l.replay; state = l.state; buffer0 = l.buffer0; buffer1 = l.buffer1; buffer2 = l.buffer2 })
      (g.W.Write.contents l.initial.out) (g.W.Write.contents l.out));
}
