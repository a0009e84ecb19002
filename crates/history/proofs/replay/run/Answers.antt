use Rattle.std.proofs.Common.{◌-◌, ◌^◌, ◌≤◌, arith}
use Rattle.history.specs.Replaying.{Session, opening, scene_of}
use Rattle.history.proofs.InputLaws.{read_none, read_one_more, read_all, read_to_the_end}
use Rattle.history.proofs.RunLaws.{Turned, scene_same, scene_two, turned, way_begin, way_on, way_end, way_too_long}
use Rattle.history.proofs.replay.run.Goals as goal
use Rattle.history.proofs.replay.run.Goals.{in-0+in_ok-play-in-0, in-1+in_ok-play-in-1, in_default-set+in_ok-play-in_default-set}

pub loop-init : goal.loop-init
loop-init g c = record { read = read_none _; answered = way_begin g.R.Replay.lends g.R.Replay.calls g.R.Replay.prints (opening c.args.replay.now c.args.state.now) (g.W.Write.contents c.args.out.now) (g.I.Read.remaining c.args.input.now) }

pub loop-preserved : goal.loop-preserved
unfolding scene_of
loop-preserved g c =
    let lends = g.R.Replay.lends in
    let calls = g.R.Replay.calls in
    let prints = g.R.Replay.prints in
    let line = c.in-Some.line in
    let old = c.loop in
    let new = c.match-line in
    let before : Session g.row.R.Denot g.row.R-Set.Denot = record { replay = old.replay; state = old.state; buffer0 = old.buffer0; buffer1 = old.buffer1; buffer2 = old.buffer2 } in
    let after : Session g.row.R.Denot g.row.R-Set.Denot = record { replay = new.replay; state = new.state; buffer0 = new.buffer0; buffer1 = new.buffer1; buffer2 = new.buffer2 } in
    let turn : Turned lends calls prints line before after (g.W.Write.contents old.out) (g.W.Write.contents new.out) =
    elim c.match-line.branch [
      | in-0+in_ok-play-in-0 w ↦ rw (w.replay-is, w.state-is, w.out-is, w.buffer0-is, w.buffer1-is, w.buffer2-is)
          (turned lends calls prints line before _ _ _ 0 (scene_same w.in-0.is) w.in_ok-play-in-0.ensures.left w.in_ok-play-in-0.ensures.printed)
      | in-1+in_ok-play-in-1 w ↦ rw (w.replay-is, w.state-is, w.out-is, w.buffer0-is, w.buffer1-is, w.buffer2-is)
          (turned lends calls prints line before _ _ _ 1 (scene_same w.in-1.is) w.in_ok-play-in-1.ensures.left w.in_ok-play-in-1.ensures.printed)
      | in_default-set+in_ok-play-in_default-set w ↦ rw (w.replay-is, w.state-is, w.out-is, w.buffer0-is, w.buffer1-is, w.buffer2-is)
          (turned lends calls prints line before _ _ _ 2 (scene_two {set = line.set} (λ e. omega arith) (λ e. omega arith))
          w.in_ok-play-in_default-set.ensures.left w.in_ok-play-in_default-set.ensures.printed)
    ] in
    record {
      read = read_one_more _ _ _ _ c.loop.invariant.read c.in_ok-line.ensures.rest;
      answered = way_on lends calls prints c.loop.counter (opening c.args.replay.now c.args.state.now) before after
          (g.W.Write.contents c.args.out.now) (g.W.Write.contents old.out) (g.W.Write.contents new.out) (g.W.Write.contents c.flush.new.self)
          (g.I.Read.remaining c.args.input.now) (g.I.Read.remaining old.input) c.in_ok-line.field-0 line
          c.loop.invariant.answered c.loop.invariant.read c.in_ok-line.ensures.line c.in-Some.is turn c.in_ok-flush.ensures.bytes;
    }

pub returns-after-loop : goal.returns-after-loop
returns-after-loop g c =
    let most : 2 ^ 64 - 1 ≤ c.loop.counter = omega (arith, c.loop-test.false) in
    record {
      read = read_all _ _ _ c.loop.invariant.read most;
      answered = way_too_long _ _ _ _ _ _ _ _ _ _ c.loop.invariant.answered most;
    }

pub returns-in_default : goal.returns-in_default
returns-in_default g c = record {
  read = read_to_the_end _ _ _ _ _ c.loop.invariant.read c.in_ok-line.ensures.line c.in_ok-line.ensures.rest c.in_default.is;
  answered = way_end g.R.Replay.lends g.R.Replay.calls g.R.Replay.prints c.loop.counter c.args.replay.now c.args.state.now
      (record { replay = c.loop.replay; state = c.loop.state; buffer0 = c.loop.buffer0; buffer1 = c.loop.buffer1; buffer2 = c.loop.buffer2 })
      _ _ _ _ _ c.loop.invariant.answered c.loop.invariant.read c.in_ok-line.ensures.line c.in_default.is;
}
