use Rattle.std.proofs.Common.{◌≡◌, refl, sym, ap, subst, ◌∙◌, length, arith, rules, length-take-le, OnOk}
use Rattle.std.specs.Io.KnownBytes.{Appends}
use Rattle.history.specs.Lines.{following}
use Rattle.history.specs.Replaying.{Calls, is_new, nth_call}
use Rattle.history.proofs.ReplayLaws.{nth_call-next, calls_next, play_over, print_over}
use Rattle.history.proofs.replay.play.Goals as goal

pub loop-init : goal.loop-init
unfolding nth_call Calls is_new
loop-init g c = record {
  begin = search rules;
  line = refl;
  called = refl;
}

pub loop-preserved : goal.loop-preserved
loop-preserved g c =
    let before = c.loop.invariant in
    record {
      begin = before.begin;
      line = c.following-line.ensures ∙ ap following before.line ∙ sym (nth_call-next c.loop.counter c.args.line);
      called = calls_next g.R.Replay.calls c.loop.counter c.args.line c.loop.line _
          (record { replay = c.loop.replay; state = c.loop.state; own = c.loop.own; first = c.loop.first; second = c.loop.second })
          (record { replay = c.call.new.self; state = c.call.new.state; own = c.call.new.own; first = c.call.new.first; second = c.call.new.second })
          before.called before.line c.call.ensures;
    }

pub returns-clause-left : goal.returns-clause-left
returns-clause-left g c =
    let long : length c.loop.own ≡ c.lent-end.result = c.loop.auto.own ∙ length-take-le _ _ c.lent-end.ensures.within in
    let all : c.loop.counter ≡ c.args.line.times = omega (arith, c.loop-test.false, c.loop.auto.counter-end) in
    play_over g.R.Replay.lends g.R.Replay.calls c.args.line
    (record { replay = c.args.replay.now; state = c.args.state.now; own = c.args.own.now; first = c.args.first.now; second = c.args.second.now })
    c.match-line.state c.lent-end.result c.loop.counter
    (record { replay = c.loop.replay; state = c.loop.state; own = c.loop.own; first = c.loop.first; second = c.loop.second })
    c.loop.invariant.begin c.lent-end.ensures.lent long all c.loop.invariant.called

pub returns-clause-printed : goal.returns-clause-printed
returns-clause-printed g c =
    let long : length c.loop.own ≡ c.lent-end.result = c.loop.auto.own ∙ length-take-le _ _ c.lent-end.ensures.within in
    let all : c.loop.counter ≡ c.args.line.times = omega (arith, c.loop-test.false, c.loop.auto.counter-end) in
    subst (λ bytes. OnOk c.print.result (Appends (g.W.Write.contents c.args.out.now) (g.W.Write.contents c.print.new.out) bytes))
    (print_over g.R.Replay.lends g.R.Replay.prints c.args.line
    (record { replay = c.args.replay.now; state = c.args.state.now; own = c.args.own.now; first = c.args.first.now; second = c.args.second.now })
    c.match-line.state c.lent-end.result c.loop.counter c.loop.line
    (record { replay = c.loop.replay; state = c.loop.state; own = c.loop.own; first = c.loop.first; second = c.loop.second })
    c.loop.invariant.begin c.lent-end.ensures.lent long all c.loop.invariant.line) c.print.ensures
