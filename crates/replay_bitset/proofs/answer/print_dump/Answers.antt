use Rattle.std.proofs.Common.{◌≡◌, ◌*◌, min, length, sym, ◌∙◌, arith}
use Rattle.std.proofs.KnownBytes.{Appends-nil, Appends-trans}
use Rattle.replay_bitset.specs.Replay.{dump}
use Rattle.replay_bitset.proofs.PrintLaws.{present, lines_more, lines_same, members-present}
use Rattle.replay_bitset.proofs.answer.print_dump.Goals as goal
use Rattle.replay_bitset.proofs.answer.print_dump.Goals.{then-contains+in_ok-print_member, else-contains}

pub loop-index-init : goal.loop-index-init
unfolding present
loop-index-init g c = Appends-nil (g.W.Write.contents c.args.out.now)

pub loop-index-preserved : goal.loop-index-preserved
loop-index-preserved g c =
    let words = c.args.words.now in
    let index = c.loop-index.index in
    elim c.if-contains.branch [
      | then-contains+in_ok-print_member w ↦
          rw (w.out-is, lines_more words index (sym c.contains.ensures ∙ w.if-contains.true))
          (Appends-trans _ _ _ _ _ c.loop-index.invariant w.in_ok-print_member.ensures)
      | else-contains w ↦
          rw (w.out-is, lines_same words index (sym c.contains.ensures ∙ w.if-contains.false)) c.loop-index.invariant
    ]

-- the loop has gone over all indices of the words
pub returns : goal.returns
unfolding dump
returns g c =
    let end : c.loop-index.index ≡ 64 * min (length c.args.words.now) 8192 = omega arith in
    rw (← c.if-not-is_dump.ensures, members-present c.args.words.now 8192, ← end) c.loop-index.invariant
