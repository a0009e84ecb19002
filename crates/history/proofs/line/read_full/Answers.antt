use Rattle.std.proofs.Common.{rules}
use Rattle.history.proofs.ReadLaws.{read_more}
use Rattle.history.proofs.line.read_full.Goals as goal

pub loop-got-preserved : goal.loop-got-preserved
loop-got-preserved g c =
    let before = c.loop-got.invariant in
    let read = c.in_ok-more.ensures in
    record {
      within = search rules;
      long = search rules;
      bytes = read_more _ _ _ c.loop-got.text c.read.new.buf c.loop-got.got c.in_ok-more.more before.within read.bound.0 before.bytes read.bytes.0;
    }
