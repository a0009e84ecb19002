use Rattle.std.proofs.Common.{arith}
use Rattle.answers.specs.Answers.{answer_of}
use Rattle.adaptive_index_set.proofs.Calls.{reads}
use Rattle.adaptive_index_set.proofs.Stored.{stored}
use Rattle.adaptive_index_set.proofs.checked.Checked.len.Goals as goal

pub returns-in-Narrow : goal.returns-in-Narrow
unfolding answer_of
returns-in-Narrow c =
    let x = stored _ _ _ c.args.self.sound c.from.ensures c.in-Narrow.is in grind (arith, reads)

pub returns-in-Wide : goal.returns-in-Wide
unfolding answer_of
returns-in-Wide c =
    let x = stored _ _ _ c.args.self.sound c.from.ensures c.in-Wide.is in grind (arith, reads)

pub returns-in-Sparse : goal.returns-in-Sparse
unfolding answer_of
returns-in-Sparse c =
    let x = stored _ _ _ c.args.self.sound c.from.ensures c.in-Sparse.is in grind (arith, reads)
