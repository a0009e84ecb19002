-- `words::keys::write_ones` meets its contract.
use Rattle.std.proofs.Common.{arith, ap, ◌∙◌}
use Rattle.words.specs.Words.{ones_from}
use Rattle.words.proofs.BitLaws.{lowest-lt, put-lt, ones_none}
use Rattle.words.proofs.KeyLaws.{ones-next, writing-end}
use Rattle.words.proofs.keys.write_ones.Goals as goal

pub loop-left-preserved : goal.loop-left-preserved
loop-left-preserved c =
    let l = c.loop-left in
    rw (c.lowest.ensures, c.without_lowest-left.ensures)
    (put-lt 64 _ _ _ l.invariant.0 (lowest-lt l.left (omega arith) l.invariant.0), ones-next _ _ l.invariant.1 (omega arith) l.invariant.0)

pub returns : goal.returns
returns c = writing-end c.loop-left.invariant.1 (ap (ones_from _ 64) c.loop-left-test.false ∙ ones_none _ 64)
