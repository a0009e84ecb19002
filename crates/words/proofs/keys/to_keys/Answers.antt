-- `words::keys::to_keys` meets its contract.
use Rattle.std.proofs.Common.{arith}
use Rattle.words.proofs.KeyLaws.{members_begin, members-next, members-end}
use Rattle.words.proofs.keys.to_keys.Goals as goal

pub loop-p-init : goal.loop-p-init
loop-p-init c = members_begin _ c.requires.1

pub write_ones-n-requires : goal.write_ones-n-requires
write_ones-n-requires c = let w = members-next _ _ c.loop-p.invariant c.loop-p-test.true in omega arith

pub loop-p-preserved : goal.loop-p-preserved
loop-p-preserved c = rw (c.write_ones-n.ensures.0, c.write_ones-n.ensures.1) (members-next _ _ c.loop-p.invariant c.loop-p-test.true)

pub returns : goal.returns
returns c = members-end _ _ c.loop-p.invariant c.loop-p-test.false
