use Rattle.ascending.proofs.RowLaws.{stored-whole, stored-cleared}
use Rattle.ascending.proofs.store.store.Goals as goal

pub returns-then-n-count : goal.returns-then-n-count
returns-then-n-count g c =
    let n = g.met.T.Number in
    rw (n.each c.args.members.now, n.each)
    (stored-cleared g.T.Number.value _ _ _ c.requires.0 (rw n.each at c.requires.2) c.copy-n.ensures.0 c.copy-n.ensures.1
    (rw c.ZERO.ensures n.zero) c.if-n-count.true c.requires.1 (c.fill.ensures.after (n.cloned _)))

pub returns-else-n-count : goal.returns-else-n-count
returns-else-n-count g c =
    let n = g.met.T.Number in
    rw (n.each c.args.members.now, n.each)
    (stored-whole g.T.Number.value _ _ _ c.requires.0 (rw n.each at c.requires.2) c.copy-n.ensures.0 c.copy-n.ensures.1 c.if-n-count.false)
