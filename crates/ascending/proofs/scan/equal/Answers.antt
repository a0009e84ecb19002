use Rattle.std.proofs.Common.{Bool, true, ◌&&◌, eqb, rules, sym, ◌∙◌}
use Rattle.std.proofs.lemmas.List.{length-map}
use Rattle.std.proofs.lemmas.Iterator.{YieldsList-from_slice, YieldsList-from_zip}
use Rattle.std.proofs.lemmas.Iterator.Consumers.{fold_from_yields_List}
use borrow.Author.Tests.{ne_eqb}
use Rattle.ascending.proofs.OrderLaws.{same_length, pairs-same}
use Rattle.ascending.proofs.scan.equal.Goals as goal

pub returns-then-a-b : goal.returns-then-a-b
returns-then-a-b g c =
    let n = g.met.T.Number in
    let value = g.T.Number.value in
    let a = c.args.a.now in
    let b = c.args.b.now in
    fold_from_yields_List _ (λ (t : Bool) (p : g.row.T.Denot × g.row.T.Denot). t && eqb (value p.0) (value p.1)) true c.fold.result c.fold.ensures.ran
    (YieldsList-from_zip {s = c.zip.result} (YieldsList-from_slice a cc) (YieldsList-from_slice b cc)) (λ t p r q k. search rules)
    ∙ rw (n.each a, n.each b) (pairs-same value a b c.if-a-b.true)

pub returns-else-a-b : goal.returns-else-a-b
returns-else-a-b g c =
    let n = g.met.T.Number in
    rw (n.each c.args.a.now, n.each c.args.b.now, ne_eqb _ _ c.if-a-b.false) (sym (same_length _ _ (λ e. c.if-a-b.false (simp length-map at e))))
