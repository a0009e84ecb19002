use Rattle.std.proofs.Common.{◌≡◌, ◌<◌, ◌/◌, length, length-take, length-drop, sym, ◌∙◌, rules, arith}
use Rattle.std.proofs.lemmas.List.{length-map, take-map, drop-map, take_rest}
use borrow.Author.Tests.{ltb-true, ltb-false, eqb-true, eqb-false}
use Rattle.ascending.proofs.ValueLaws.{value-at}
use Rattle.ascending.proofs.OrderLaws.{from-take, from-drop}
use Rattle.ascending.proofs.SearchLaws.{found_none, found_here, found_front, found_back, found_within}
use Rattle.ascending.proofs.search.+lookup.Goals as goal

pub returns-then-is_empty : goal.returns-then-is_empty
returns-then-is_empty g t c =
    let empty : length c.args.elements.now ≡ 0 = search rules in
    rw g.met.T.Number.each (sym (found_none _ _ (rw length-map empty)))

pub returns-then-eq : goal.returns-then-eq
returns-then-eq g t c =
    let n = g.met.T.Number in
    let same : g.T.Number.value c.index-elements-middle.result ≡ g.T.Number.value c.args.element = eqb-true _ _ (search rules) in
    let some : 0 < length c.args.elements.now = search rules in
    let here = value-at g.T.Number.value c.args.elements.now (length c.args.elements.now / 2) _ (omega arith) c.index-elements-middle.is in
    rw n.each (sym (found_here _ 0 _ _ (rw n.each at c.requires) (rw length-map (omega arith)) (here ∙ same)))

pub lookup-requires : goal.lookup-requires
lookup-requires g t c κs within =
    let n = g.met.T.Number in
    let some : 0 < length c.args.elements.now = search rules in
    (simp length-take (omega arith), (search rules, rw (n.each, ← take-map) (from-take 0 _ _ (rw n.each at c.requires))))

pub returns-then-lt : goal.returns-then-lt
returns-then-lt g t c =
    let n = g.met.T.Number in
    let below : g.T.Number.value c.args.element < g.T.Number.value c.index-elements-middle.result = ltb-true _ _ (search rules) in
    let some : 0 < length c.args.elements.now = search rules in
    let here = value-at g.T.Number.value c.args.elements.now (length c.args.elements.now / 2) _ (omega arith) c.index-elements-middle.is in
    rw (c.lookup.ensures, n.each c.args.elements.now, n.each, ← take-map)
    (sym (found_front _ 0 _ _ (rw n.each at c.requires) (rw length-map (omega arith)) (rw here below)))

pub lookup-requires-2 : goal.lookup-requires-2
lookup-requires-2 g t c κs within =
    let n = g.met.T.Number in
    let some : 0 < length c.args.elements.now = search rules in (
      simp (length-take, length-drop) (omega arith),
      (search rules, rw (take_rest, n.each, ← drop-map) (from-drop 0 _ _ (rw n.each at c.requires))),
    )

pub shifted-requires : goal.shifted-requires
shifted-requires g t c =
    let some : 0 < length c.args.elements.now = search rules in
    omega (arith, simp (g.met.T.Number.each, length-map, length-take, length-drop) at (found_within _ _ c.lookup-2.ensures))

pub returns : goal.returns
returns g t c =
    let n = g.met.T.Number in
    let value = g.T.Number.value in
    let above : value c.index-elements-middle.result < value c.args.element =
    let other = eqb-false (value c.index-elements-middle.result) (value c.args.element) (search rules) in
    let behind = ltb-false (value c.args.element) (value c.index-elements-middle.result) (search rules) in omega arith in
    let some : 0 < length c.args.elements.now = search rules in
    let here = value-at value c.args.elements.now (length c.args.elements.now / 2) _ (omega arith) c.index-elements-middle.is in
    rw (c.shifted.ensures, c.lookup-2.ensures, take_rest, n.each c.args.elements.now, n.each, ← drop-map)
    (sym (found_back _ _ _ (rw n.each at c.requires) (rw length-map (omega arith)) (rw here above)))
