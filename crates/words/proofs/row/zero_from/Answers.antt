use Rattle.std.proofs.Common.{◌≡◌, ℕ, ◌+◌, ◌<◌, ◌&&◌, eqb, List, length, get_or, drop, map, sym, ap, ◌∙◌}
use Rattle.std.proofs.lemmas.List.{drop-map, take_rest, at_drop_more, at_drop_all}
use mathlib.Core.Bool.{and_assoc, and-true}
use Rattle.words.specs.Words.{zeros}
use Rattle.words.proofs.row.zero_from.Goals as goal

zeros-next : {A : Type 0} (value : A → ℕ) (xs : List A) (i : ℕ) (x : A) → i < length xs → x ≡ get_or xs i x
    → zeros (map value (drop i xs)) ≡ (eqb (value x) 0 && zeros (map value (drop (i + 1) xs)))
unfolding zeros
zeros-next {A} value xs i x h e =
    at_drop_more (λ (l : List A). zeros (map value l)) xs i x h
    ∙ ap (λ (y : A). eqb (value y) 0 && zeros (map value (drop (i + 1) xs))) (sym e)

pub loop-x-init : goal.loop-x-init
loop-x-init g c =
    let n = g.met.T.Number in
    rw (c.ZERO-any.ensures, n.zero, n.each, drop-map, take_rest)

pub loop-x-preserved : goal.loop-x-preserved
loop-x-preserved g c =
    rw (c.or-any.ensures, and_assoc) (rw (zeros-next g.T.Number.value _ _ _ c.loop-x-test.true c.x-item.is) at c.loop-x.invariant)

pub returns : goal.returns
unfolding zeros
returns g c =
    let n = g.met.T.Number in
    let value = g.T.Number.value in
    rw (c.eq.ensures, c.ZERO.ensures, n.equal, n.zero)
    (sym (and-true (eqb (value c.loop-x.any) 0))
    ∙ (rw (at_drop_all (λ (l : List g.row.T.Denot). zeros (map value l)) _ _ c.loop-x-test.false) at c.loop-x.invariant))
