use Rattle.std.proofs.Common.{rules, ◌≡◌}
use Rattle.std.proofs.lemmas.Iterator.{IsFirst-from_position}
use borrow.Author.Tests.{tests}
use Rattle.combined.proofs.Rows.{exact-rest, exact-down}
use Rattle.combined.proofs.span_with.Goals as goal

pub returns-then-rest-gt0 : goal.returns-then-rest-gt0
returns-then-rest-gt0 g c = λ ws tail e k r. exact-rest ws tail k r c.if-rest-gt0.true

pub returns : goal.returns
returns g c = λ ws tail e k r.
    exact-down ws tail k r c.position.result c.if-rest-gt0.false
    (IsFirst-from_position _ _ _ (λ w. w ≡ 0 → ⊥) (λ w. w ≡ 0) c.position.ensures.ran e (λ x q k. search (rules, tests)) (λ x q k. search (rules, tests)))
    (search rules)
