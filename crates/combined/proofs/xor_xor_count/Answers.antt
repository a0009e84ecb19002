use borrow.Author.Tests.{tests}
use Rattle.std.proofs.Common.{rules, arith, ◌≡◌, ◌∙◌, ap, bit_xor}
use Rattle.std.proofs.lemmas.Iterator.{YieldsList-from_slice, YieldsList-from_zip, YieldsList-from_map}
use Rattle.words.specs.Words.{count, xors}
use Rattle.combined.proofs.Rows.{xors-xors-parts, rest-first, rest-second, rest-third}
use Rattle.combined.proofs.xor_xor_count.Goals as goal
use Rattle.combined.proofs.xor_xor_count.Goals.{then-is_empty, else-is_empty+then-is_empty-2, else-is_empty+else-is_empty-2}

rest : (c : goal.After-count_with) → c.if-is_empty.rest ≡ count (xors c.split_at.result.1.now (xors c.split_at-2.result.1.now c.split_at-3.result.1.now))
rest c =
    elim c.if-is_empty.branch [
      | then-is_empty w ↦ rest-first count _ _ _ (search (rules, tests)) (w.rest-is ∙ w.xor_count-rest.ensures)
      | else-is_empty+then-is_empty-2 w ↦ rest-second count _ _ _ (search (rules, tests)) (w.rest-is ∙ w.xor_count.ensures)
      | else-is_empty+else-is_empty-2 w ↦ rest-third count _ _ _ (search (rules, tests)) (search (rules, tests)) (omega arith) (w.rest-is ∙ w.xor_count-else-is_empty-2.ensures)
    ]

pub returns : goal.returns
returns c =
    c.count_with.ensures _ _
    (YieldsList-from_map _ (λ p. bit_xor p.0 (bit_xor p.1.0 p.1.1))
    (YieldsList-from_zip (YieldsList-from_slice c.split_at.result.0.now cc)
    (YieldsList-from_zip (YieldsList-from_slice c.split_at-2.result.0.now cc) (YieldsList-from_slice c.split_at-3.result.0.now cc)))
    c.map-words.ensures.closure (λ x r q k. search rules))
    (rest c)
    ∙ ap count
    (xors-xors-parts _ _ _ _ c.split_at-2.ensures.by_index.0 c.split_at-3.ensures.by_index.0 (cc) _ _ c.split_at.ensures.by_index.0 (cc))
