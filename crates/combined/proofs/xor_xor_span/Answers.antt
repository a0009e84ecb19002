use borrow.Author.Tests.{tests}
use Rattle.std.proofs.Common.{rules, arith, ◌≡◌, ◌∙◌, ap, subst, bit_xor}
use Rattle.std.proofs.lemmas.Iterator.{YieldsList, YieldsList-from_zip, YieldsList-from_map}
use Rattle.std.proofs.lemmas.Iterator.Adapters.{YieldsList-from_rev_slice}
use Rattle.std.proofs.lemmas.Slice.Zip.{length-zip}
use lib.ListN.{length-map}
use Rattle.words.specs.Words.{exact, xors}
use Rattle.combined.proofs.Rows.{xors-xors-parts, rest-first, rest-second, rest-third, three-down}
use Rattle.combined.proofs.xor_xor_span.Goals as goal
use Rattle.combined.proofs.xor_xor_span.Goals.{then-is_empty, else-is_empty+then-is_empty-2, else-is_empty+else-is_empty-2}

rest : (c : goal.After-span_with) → c.if-is_empty.rest ≡ exact (xors c.split_at.result.1.now (xors c.split_at-2.result.1.now c.split_at-3.result.1.now))
rest c =
    elim c.if-is_empty.branch [
      | then-is_empty w ↦ rest-first exact _ _ _ (search (rules, tests)) (w.rest-is ∙ w.xor_span-rest.ensures)
      | else-is_empty+then-is_empty-2 w ↦ rest-second exact _ _ _ (search (rules, tests)) (w.rest-is ∙ w.xor_span.ensures)
      | else-is_empty+else-is_empty-2 w ↦ rest-third exact _ _ _ (search (rules, tests)) (search (rules, tests)) (omega arith) (w.rest-is ∙ w.xor_span-else-is_empty-2.ensures)
    ]

pub returns : goal.returns
returns c =
    c.span_with.ensures _ _
    (subst (YieldsList _ (λ w. w) _) (three-down (λ p. bit_xor p.0 (bit_xor p.1.0 p.1.1)) c.split_at.result.0.now c.split_at-2.result.0.now c.split_at-3.result.0.now (cc) (cc))
    (YieldsList-from_map _ (λ p. bit_xor p.0 (bit_xor p.1.0 p.1.1))
    (YieldsList-from_zip (YieldsList-from_rev_slice c.split_at.result.0.now cc)
    (YieldsList-from_zip (YieldsList-from_rev_slice c.split_at-2.result.0.now cc) (YieldsList-from_rev_slice c.split_at-3.result.0.now cc)))
    c.map-words.ensures.closure (λ x r q k. search rules)))
    (simp (length-map, length-zip) (omega arith))
    (rest c)
    ∙ ap exact
    (xors-xors-parts c.split_at-2.result.0.now _ c.split_at-3.result.0.now _ c.split_at-2.ensures.by_index.0 c.split_at-3.ensures.by_index.0 (cc) c.split_at.result.0.now _ c.split_at.ensures.by_index.0 (cc))
