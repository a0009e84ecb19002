use Rattle.std.proofs.Common.{rules, arith, ◌∙◌, ap, subst, bit_and, bit_xor}
use Rattle.std.proofs.lemmas.Iterator.{YieldsList, YieldsList-from_zip, YieldsList-from_map}
use Rattle.std.proofs.lemmas.Iterator.Adapters.{YieldsList-from_rev_slice}
use Rattle.std.proofs.lemmas.Slice.Zip.{length-zip}
use lib.ListN.{length-map}
use Rattle.words.specs.Words.{exact}
use Rattle.words.proofs.RowLaws.{exact_none, length-ands}
use Rattle.combined.proofs.Rows.{xors-ands-parts, xors-rest, three-down}
use Rattle.combined.proofs.xor_and_span.Goals as goal

pub returns : goal.returns
returns c =
    c.span_with.ensures _ _
    (subst (YieldsList _ (λ w. w) _) (three-down (λ p. bit_xor p.0 (bit_and p.1.0 p.1.1)) c.split_at.result.0.now c.split_at-2.result.0.now c.split_at-3.result.0.now (cc) (cc))
    (YieldsList-from_map _ (λ p. bit_xor p.0 (bit_and p.1.0 p.1.1))
    (YieldsList-from_zip (YieldsList-from_rev_slice c.split_at.result.0.now cc)
    (YieldsList-from_zip (YieldsList-from_rev_slice c.split_at-2.result.0.now cc) (YieldsList-from_rev_slice c.split_at-3.result.0.now cc)))
    c.map-words.ensures.closure (λ x r q k. search rules)))
    (simp (length-map, length-zip) (omega arith))
    (xors-rest exact exact_none _ _ (simp length-ands (omega arith)) c.exact_span.ensures c.and_span.ensures)
    ∙ ap exact
    (xors-ands-parts c.split_at-2.result.0.now _ c.split_at-3.result.0.now _ c.split_at-2.ensures.by_index.0 c.split_at-3.ensures.by_index.0 (cc) c.split_at.result.0.now _ c.split_at.ensures.by_index.0 (cc))
