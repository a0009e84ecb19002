use Rattle.std.proofs.Common.{rules, arith, ◌∙◌, ap, subst, bit_and}
use Rattle.std.proofs.lemmas.Iterator.{YieldsList, YieldsList-from_zip, YieldsList-from_map}
use Rattle.std.proofs.lemmas.Iterator.Adapters.{YieldsList-from_rev_slice}
use Rattle.std.proofs.lemmas.Slice.Zip.{length-zip}
use lib.ListN.{length-map}
use Rattle.words.specs.Words.{exact}
use Rattle.words.proofs.RowLaws.{exact_none}
use Rattle.combined.proofs.Rows.{ands-parts, ands-rest, two-down}
use Rattle.combined.proofs.and_span.Goals as goal

pub returns : goal.returns
returns c =
    c.span_with.ensures _ _
    (subst (YieldsList _ (λ w. w) _) (two-down (λ p. bit_and p.0 p.1) c.split_at.result.0.now c.split_at-2.result.0.now (cc))
    (YieldsList-from_map _ (λ p. bit_and p.0 p.1)
    (YieldsList-from_zip (YieldsList-from_rev_slice c.split_at.result.0.now cc) (YieldsList-from_rev_slice c.split_at-2.result.0.now cc))
    c.map-words.ensures.closure (λ x r q k. search rules)))
    (simp (length-map, length-zip) (omega arith))
    (ands-rest exact exact_none c.split_at.result.1.now c.split_at-2.result.1.now (omega arith))
    ∙ ap exact
    (ands-parts c.split_at.result.0.now _ c.split_at-2.result.0.now _ c.split_at.ensures.by_index.0 c.split_at-2.ensures.by_index.0 (cc))
