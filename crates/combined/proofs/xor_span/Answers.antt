use Rattle.std.proofs.Common.{rules, arith, ◌≡◌, ◌∙◌, ◌++◌, ◌≤◌, ap, sym, subst, bit_xor, map, length}
use Rattle.std.specs.List.{zip}
use Rattle.std.proofs.lemmas.Iterator.{YieldsList, YieldsList-from_zip, YieldsList-from_map}
use Rattle.std.proofs.lemmas.Iterator.Adapters.{YieldsList-from_rev_slice}
use Rattle.std.proofs.lemmas.Slice.Zip.{length-zip}
use lib.ListN.{length-map}
use Rattle.words.specs.Words.{exact, xors}
use Rattle.words.proofs.RowLaws.{exact_none, exact-front, exact-behind, xors-append}
use Rattle.combined.proofs.Rows.{xors-parts, xors-rest, two-down, exact-rest}
use Rattle.combined.proofs.xor_span.Goals as goal

pub returns-then-rest-gt0 : goal.returns-then-rest-gt0
returns-then-rest-gt0 c =
    let a = c.split_at.result.0.now in
    let b = c.split_at-2.result.0.now in
    exact-rest (map (λ p. bit_xor p.0 p.1) (zip a b)) _ (simp (length-map, length-zip) (omega arith))
    (xors-rest exact exact_none _ _ (omega arith) c.exact_span.ensures c.exact_span-2.ensures) c.if-rest-gt0.true
    ∙ ap exact (xors-parts a _ b _ c.split_at.ensures.by_index.0 c.split_at-2.ensures.by_index.0 (cc))

-- the words up to the end, what follows them where both rows have words, and what follows that
pub returns : goal.returns
returns c =
    let a = c.split_at.result.0.now in
    let b = c.split_at-2.result.0.now in
    let front = map (λ p. bit_xor p.0 p.1) (zip c.split_at-3.result.0.now c.split_at-4.result.0.now) in
    let long : length front ≡ c.differing-end.result = simp (length-map, length-zip) (omega arith) in
    let both : front ++ xors c.split_at-3.result.1.now c.split_at-4.result.1.now ≡ xors a b =
    xors-parts _ _ _ _ c.split_at-3.ensures.by_index.0 c.split_at-4.ensures.by_index.0 (cc) in
    let none : exact (xors c.split_at-3.result.1.now c.split_at-4.result.1.now) ≡ 0 = exact-behind front _ (rw (both, long) c.differing-end.ensures.behind) in
    c.span_with.ensures _ _
    (subst (YieldsList _ (λ w. w) _) (two-down (λ p. bit_xor p.0 p.1) c.split_at-3.result.0.now c.split_at-4.result.0.now (cc))
    (YieldsList-from_map _ (λ p. bit_xor p.0 p.1)
    (YieldsList-from_zip (YieldsList-from_rev_slice c.split_at-3.result.0.now cc) (YieldsList-from_rev_slice c.split_at-4.result.0.now cc))
    c.map-words.ensures.closure (λ x r q k. search rules)))
    long (sym none)
    ∙ ap exact both
    ∙ sym (exact-front (xors a b) _ (sym (xors-rest exact exact_none _ _ (omega arith) c.exact_span.ensures c.exact_span-2.ensures) ∙ omega (arith, c.if-rest-gt0.false)))
    ∙ rw (c.split_at.ensures.by_index.0, c.split_at-2.ensures.by_index.0) (sym (ap exact (xors-append a _ b _ (cc))))
