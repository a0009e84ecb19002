use Rattle.std.proofs.Common.{rules, arith, ◌∙◌, ap, bit_and}
use Rattle.std.proofs.lemmas.Iterator.{YieldsList-from_slice, YieldsList-from_zip, YieldsList-from_map}
use Rattle.words.specs.Words.{count}
use Rattle.words.proofs.RowLaws.{count_none}
use Rattle.combined.proofs.Rows.{ands-parts, ands-rest}
use Rattle.combined.proofs.and_count.Goals as goal

pub returns : goal.returns
returns c =
    c.count_with.ensures _ _
    (YieldsList-from_map _ (λ p. bit_and p.0 p.1)
    (YieldsList-from_zip (YieldsList-from_slice c.split_at.result.0.now cc) (YieldsList-from_slice c.split_at-2.result.0.now cc))
    c.map-words.ensures.closure (λ x r q k. search rules))
    (ands-rest count count_none c.split_at.result.1.now c.split_at-2.result.1.now (omega arith))
    ∙ ap count
    (ands-parts _ _ _ _ c.split_at.ensures.by_index.0 c.split_at-2.ensures.by_index.0 (cc))
