-- `words::row::exact_span` meets its contract.
use Rattle.std.proofs.Common.{rules, arith, ◌≡◌, ◌∙◌, ◌+◌, take}
use Rattle.std.specs.Option.{option_map_or}
use Rattle.words.proofs.LoopLaws.{exact_by_last, clear_begin, clear-four, clear-front}
use Rattle.words.proofs.row.exact_span.Goals as goal

pub returns : goal.returns
returns c =
    let mapped : c.map_or.result ≡ option_map_or (λ p. p + 1) c.rposition.result 0 = search rules in
    mapped ∙ exact_by_last (take c.loop-end.end c.args.words.now) c.rposition.result (search rules) ∙ clear-front c.loop-end.invariant

pub loop-end-init : goal.loop-end-init
loop-end-init c = clear_begin (omega arith)

pub loop-end-preserved : goal.loop-end-preserved
loop-end-preserved c = clear-four c.loop-end.invariant c.loop-end-test.true c.if-words-end-eq0.true
