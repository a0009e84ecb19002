-- `words::row::count_all` meets its contract.
use Rattle.std.proofs.Common.{rules, arith, ◌∷◌, [], ◌<◌, ◌^◌}
use Rattle.std.specs.List.{sum_by}
use Rattle.words.specs.Words.{count}
use Rattle.words.proofs.LoopLaws.{sum_of_counts}
use Rattle.words.proofs.RowLaws.{count-le}
use Rattle.words.proofs.row.count_all.Goals as goal

pub sum-requires-clause-fits : goal.sum-requires-clause-fits
sum-requires-clause-fits c =
    let few : sum_by (λ w. count (w ∷ [])) c.args.words.now < 2 ^ 64 = omega (arith, sum_of_counts c.args.words.now, count-le c.args.words.now) in
    search rules
