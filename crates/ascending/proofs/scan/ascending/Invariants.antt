use Rattle.std.proofs.Common.{map}
use Rattle.ascending.proofs.OrderLaws.{Ordered}
use Rattle.ascending.proofs.scan.ascending.Given as goal

abbrev pub invariant-loop-i : goal.invariant-loop-i
invariant-loop-i g l = Ordered (map g.T.Number.value l.row) l.fails l.i
