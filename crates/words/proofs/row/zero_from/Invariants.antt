use Rattle.std.proofs.Common.{◌≡◌, drop, eqb, ◌&&◌, map}
use Rattle.words.specs.Words.{zeros}
use Rattle.words.proofs.row.zero_from.Given as goal

-- the OR of the items passed, and those that are left
abbrev pub invariant-loop-x : goal.invariant-loop-x
invariant-loop-x g l =
    (eqb (g.T.Number.value l.any) 0 && zeros (map g.T.Number.value (drop l.x-index l.x-items))) ≡ zeros (drop l.place (g.T.Number.values l.row))
