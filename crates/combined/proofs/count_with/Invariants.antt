use Rattle.std.proofs.Common.{◌≡◌, ◌≤◌, ◌+◌, ◌*◌, ◌^◌}
use Rattle.words.specs.Words.{count}
use Rattle.combined.proofs.count_with.Given as goal

-- each word that is left has 64 ones at most
abbrev pub invariant-loop-w : goal.invariant-loop-w
invariant-loop-w g l =
    (goal.iterator-loop-w g).can_next l.w-iterator
    × (goal.iterator-loop-w g).is_finite l.w-iterator
    × (l.n ≡ count l.yielded + l.rest)
    × (l.n + 64 * (goal.iterator-loop-w g).remaining l.w-iterator ≤ 64 * 8192 + 2 ^ 32)
