use Rattle.std.proofs.Common.{flat_map}
use Rattle.std.specs.Io.KnownBytes.{Appends}
use Rattle.history.specs.Fields.{member_line}
use Rattle.replay_bitset.proofs.PrintLaws.{present}
use Rattle.replay_bitset.proofs.answer.print_dump.Given as goal

-- the members below the index have been printed
abbrev pub invariant-loop-index : goal.invariant-loop-index
invariant-loop-index g l =
    Appends (g.W.Write.contents l.initial.out) (g.W.Write.contents l.out) (flat_map member_line (present l.words l.index))
