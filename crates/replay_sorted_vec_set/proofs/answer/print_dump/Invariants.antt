use Rattle.std.proofs.Common.{take}
use Rattle.std.specs.Io.KnownBytes.{Appends}
use Rattle.std.specs.List.{flat_map}
use Rattle.history.specs.Fields.{member_line}
use Rattle.replay_sorted_vec_set.proofs.answer.print_dump.Given as goal

-- the members before the index are printed
abbrev pub invariant-loop-member : goal.invariant-loop-member
invariant-loop-member g l =
    Appends (g.W.Write.contents l.initial.out) (g.W.Write.contents l.out) (flat_map member_line (take l.member-index l.member-items))
