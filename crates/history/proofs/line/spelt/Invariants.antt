use Rattle.history.proofs.LineLaws.{Spelling}
use Rattle.history.proofs.line.spelt.Given as goal

-- the digits before the index spell the number
abbrev pub invariant-loop-byte : goal.invariant-loop-byte
invariant-loop-byte l = Spelling l.digits l.number l.byte-index
