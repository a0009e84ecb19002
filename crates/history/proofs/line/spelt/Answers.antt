use Rattle.std.proofs.Common.{arith}
use Rattle.history.proofs.LineLaws.{spelling_begin, spelling_room, spelling-next, spelling_end}
use Rattle.history.proofs.line.spelt.Goals as goal

pub loop-byte-init : goal.loop-byte-init
loop-byte-init c = spelling_begin

pub overflow_mul-number : goal.overflow_mul-number
overflow_mul-number c = omega (arith, spelling_room c.loop-byte.invariant c.loop-byte-test.true c.requires)

pub overflow_add-number : goal.overflow_add-number
overflow_add-number c = omega (arith, spelling_room c.loop-byte.invariant c.loop-byte-test.true c.requires)

pub loop-byte-preserved : goal.loop-byte-preserved
loop-byte-preserved c = spelling-next c.loop-byte.invariant c.loop-byte-test.true c.digit.ensures.value c.digit.ensures.upper_bound

pub returns : goal.returns
returns c = spelling_end c.loop-byte.invariant c.loop-byte-test.false
