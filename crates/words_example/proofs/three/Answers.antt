use Rattle.std.proofs.Common.{arith}
use Rattle.words.proofs.RowLaws.{count-le}
use Rattle.words_example.proofs.three.Goals as goal

-- 79 words have at most 5,056 members, for which the keys have room
pub to_keys-n-requires : goal.to_keys-n-requires
to_keys-n-requires g c = (omega arith, omega (arith, count-le c.args.a.now))

-- and so many they are
pub shared_ref_as_front-list : goal.shared_ref_as_front-list
shared_ref_as_front-list g c = omega (arith, count-le c.args.a.now)
