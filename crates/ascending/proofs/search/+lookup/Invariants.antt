use Rattle.std.proofs.Common.{length}
use Rattle.ascending.proofs.search.+lookup.Given as goal

abbrev pub decreases-lookup : goal.decreases-lookup
decreases-lookup g l = length l.elements.now
