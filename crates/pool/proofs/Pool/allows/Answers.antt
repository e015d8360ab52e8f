use Rattle.std.proofs.Common.{arith}
use Rattle.std.proofs.lemmas.Bool.Decides.{nat_tests}
use Rattle.rules.specs.Calendar.{allowed}
use Rattle.pool.proofs.Pool.allows.Goals as goal

pub returns-then-matches : goal.returns-then-matches
unfolding allowed
returns-then-matches c = grind (arith, nat_tests)

pub returns-else-matches : goal.returns-else-matches
unfolding allowed
returns-else-matches c = grind (arith, nat_tests)
