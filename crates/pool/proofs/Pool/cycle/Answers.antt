use Rattle.std.proofs.Common.{arith}
use Rattle.rules.specs.Calendar.{cycle}
use Rattle.pool.proofs.Pool.cycle.Goals as goal

pub returns : goal.returns
unfolding cycle
returns c = record { value = omega arith; some = omega arith; few = omega arith }
