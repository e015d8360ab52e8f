use Rattle.std.proofs.Common.{◌*◌, ap, arith}
use Rattle.rules.specs.Calendar.{step}
use Rattle.pool.proofs.Pool.step.Goals as goal

pub returns : goal.returns
unfolding step
returns c = record { value = ap (λ n. 10 * n) c.positions.ensures.value; few = omega arith }
