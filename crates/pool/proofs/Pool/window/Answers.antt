use Rattle.std.proofs.Common.{◌*◌, ap}
use Rattle.rules.specs.Calendar.{window}
use Rattle.pool.proofs.Pool.window.Goals as goal

pub returns : goal.returns
unfolding window
returns c = ap (λ n. 10 * n) c.step.ensures.value
