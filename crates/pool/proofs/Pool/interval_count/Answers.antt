use Rattle.rules.proofs.Intervals.{allowed_counted}
use Rattle.pool.specs.Pools.{meaning}
use Rattle.pool.proofs.Kept.{keeps}
use Rattle.pool.proofs.Pool.interval_count.Goals as goal

pub returns : goal.returns
returns c = allowed_counted (meaning c.args.self.now) (keeps c.args.self.now).masked
