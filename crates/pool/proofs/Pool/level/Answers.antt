use Rattle.std.proofs.Common.{rules}
use Rattle.rules.specs.Calendar.{level}
use Rattle.pool.proofs.Pool.level.Goals as goal

pub returns : goal.returns
unfolding level
returns c = search rules
