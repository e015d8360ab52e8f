use Rattle.std.proofs.Common.{rules}
use Rattle.rules.specs.Closed.{sync_before}
use Rattle.pool.proofs.Offsets.before.Goals as goal

pub returns : goal.returns
unfolding sync_before
returns c = search rules
