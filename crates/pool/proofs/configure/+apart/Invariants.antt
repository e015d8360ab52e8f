use Rattle.std.proofs.Common.{length}
use Rattle.pool.proofs.configure.+apart.Given as goal

abbrev pub decreases-apart : goal.decreases-apart
decreases-apart l = length l.offsets.now
