use Rattle.std.proofs.Common.{rules}
use Rattle.memory.specs.SparseParts.{held_at}
use Rattle.memory.proofs.sparse.asks.SparseAsking.record.Goals as goal

pub returns : goal.returns
unfolding held_at
returns c = search rules
