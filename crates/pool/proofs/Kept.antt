-- What every pool of the code keeps. Assumes nothing.
use Rattle.std.proofs.Common.{◌≡◌, ◌≤◌, arith}
use Rattle.std.proofs.lemmas.List.FromFn.{length-map-range_with_len}
use Rattle.rules.specs.Calendar.{size}
use Rattle.rules.specs.Closed.{word_bit}
use Rattle.rules.proofs.Limits.{Limits, limits}
use Rattle.pool.specs.Pools.{meaning}
use Rattle.pool.specs.declared.Pool.{Pool}

pub keeps : (p : Pool) → Limits (meaning p)
keeps p = limits (meaning p) p.limits

pub size_is : (p : Pool) → size (meaning p) ≡ p.bitmap.size
size_is p = length-map-range_with_len (word_bit p.bitmap.words) 0 p.bitmap.size

pub small : (p : Pool) → p.bitmap.size ≤ 100
small p = omega (arith, size_is p, (keeps p).most)
