use Rattle.std.proofs.Common.{refl}
use Rattle.rules.specs.Configure.{built_in}
use Rattle.rules.proofs.Limits.{limits}
use Rattle.rules.proofs.Sets.{cycle_some, cycle_divides}
use Rattle.pool.proofs.Pool.built_in.Goals as goal

pub invariant_of-result-2 : goal.invariant_of-result-2
invariant_of-result-2 c = record {
  limits = refl;
  some = cycle_some built_in (limits built_in refl);
  whole = cycle_divides built_in (limits built_in refl);
}
