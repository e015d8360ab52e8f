use Rattle.std.proofs.Common.{ap, ◌∙◌, arith}
use lib.Count.{ones}
use Rattle.rules.proofs.Limits.{limits}
use Rattle.rules.proofs.Masks.{mask_ones}
use Rattle.rules.proofs.Ranks.{some_position}
use Rattle.pool.specs.Pools.{meaning}
use Rattle.pool.proofs.Pool.positions.Goals as goal

pub returns : goal.returns
returns c =
    let p = c.args.self.now in
    let l = limits (meaning p) p.limits in
    let e = ap ones c.mask_of.ensures ∙ mask_ones p.uplink l.coded in
    let b = some_position p.uplink l.coded in
    record { value = e; some = omega arith; few = omega arith }
