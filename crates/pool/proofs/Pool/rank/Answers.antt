use Rattle.std.proofs.Common.{arith}
use Rattle.rules.proofs.Calls.{rank_le}
use Rattle.rules.proofs.Ranks.{rank_closed}
use Rattle.pool.specs.Pools.{meaning}
use Rattle.pool.proofs.Kept.{keeps}
use Rattle.pool.proofs.Pool.rank.Goals as goal

pub overflow_sub-result : goal.overflow_sub-result
overflow_sub-result c =
    let p = c.args.self.now in
    let e = rank_closed (meaning p) (keeps p) c.args.d in
    let u = c.uplink_before.ensures.value in
    let s = c.before-2.ensures.value in
    omega arith

pub returns : goal.returns
returns c =
    let p = c.args.self.now in
    let e = rank_closed (meaning p) (keeps p) c.args.d in
    let l = rank_le (meaning p) (keeps p) c.args.d in
    let u = c.uplink_before.ensures.value in
    let s = c.before-2.ensures.value in
    record { value = omega arith; few = omega arith }
