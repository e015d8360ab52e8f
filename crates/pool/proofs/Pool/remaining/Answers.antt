use Rattle.std.proofs.Common.{◌≡◌, length, arith, length-take, rules}
use Rattle.rules.proofs.Ranks.{remaining_closed, remaining_bounds}
use Rattle.pool.specs.Pools.{meaning}
use Rattle.pool.proofs.Kept.{keeps}
use Rattle.pool.proofs.Pool.remaining.Goals as goal

pub returns : goal.returns
returns c =
    let p = c.args.self.now in
    let three : length p.offsets.places ≡ 3 = search rules in
    let few = p.offsets.few in
    let used = length-take p.offsets.used p.offsets.places in
    let r = remaining_closed (meaning p) (keeps p) in
    let b = remaining_bounds (meaning p) (keeps p) in
    record { value = omega arith; some = omega arith; few = omega arith }
