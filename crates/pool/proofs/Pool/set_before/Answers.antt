use Rattle.std.proofs.Common.{ap, ◌∙◌, arith}
use Rattle.rules.specs.Calendar.{remaining, left_over}
use Rattle.rules.specs.Closed.{reserved_before}
use Rattle.rules.proofs.Calls.{set_before, spent_le, rank_le}
use Rattle.pool.specs.Pools.{meaning}
use Rattle.pool.proofs.Kept.{keeps}
use Rattle.pool.proofs.Pool.set_before.Goals as goal

pub overflow_sub-result : goal.overflow_sub-result
overflow_sub-result c =
    let m = meaning c.args.self.now in
    let k = c.rank-rank.ensures.value in
    let s = c.reserved_before.ensures ∙ ap (reserved_before (remaining m) (left_over m)) k in
    let l = spent_le m (keeps c.args.self.now) c.args.d c.requires in
    omega arith

pub returns : goal.returns
returns c =
    let m = meaning c.args.self.now in
    let k = c.rank-rank.ensures.value in
    let s = c.reserved_before.ensures ∙ ap (reserved_before (remaining m) (left_over m)) k in
    let e = set_before m (keeps c.args.self.now) c.args.d c.requires in
    let l = rank_le m (keeps c.args.self.now) c.args.d in
    record { value = omega arith; few = omega arith }
