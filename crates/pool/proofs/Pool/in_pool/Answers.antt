use Rattle.std.proofs.Common.{◌%◌, false, get_or, sym, ap, ◌∙◌}
use Rattle.rules.specs.Calendar.{in_pool}
use Rattle.pool.specs.Pools.{meaning}
use Rattle.pool.proofs.Kept.{size_is}
use Rattle.pool.proofs.Pool.in_pool.Goals as goal

pub returns : goal.returns
unfolding in_pool
returns c =
    let p = c.args.self.now in
    c.bit.ensures ∙ ap (λ b. get_or (meaning p).bits (c.args.index % b) false) (c.from.ensures ∙ sym (size_is p))
