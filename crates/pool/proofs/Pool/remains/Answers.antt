use Rattle.std.proofs.Common.{◌%◌, not, ◌&&◌, ap, ◌∙◌}
use Rattle.rules.specs.Calendar.{remains}
use Rattle.rules.specs.Counting.{among}
use Rattle.pool.specs.Pools.{meaning}
use Rattle.pool.proofs.Pool.remains.Goals as goal

pub returns-then-on_uplink : goal.returns-then-on_uplink
unfolding remains
returns-then-on_uplink c =
    ap not c.has.ensures ∙ ap (λ b. b && not (among (c.args.d % 160) (meaning c.args.self.now).offsets)) c.if-on_uplink.ensures

pub returns-else-on_uplink : goal.returns-else-on_uplink
unfolding remains
returns-else-on_uplink c =
    c.if-on_uplink.false ∙ ap (λ b. b && not (among (c.args.d % 160) (meaning c.args.self.now).offsets)) c.if-on_uplink.ensures
