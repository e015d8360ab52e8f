use Rattle.std.proofs.Common.{sym, arith}
use Rattle.std.proofs.lemmas.Bool.{lt-leb, cond-false}
use Rattle.rules.specs.Calendar.{distance}
use Rattle.pool.specs.Pools.{meaning}
use Rattle.choosing.proofs.turns.repeats.Goals as goal

pub returns-then-g-from : goal.returns-then-g-from
returns-then-g-from c =
    let d = c.distance.ensures.value in
    let f = c.from.ensures in
    let more = lt-leb c.args.g (distance (meaning c.args.pool.now) c.args.code) (omega arith) in
    record { value = sym (cond-false _ _ _ more); few = omega arith }
