use Rattle.std.proofs.Common.{arith, below_more}
use Rattle.std.proofs.lemmas.Bool.{le-leb, lt-leb}
use Rattle.selecting.proofs.raises.lift.Goals as goal

pub returns-then-count_free-entries : goal.returns-then-count_free-entries
returns-then-count_free-entries c =
    let e = c.count_free.ensures.value in
    (omega arith, le-leb _ _ (omega (arith, c.if-count_free-entries.true)), c.loop-steps.invariant)

pub loop-steps-preserved : goal.loop-steps-preserved
loop-steps-preserved c =
    let e = c.count_free.ensures.value in
    below_more _ _ c.loop-steps.invariant (lt-leb _ _ (omega (arith, c.if-count_free-entries.false)))
