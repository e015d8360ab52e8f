use Rattle.selecting.specs.Lifts.{NoneBelow}
use Rattle.selecting.proofs.raises.lift.Given as goal

abbrev pub invariant-loop-steps : goal.invariant-loop-steps
invariant-loop-steps l = NoneBelow l.entries l.steps
