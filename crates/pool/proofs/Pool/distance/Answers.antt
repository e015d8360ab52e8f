use Rattle.std.proofs.Common.{◌*◌, ◌/◌, ap, ◌∙◌, arith}
use Rattle.std.proofs.lemmas.Nat.{mul-le}
use Rattle.rules.specs.Calendar.{distance, step}
use Rattle.pool.specs.Pools.{meaning}
use Rattle.pool.proofs.Pool.distance.Goals as goal

pub returns : goal.returns
unfolding distance
returns c =
    record {
      value = ap (λ s. s * c.milliseconds.result / 100) c.step.ensures.value ∙ ap (λ m. step (meaning c.args.self.now) * m / 100) c.milliseconds.ensures.value;
      few = omega (arith, mul-le c.step.result c.milliseconds.result 100 1000 c.step.ensures.few c.milliseconds.ensures.few);
    }
