use Rattle.std.proofs.Common.{◌≡◌, ℕ, ◌+◌, ◌-◌, ◌*◌, ◌/◌, ◌%◌, ◌<◌, min, ap, ◌∙◌, arith}
use Rattle.std.proofs.lemmas.Grind.{div_ceil_times}
use Rattle.rules.specs.Closed.{reserved_before}
use Rattle.rules.specs.Calendar.{remaining}
use Rattle.pool.specs.Pools.{meaning}
use Rattle.pool.proofs.Pool.reserved_before.Goals as goal

-- a quotient that is rounded up
up : (a b : ℕ) → 0 < b → a / b + min 1 (a % b) ≡ (a + b - 1) / b
up a b p = grind (arith, div_ceil_times a b p)

pub returns : goal.returns
unfolding reserved_before
returns c =
    let m = meaning c.args.self.now in
    let k = c.args.k in
    c.div_ceil.ensures
    ∙ up (k * c.left_over.result) c.remaining.result (omega arith)
    ∙ ap (λ a. (k * c.left_over.result + a - 1) / a) c.remaining.ensures.value
    ∙ ap (λ v. (k * v + remaining m - 1) / remaining m) c.left_over.ensures.value
