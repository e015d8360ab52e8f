use Rattle.std.proofs.Common.{◌≡◌, ◌%◌, sym, ap, ◌∙◌, mod-lt, arith}
use Rattle.rules.specs.Calendar.{left_over, remaining}
use Rattle.pool.specs.Pools.{meaning}
use Rattle.pool.proofs.Kept.{keeps, size_is}
use Rattle.pool.proofs.Pool.left_over.Goals as goal

pub returns : goal.returns
unfolding left_over
returns c =
    let p = c.args.self.now in
    let b = c.from.result in
    let same : b ≡ _ = c.from.ensures ∙ sym (size_is p) in
    let l = keeps p in
    let least = l.least in
    let most = l.most in
    record {
      value = ap (λ r. r % b) c.remaining.ensures.value ∙ ap (λ b. remaining (meaning p) % b) same;
      few = omega (arith, mod-lt c.remaining.result {m = b} (omega arith));
    }
