use Rattle.std.proofs.Common.{◌≡◌, ◌+◌, ◌*◌, ◌/◌, ◌≤◌, sym, ap, ◌∙◌, subst, mul-le-mul_right, arith}
use Rattle.rules.specs.Calendar.{cycle, index, Next}
use Rattle.rules.proofs.Sets.{next_is}
use Rattle.pool.specs.Pools.{meaning}
use Rattle.pool.proofs.Kept.{keeps}
use Rattle.pool.proofs.Pool.next_index.Goals as goal

pub overflow_mul-result : goal.overflow_mul-result
overflow_mul-result c =
    let q = c.args.subframe / 10240 in
    let few : c.from.result ≤ 10240 = omega arith in
    omega (arith, mul-le-mul_right q few)

pub overflow_add-result : goal.overflow_add-result
overflow_add-result c =
    let q = c.args.subframe / 10240 in
    let few : c.from.result ≤ 10240 = omega arith in
    omega (arith, mul-le-mul_right q few)

pub returns : goal.returns
unfolding index
returns c =
    let p = c.args.self.now in
    let q = c.args.subframe / 10240 in
    let few : c.from.result ≤ 10240 = omega arith in
    let is : c.from.result * q + c.from-2.result ≡ index (meaning p) c.args.subframe =
    ap (λ t. t * q + c.from-2.result) (c.from.ensures ∙ c.cycle.ensures.value) ∙ ap (λ n. cycle (meaning p) * q + n) (c.from-2.ensures ∙ c.set_before.ensures.value) in
    record {
      value = is;
      first = subst (λ i. Next (meaning p) c.args.subframe i) (sym is) (next_is (meaning p) (keeps p) c.args.subframe);
      bound = omega (arith, mul-le-mul_right q few);
    }
