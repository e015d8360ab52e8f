use Rattle.std.proofs.Common.{◌≡◌, ℕ, ◌+◌, ◌-◌, length, get_or, ap, ◌∙◌, subst, arith}
use Rattle.pool.specs.Pools.{meaning}
use Rattle.rules.specs.Calendar.{window}
use Rattle.choosing.specs.Asked.{question_of}
use Rattle.choosing.specs.Found.{slots_of}
use Rattle.choosing.specs.Fits.{index_of}
use Rattle.measuring.specs.Sums.{Added, Walked}
use Rattle.measuring.proofs.Adding.{blank, walked_more, walked_mean}
use Rattle.measuring.proofs.means.means.Goals as goal

pub loop-z-preserved : goal.loop-z-preserved
loop-z-preserved g c =
    let m = g.M.Asking.meaning c.args.m.now in
    let q = question_of c.args.q.now in
    let low = c.next_index-next.result - m.window in
    let k = c.loop-z.z - low in
    let y : ℕ → ℕ = index_of (slots_of c.args.c.now) in
    let step = c.sample_step-step.result in
    let w = c.window.ensures in
    let from = c.loop-z.auto.z in
    let here : c.loop-z.z ≡ low + k = omega arith in
    let next : k + 1 ≡ c.loop-z.z + 1 - low = omega arith in (
      (λ i h d.
          subst (λ n. Walked m q step low n (y i) (get_or c.add_index.new.sums i d)) next
          (walked_more m q step low k (y i) (get_or c.loop-z.sums i d) (get_or c.add_index.new.sums i d) (c.loop-z.invariant.0 i h d)
          (subst (λ n. Added m q step n (get_or c.loop-z.sums i d) (get_or c.add_index.new.sums i d)) here (c.add_index.ensures i (omega arith) d)))),
      omega arith,
    )

pub returns : goal.returns
returns g c fit i x l h w =
    let m = g.M.Asking.meaning c.args.m.now in
    let p = meaning c.args.pool.now in
    let q = question_of c.args.q.now in
    let few = c.slots-slots.ensures.few in
    let long = ap length c.slots-slots.ensures.value in
    let done = c.loop-z.invariant.0 i l blank in
    let n = c.next_index-next.ensures in
    let v = c.window.ensures in
    let old = (g.M.Asking.sound c.args.m.now).old in
    let end = c.loop-z.auto.z-end (omega arith) in
    let same_window = fit.window in
    let first : c.next_index-next.result - m.window ≡ m.next - window p = omega arith in
    let many : c.loop-z.z - (c.next_index-next.result - m.window) ≡ window p = omega arith in
    (c.rows.ensures i (omega arith) blank).each x h ∙ walked_mean p m q _ _ _ _ x (get_or c.loop-z.sums i blank) c.sample_step-step.ensures first many done h (omega (arith, fit.channels))
