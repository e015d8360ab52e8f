use Rattle.std.proofs.Common.{arith, rules}
use Rattle.memory.proofs.RingSteps.{begun}
use Rattle.memory.proofs.DenseSteps.{new_room, is_new, new_sound}
use Rattle.memory.proofs.dense.Dense.new.Goals as goal

pub invariant_of-result : goal.invariant_of-result
invariant_of-result c =
    let n = c.args.channels in
    let w = c.args.window in
    let e = c.new.ensures in
    let ring = begun n w c.new.result e.channels e.window (omega (arith, e.next)) e.nothing in
    let none = c.fill.ensures.after (λ y h. search rules) in
    let room = new_room n w _ c.new.result c.fill.new.self ring none in
    let s = new_sound n w _ c.new.result c.fill.new.self ring none c.requires.ring.some c.requires.ring.few in
    record { deep = omega (arith, room, c.requires.deep, c.fill.ensures.len); sound = ∣ s ∣₁ }

pub returns : goal.returns
returns c =
    let e = c.new.ensures in
    let ring = begun c.args.channels c.args.window c.new.result e.channels e.window (omega (arith, e.next)) e.nothing in
    is_new c.args.channels c.args.window _ c.new.result c.fill.new.self ring (c.fill.ensures.after (λ y h. search rules))
