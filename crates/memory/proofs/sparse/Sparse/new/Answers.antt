use Rattle.std.proofs.Common.{length, subst, arith, rules}
use Rattle.rules.specs.Sensing.{New}
use Rattle.memory.specs.SparseParts.{meant}
use Rattle.memory.proofs.RingSteps.{begun}
use Rattle.memory.proofs.EntryDropping.{emptied_from}
use Rattle.memory.proofs.SparseSteps.{is_new, new_whole}
use Rattle.memory.proofs.sparse.Sparse.new.Goals as goal

pub invariant_of-result : goal.invariant_of-result
invariant_of-result c =
    let e = c.new.ensures in
    let ring = begun c.args.channels c.args.window c.new.result e.channels e.window (omega (arith, e.next)) e.nothing in
    let bare = emptied_from (length c.args.places.now) c.fill.new.self (c.fill.ensures.after (λ y h. search rules)) in
    let k = new_whole c.args.channels c.args.window c.new.result c.fill.new.self ring bare c.requires.ring.some c.requires.ring.few (omega (arith, c.fill.ensures.len, c.requires.deep)) in
    record { keys = k.keys; lives = k.lives; sound = ∣ k.sound ∣₁ }

pub returns : goal.returns
returns c =
    let e = c.new.ensures in
    let ring = begun c.args.channels c.args.window c.new.result e.channels e.window (omega (arith, e.next)) e.nothing in
    let bare = emptied_from (length c.args.places.now) c.fill.new.self (c.fill.ensures.after (λ y h. search rules)) in
    subst (λ k. New c.args.channels c.args.window k (meant c.new.result c.fill.new.self)) c.fill.ensures.len (is_new c.args.channels c.args.window c.new.result c.fill.new.self ring bare)
