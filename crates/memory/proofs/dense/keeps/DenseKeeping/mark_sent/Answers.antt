use Rattle.std.proofs.Common.{arith}
use Rattle.rules.specs.Sensing.{sent}
use Rattle.rules.proofs.Soundness.{sent_sound}
use Rattle.sensing.specs.declared.State.TheVariants.{Sent}
use Rattle.sensing.proofs.Said.{from_bare}
use Rattle.memory.specs.DenseMemory.{dense, dense_sound}
use Rattle.memory.proofs.RingSteps.{room_same}
use Rattle.memory.proofs.DenseSteps.{same_after, cell_changed, room_enough}
use Rattle.memory.proofs.dense.keeps.DenseKeeping.mark_sent.Goals as goal

pub invariant_of-self : goal.invariant_of-self
invariant_of-self c =
    let s = c.args.self.now in
    let i = c.args.index in
    let x = c.in_ok-examine_sent.ensures in
    let own = c.claim.ensures.owned in
    let r = c.mark_sent.new.self in
    let qs = c.claim.new.places in
    let same = same_after i s.ring c.claim.new.ring s.places.now qs x.1 own Sent sent r c.mark_sent.ensures.done in
    let d = cell_changed i s.ring c.claim.new.ring s.places.now qs x.1 own Sent sent r c.mark_sent.ensures.done in
    record {
      deep = omega (arith, s.deep, c.claim.ensures.size, room_same s.ring.next s.ring r same);
      sound = ∣ sent_sound _ i _ (dense_sound s) (from_bare (dense s) i x.3) d (room_enough r qs) ∣₁;
    }

pub returns-clause-done : goal.returns-clause-done
returns-clause-done c = λ _.
    let s = c.args.self.now in
    cell_changed c.args.index s.ring c.claim.new.ring s.places.now c.claim.new.places c.in_ok-examine_sent.ensures.1 c.claim.ensures.owned Sent sent c.mark_sent.new.self c.mark_sent.ensures.done
