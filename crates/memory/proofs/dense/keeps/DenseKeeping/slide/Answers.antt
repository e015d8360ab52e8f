use Rattle.std.proofs.Common.{arith}
use Rattle.rules.proofs.Soundness.{moved_sound}
use Rattle.memory.specs.DenseMemory.{dense_sound}
use Rattle.memory.proofs.RingSteps.{room_same}
use Rattle.memory.proofs.DenseSteps.{moves, room_enough}
use Rattle.memory.proofs.dense.keeps.DenseKeeping.slide.Goals as goal

pub invariant_of-self : goal.invariant_of-self
invariant_of-self c =
    let s = c.args.self.now in
    let r' = c.slide.new.self in
    record {
      deep = omega (arith, s.deep, room_same c.args.n s.ring r' c.slide.ensures.same);
      sound = ∣ moved_sound _ c.args.n _ (dense_sound s) c.if-n-self.false (moves c.args.n s.ring r' s.places.now c.slide.ensures) (room_enough r' s.places.now) ∣₁;
    }

pub returns-clause-done : goal.returns-clause-done
returns-clause-done c = λ _. moves c.args.n c.args.self.now.ring c.slide.new.self c.args.self.now.places.now c.slide.ensures
