use Rattle.std.proofs.Common.{arith}
use Rattle.memory.proofs.SparseSelf.{whole}
use Rattle.memory.proofs.SparseSteps.{slid, slid_whole}
use Rattle.memory.proofs.sparse.keeps.SparseKeeping.slide.Goals as goal

pub overflow_sub-n : goal.overflow_sub-n
overflow_sub-n c = let k = whole c.args.self.now in let old = k.sound.old in omega arith

pub invariant_of-self : goal.invariant_of-self
invariant_of-self c =
    let s = c.args.self.now in
    let k = slid_whole s.ring c.slide.new.self c.args.n s.places.now c.drop_below.new.places (whole s) c.if-n-self.false c.slide.ensures c.drop_below.ensures in
    record { keys = k.keys; lives = k.lives; sound = ∣ k.sound ∣₁ }

pub returns-clause-done : goal.returns-clause-done
returns-clause-done c = λ _.
    let s = c.args.self.now in
    slid s.ring c.slide.new.self c.args.n s.places.now c.drop_below.new.places (whole s) c.if-n-self.false c.slide.ensures c.drop_below.ensures
