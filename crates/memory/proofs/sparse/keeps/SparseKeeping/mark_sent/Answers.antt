use Rattle.sensing.specs.declared.State.TheVariants.{Sent}
use Rattle.sensing.proofs.Said.{from_bare}
use Rattle.memory.specs.SparseMemory.{sparse}
use Rattle.memory.proofs.SparseSelf.{whole}
use Rattle.memory.proofs.SparseSteps.{sent_whole}
use Rattle.memory.proofs.sparse.keeps.SparseKeeping.mark_sent.Goals as goal

pub invariant_of-self : goal.invariant_of-self
invariant_of-self c =
    let s = c.args.self.now in
    let i = c.args.index in
    let asked = c.in_ok-examine_sent.ensures in
    let k = sent_whole i Sent s.ring c.mark_sent.new.self s.places.now (whole s) asked.1 (from_bare (sparse s) i asked.3) c.mark_sent.ensures.done in
    record { keys = k.keys; lives = k.lives; sound = ∣ k.sound ∣₁ }
