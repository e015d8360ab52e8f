use Rattle.std.proofs.Common.{set, Some, sym, subst, arith}
use Rattle.rules.specs.Sensing.{Added}
use Rattle.sensing.specs.Memories.{held_of}
use Rattle.memory.specs.DensePlaces.{meant}
use Rattle.memory.proofs.DenseSteps.{record_added}
use Rattle.memory.proofs.dense.keeps.put.Goals as goal

pub returns-clause-done : goal.returns-clause-done
returns-clause-done c =
    let r = c.args.ring.now in
    let ps = c.args.places.now in
    let r' = c.claim.new.ring in
    let qs = c.claim.new.places in
    let i = c.args.index in
    let a = c.args.resource in
    let h = c.args.held in
    subst (λ k. Added (meant r ps) i a (held_of h) (meant r' (set qs k (Some h)))) (sym c.place.ensures)
    (record_added i r r' ps qs c.requires.inside c.claim.ensures.owned a h c.requires.below (omega (arith, c.claim.ensures.size, c.requires.deep)))
