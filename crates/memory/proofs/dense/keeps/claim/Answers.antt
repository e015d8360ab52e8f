use Rattle.std.proofs.Common.{◌≡◌, ◌+◌, ◌-◌, ◌*◌, ◌<◌, ◌≤◌, length, replicate, None, inl, inr, ⊎_elim, sym, ap, ◌∙◌, arith, rules}
use borrow.Rule.Slice.PartMut.{put_mid}
use Rattle.std.proofs.lemmas.Bool.{not-true, not-false}
use Rattle.memory.specs.Rings.{place}
use Rattle.memory.proofs.RowCells.{block_below}
use Rattle.memory.proofs.RingSteps.{room_same}
use Rattle.memory.proofs.DenseHeld.{owns_already, owns_now, part_gone, part_others}
use Rattle.memory.proofs.dense.keeps.claim.Goals as goal

pub returns-then-claim-clause-owned : goal.returns-then-claim-clause-owned
returns-then-claim-clause-owned c =
    let r = c.args.ring.now in
    let r' = c.claim.new.self in
    let i = c.args.index in
    let did = c.if-claim.ensures in
    let places = c.args.places.now in
    let at = c.place-at.result in
    let n = at + c.from.result - at in
    let many : n ≡ r'.channels = omega (arith, c.from.ensures) in
    let start : at ≡ place r' i 0 = c.place-at.ensures in
    let deep : (r'.window + 1) * r'.channels ≤ length places = omega (arith, c.requires.deep, room_same r.next r r' did.done.same) in
    let room : at + n ≤ length places = omega (arith, block_below r'.window r'.channels i (length places) deep) in
    let none : c.fill.new.self ≡ replicate n None = c.fill.ensures.after (λ y h. search rules) ∙ ap (λ m. replicate m None) (omega arith) in
    owns_now i r r' places did.done (put_mid at n places c.fill.new.self) (not-true _ (sym did.other))
    (λ k low high. part_gone at n places c.fill.new.self room none k (omega arith) (omega arith))
    (λ k side. part_others at n places c.fill.new.self room none k (⊎_elim (λ (h : k < place r' i 0). inl (omega arith)) (λ (h : place r' i 0 + r'.channels ≤ k). inr (omega arith)) side))

pub returns-else-claim-clause-owned : goal.returns-else-claim-clause-owned
returns-else-claim-clause-owned c =
    let did = c.if-claim.ensures in
    owns_already c.args.index c.args.ring.now c.claim.new.self c.args.places.now did.done (not-false _ (sym did.other))
