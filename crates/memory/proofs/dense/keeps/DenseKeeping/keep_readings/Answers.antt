use Rattle.std.proofs.Common.{◌≡◌, ap, ◌∙◌, arith, rules}
use Rattle.std.proofs.lemmas.Result.{err_from_is_err_and}
use Rattle.answer.specs.Numbers.{number}
use Rattle.rules.specs.Sensing.{listened}
use Rattle.rules.proofs.Soundness.{listened_sound}
use Rattle.sensing.specs.declared.Kept.TheVariants.{New}
use Rattle.sensing.specs.declared.State.TheVariants.{Listened}
use Rattle.sensing.specs.Memories.{kept}
use Rattle.memory.specs.DenseMemory.{dense, dense_sound}
use Rattle.memory.proofs.Asked.{readings_err, readings_kept, readings_new}
use Rattle.memory.proofs.RingSteps.{room_same}
use Rattle.memory.proofs.DenseSteps.{same_after, cell_changed, room_enough}
use Rattle.memory.proofs.dense.keeps.DenseKeeping.keep_readings.Goals as goal

pub returns-in_err-kept-clause-answer : goal.returns-in_err-kept-clause-answer
returns-in_err-kept-clause-answer c =
    let p = err_from_is_err_and c.from_residual.result c.from_residual.ensures.1 in
    ap kept p.1 ∙ ap number p.2 ∙ readings_err (dense c.args.self.now) c.args.index c.args.readings.now c.in_err-kept.field-0.0 c.in_err-kept.ensures

pub invariant_of-self : goal.invariant_of-self
invariant_of-self c =
    let s = c.args.self.now in
    let i = c.args.index in
    let rs = c.args.readings.now in
    let is : c.in_ok-kept.kept ≡ New = search rules in
    let x = readings_new (dense s) i rs c.in_ok-kept.kept c.in_ok-kept.ensures is in
    let own = c.claim.ensures.owned in
    let r = c.keep_readings.new.self in
    let qs = c.claim.new.places in
    let same = same_after i s.ring c.claim.new.ring s.places.now qs x.0 own Listened (listened rs) r c.keep_readings.ensures.done in
    let d = cell_changed i s.ring c.claim.new.ring s.places.now qs x.0 own Listened (listened rs) r c.keep_readings.ensures.done in
    record {
      deep = omega (arith, s.deep, c.claim.ensures.size, room_same s.ring.next s.ring r same);
      sound = ∣ listened_sound _ i rs _ (dense_sound s) x.1 d (room_enough r qs) ∣₁;
    }

pub returns-then-eq-clause-answer : goal.returns-then-eq-clause-answer
returns-then-eq-clause-answer c = readings_kept (dense c.args.self.now) c.args.index c.args.readings.now c.in_ok-kept.kept c.in_ok-kept.ensures

pub returns-then-eq-clause-done : goal.returns-then-eq-clause-done
returns-then-eq-clause-done c = λ _.
    let s = c.args.self.now in
    let i = c.args.index in
    let rs = c.args.readings.now in
    let is : c.in_ok-kept.kept ≡ New = search rules in
    let x = readings_new (dense s) i rs c.in_ok-kept.kept c.in_ok-kept.ensures is in
    cell_changed i s.ring c.claim.new.ring s.places.now c.claim.new.places x.0 c.claim.ensures.owned Listened (listened rs) c.keep_readings.new.self c.keep_readings.ensures.done

pub returns-else-eq-clause-answer : goal.returns-else-eq-clause-answer
returns-else-eq-clause-answer c = readings_kept (dense c.args.self.now) c.args.index c.args.readings.now c.in_ok-kept.kept c.in_ok-kept.ensures
