use Rattle.std.proofs.Common.{Some, None, Ok, Err, Option, sym, refl, ap, ◌∙◌, subst, arith}
use Rattle.std.proofs.lemmas.Result.{err_from_is_err_and}
use Rattle.answer.specs.Numbers.{number}
use Rattle.answer.proofs.Some.{number_some}
use Rattle.rules.specs.Sensing.{Added, Fair}
use Rattle.rules.proofs.Accepted.{record_refused, record_already, record_new, record_unsent}
use Rattle.rules.proofs.HeldCount.{held_count_less}
use Rattle.rules.proofs.Soundness.{added_sound}
use Rattle.sensing.specs.Memories.{kept}
use Rattle.sensing.specs.declared.Held.{Held}
use Rattle.memory.specs.DensePlaces.{meant}
use Rattle.memory.specs.DenseMemory.{dense, dense_sound}
use Rattle.memory.proofs.Asked.{as_examined}
use Rattle.memory.proofs.RingSteps.{room_same}
use Rattle.memory.proofs.DenseSteps.{room_enough}
use Rattle.memory.proofs.dense.keeps.DenseKeeping.keep_record.Goals as goal

pub returns-in_err-held-clause-answer : goal.returns-in_err-held-clause-answer
returns-in_err-held-clause-answer c =
    let m = dense c.args.self.now in
    let e = c.in_err-held.field-0.0 in
    let p = err_from_is_err_and c.from_residual.result c.from_residual.ensures.1 in
    let x = as_examined m c.args.index c.args.resource c.args.bytes c.args.rsrp (Err e) (Err e) c.ranges.rsrp refl c.in_err-held.ensures in
    ap kept p.1 ∙ ap number p.2 ∙ sym (record_refused m c.args.index c.args.resource c.args.bytes c.args.rsrp (number e) x (λ z. omega (arith, number_some e)))

pub returns-in_default-clause-answer : goal.returns-in_default-clause-answer
returns-in_default-clause-answer c =
    let m = dense c.args.self.now in
    let x = as_examined m c.args.index c.args.resource c.args.bytes c.args.rsrp _ (Ok None) c.ranges.rsrp (ap (λ (o : Option Held). Ok o) c.in_default.is) c.in_ok-held.ensures in
    sym (record_already m c.args.index c.args.resource c.args.bytes c.args.rsrp _ x.0.answer x.1)

pub put-requires : goal.put-requires
put-requires c =
    let s = c.args.self.now in
    let x = as_examined (dense s) c.args.index c.args.resource c.args.bytes c.args.rsrp _ (Ok (Some c.in-Some.held)) c.ranges.rsrp (ap (λ (o : Option Held). Ok o) c.in-Some.is) c.in_ok-held.ensures in
    record { inside = x.0.inside; below = x.0.below; deep = s.deep }

pub invariant_of-self : goal.invariant_of-self
invariant_of-self c =
    let s = c.args.self.now in
    let i = c.args.index in
    let a = c.args.resource in
    let x = as_examined (dense s) i a c.args.bytes c.args.rsrp _ (Ok (Some c.in-Some.held)) c.ranges.rsrp (ap (λ (o : Option Held). Ok o) c.in-Some.is) c.in_ok-held.ensures in
    let r = c.put.new.ring in
    let fair = subst (Fair s.ring.channels a) (sym x.2) x.0.fair in
    record {
      deep = omega (arith, s.deep, c.put.ensures.size, room_same s.ring.next s.ring r c.put.ensures.same);
      sound = ∣ added_sound _ i a _ _ (dense_sound s) fair (record_unsent (dense s) i a c.args.bytes c.args.rsrp x.0.answer) c.put.ensures.done (room_enough r c.put.new.places) ∣₁;
    }

pub returns : goal.returns
returns c =
    let s = c.args.self.now in
    let i = c.args.index in
    let a = c.args.resource in
    let x = as_examined (dense s) i a c.args.bytes c.args.rsrp _ (Ok (Some c.in-Some.held)) c.ranges.rsrp (ap (λ (o : Option Held). Ok o) c.in-Some.is) c.in_ok-held.ensures in
    record {
      answer = sym (record_new (dense s) i a c.args.bytes c.args.rsrp x.0.answer x.1 (held_count_less (dense s) i a (dense_sound s).old x.0.inside x.0.below x.1));
      done = λ _. subst (λ h. Added (dense s) i a h (meant c.put.new.ring c.put.new.places)) x.2 c.put.ensures.done;
      refused = λ no. absurd (no refl);
    }
