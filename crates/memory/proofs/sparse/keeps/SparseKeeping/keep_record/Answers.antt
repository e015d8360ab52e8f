use Rattle.std.proofs.Common.{◌<◌, length, Some, None, Ok, Err, Option, sym, refl, ap, ◌∙◌, subst, arith}
use Rattle.std.proofs.lemmas.Result.{err_from_is_err_and}
use Rattle.answer.specs.Numbers.{number}
use Rattle.answer.proofs.Some.{number_some}
use Rattle.rules.specs.Sensing.{Added, Fair, held_count}
use Rattle.rules.proofs.Accepted.{record_refused, record_already, record_full, record_new, record_unsent}
use Rattle.sensing.specs.Memories.{kept}
use Rattle.sensing.specs.declared.Held.{Held}
use Rattle.memory.specs.SparseMemory.{sparse}
use Rattle.memory.specs.SparseParts.{meant}
use Rattle.memory.proofs.Asked.{as_examined}
use Rattle.memory.proofs.SparseSelf.{whole}
use Rattle.memory.proofs.SparseSteps.{held_used, found_none, put_added, put_whole}
use Rattle.memory.proofs.sparse.keeps.SparseKeeping.keep_record.Goals as goal

pub returns-in_err-held-clause-answer : goal.returns-in_err-held-clause-answer
returns-in_err-held-clause-answer c =
    let m = sparse c.args.self.now in
    let e = c.in_err-held.field-0.0 in
    let p = err_from_is_err_and c.from_residual.result c.from_residual.ensures.1 in
    let x = as_examined m c.args.index c.args.resource c.args.bytes c.args.rsrp (Err e) (Err e) c.ranges.rsrp refl c.in_err-held.ensures in
    ap kept p.1 ∙ ap number p.2 ∙ sym (record_refused m c.args.index c.args.resource c.args.bytes c.args.rsrp (number e) x (λ z. omega (arith, number_some e)))

pub returns-in_default-clause-answer : goal.returns-in_default-clause-answer
returns-in_default-clause-answer c =
    let m = sparse c.args.self.now in
    let x = as_examined m c.args.index c.args.resource c.args.bytes c.args.rsrp _ (Ok None) c.ranges.rsrp (ap (λ (o : Option Held). Ok o) c.in_default.is) c.in_ok-held.ensures in
    sym (record_already m c.args.index c.args.resource c.args.bytes c.args.rsrp _ x.0.answer x.1)

pub returns-in_default-free-clause-answer : goal.returns-in_default-free-clause-answer
returns-in_default-free-clause-answer c =
    let s = c.args.self.now in
    let k = whole s in
    let x = as_examined (sparse s) c.args.index c.args.resource c.args.bytes c.args.rsrp _ (Ok (Some c.in-Some.held)) c.ranges.rsrp (ap (λ (o : Option Held). Ok o) c.in-Some.is) c.in_ok-held.ensures in
    sym (record_full (sparse s) c.args.index c.args.resource c.args.bytes c.args.rsrp x.0.answer x.1 (held_used s.ring s.places.now k.sound.old k.keys k.lives ∙ c.in_default-free.ensures))

pub invariant_of-self : goal.invariant_of-self
invariant_of-self c =
    let s = c.args.self.now in
    let i = c.args.index in
    let a = c.args.resource in
    let x = as_examined (sparse s) i a c.args.bytes c.args.rsrp _ (Ok (Some c.in-Some.held)) c.ranges.rsrp (ap (λ (o : Option Held). Ok o) c.in-Some.is) c.in_ok-held.ensures in
    let fair = subst (Fair s.ring.channels a) (sym x.2) x.0.fair in
    let k = put_whole s.ring i a c.in-Some.held s.places.now c.put.new.places (whole s) x.0.inside x.0.below fair (record_unsent (sparse s) i a c.args.bytes c.args.rsrp x.0.answer) (found_none s.places.now i a x.1) c.put.ensures in
    record { keys = k.keys; lives = k.lives; sound = ∣ k.sound ∣₁ }

pub returns : goal.returns
returns c =
    let s = c.args.self.now in
    let i = c.args.index in
    let a = c.args.resource in
    let w = whole s in
    let x = as_examined (sparse s) i a c.args.bytes c.args.rsrp _ (Ok (Some c.in-Some.held)) c.ranges.rsrp (ap (λ (o : Option Held). Ok o) c.in-Some.is) c.in_ok-held.ensures in
    let fair = subst (Fair s.ring.channels a) (sym x.2) x.0.fair in
    let count = held_used s.ring s.places.now w.sound.old w.keys w.lives in
    let room : held_count (sparse s) < length s.places.now = omega (arith, count, c.put.ensures.room) in
    let added = put_added s.ring i a c.in-Some.held s.places.now c.put.new.places w x.0.inside x.0.below fair (record_unsent (sparse s) i a c.args.bytes c.args.rsrp x.0.answer) (found_none s.places.now i a x.1) c.put.ensures in
    record {
      answer = sym (record_new (sparse s) i a c.args.bytes c.args.rsrp x.0.answer x.1 room);
      done = λ _. subst (λ h. Added (sparse s) i a h (meant s.ring c.put.new.places)) x.2 added;
      refused = λ no. absurd (no refl);
    }
