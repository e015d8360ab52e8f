use Rattle.std.proofs.Common.{◌≡◌, ap, ◌∙◌, rules}
use Rattle.std.proofs.lemmas.Result.{err_from_is_err_and}
use Rattle.answer.specs.Numbers.{number}
use Rattle.sensing.specs.declared.Kept.TheVariants.{New}
use Rattle.sensing.specs.declared.State.TheVariants.{Listened}
use Rattle.sensing.specs.Memories.{kept}
use Rattle.memory.specs.SparseMemory.{sparse}
use Rattle.memory.proofs.Asked.{readings_err, readings_kept, readings_new}
use Rattle.memory.proofs.SparseSelf.{whole}
use Rattle.memory.proofs.SparseSteps.{heard_whole}
use Rattle.memory.proofs.sparse.keeps.SparseKeeping.keep_readings.Goals as goal

pub returns-in_err-kept-clause-answer : goal.returns-in_err-kept-clause-answer
returns-in_err-kept-clause-answer c =
    let p = err_from_is_err_and c.from_residual.result c.from_residual.ensures.1 in
    ap kept p.1 ∙ ap number p.2 ∙ readings_err (sparse c.args.self.now) c.args.index c.args.readings.now c.in_err-kept.field-0.0 c.in_err-kept.ensures

pub invariant_of-self : goal.invariant_of-self
invariant_of-self c =
    let s = c.args.self.now in
    let is : c.in_ok-kept.kept ≡ New = search rules in
    let x = readings_new (sparse s) c.args.index c.args.readings.now c.in_ok-kept.kept c.in_ok-kept.ensures is in
    let k = heard_whole c.args.index Listened c.args.readings.now s.ring c.keep_readings.new.self s.places.now (whole s) x.0 x.1 c.keep_readings.ensures.done in
    record { keys = k.keys; lives = k.lives; sound = ∣ k.sound ∣₁ }

pub returns-then-eq-clause-answer : goal.returns-then-eq-clause-answer
returns-then-eq-clause-answer c = readings_kept (sparse c.args.self.now) c.args.index c.args.readings.now c.in_ok-kept.kept c.in_ok-kept.ensures

pub returns-else-eq-clause-answer : goal.returns-else-eq-clause-answer
returns-else-eq-clause-answer c = readings_kept (sparse c.args.self.now) c.args.index c.args.readings.now c.in_ok-kept.kept c.in_ok-kept.ensures
