use Rattle.std.proofs.Common.{◌<◌, length, refl, ◌∙◌, sym, subst, arith}
use Rattle.std.proofs.lemmas.List.{get_or_default}
use Rattle.std.proofs.Math.Logic.{∥∥₁_map}
use Rattle.selecting.specs.Entries.{nowhere, SomeOf}
use Rattle.selecting.proofs.Fewer.{some_fewer}
use Rattle.selecting.proofs.Report.unmark.Goals as goal

pub returns : goal.returns
returns c =
    let xs = c.args.self.now.marked.items in
    let i = c.args.i in
    let n = c.len.ensures.value in
    let a = c.remove.result in
    let low : i < length xs = omega arith in
    record {
      inside = low;
      place = c.remove.ensures.value ∙ get_or_default xs i a nowhere low;
      rest = c.remove.ensures.items;
      same = record { places = refl; raise_is = refl; question_is = refl; apart_is = refl };
    }

pub invariant_of-self : goal.invariant_of-self
invariant_of-self c =
    let r = c.args.self.now in
    let all = r.places.items in
    let xs = r.marked.items in
    record {
      few = r.few;
      lifted = r.lifted;
      ordered = r.ordered;
      some = subst (λ ys. ∥ SomeOf ys all ∥₁) (sym c.remove.ensures.items) (∥∥₁_map r.some (some_fewer xs all c.args.i));
    }
