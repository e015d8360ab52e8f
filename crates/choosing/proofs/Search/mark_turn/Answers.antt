use Rattle.std.proofs.Common.{◌<◌, Bool, false, ◌||◌, ◌≢◌, length, get_or, ap, ◌∙◌, arith, length-set, get_or-set_other, get_or-set_same, below_more}
use Rattle.choosing.proofs.Search.mark_turn.Goals as goal

pub loop-i-preserved : goal.loop-i-preserved
loop-i-preserved c =
    let xs = c.loop-i.flags in
    let i = c.loop-i.i in
    let before = c.loop-i.invariant in
    let few = c.args.self.now.few in
    let long = before.long in
    let v : Bool = get_or xs i false || c.is_turn.result in
    let lt : i < length xs = omega arith in
    record {
      done = below_more _ _
          (λ k h. let ne : k ≢ i = omega arith in get_or-set_other xs i k v false ne ∙ before.done k h)
          (get_or-set_same xs i v false lt ∙ ap (λ b. b || c.is_turn.result) (before.rest i (omega arith)) ∙ ap (λ b. get_or c.args.flags.now i false || b) c.is_turn.ensures);
      rest = λ j h. let ne : j ≢ i = omega arith in get_or-set_other xs i j v false ne ∙ before.rest j (omega arith);
      long = length-set xs i v ∙ long;
    }
