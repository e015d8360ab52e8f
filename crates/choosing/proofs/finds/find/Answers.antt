use Rattle.std.proofs.Common.{◌≡◌, ◌+◌, ◌-◌, ◌≤◌, [], ◌∷◌, ◌++◌, sym, ap, ◌∙◌, subst, arith}
use Rattle.pool.specs.Pools.{meaning}
use Rattle.choosing.specs.Found.{slots_of, slots_from}
use Rattle.choosing.specs.declared.Candidates.{Candidates}
use Rattle.choosing.proofs.Listing.{slots_yes, slots_no}
use Rattle.choosing.proofs.finds.find.Goals as goal
use Rattle.choosing.proofs.finds.find.Goals.{in-Some, in_default}

pub loop-subframe-preserved : goal.loop-subframe-preserved
loop-subframe-preserved c =
    let p = meaning c.args.pool.now in
    let first = c.args.first in
    let s = c.loop-subframe.subframe in
    let few = c.loop-subframe.invariant.1 in
    let Kept : Candidates → Type 0 = λ f. (slots_of f ≡ slots_from p first (s + 1 - first)) × (f.count + first ≤ s + 1) × (f.width ≡ c.args.width) in
    elim c.match-pool_index.branch [
      | in-Some w ↦
          let one = w.push.ensures.count in
          subst Kept (sym w.found-is) (
            w.push.ensures.slots ∙ ap (λ xs. xs ++ record { subframe = s; index = w.in-Some.index } ∷ []) c.loop-subframe.invariant.0 ∙ sym (slots_yes p first s w.in-Some.index (omega arith) w.in-Some.ensures),
            omega arith,
            w.push.ensures.width ∙ c.loop-subframe.invariant.2,
          )
      | in_default w ↦
          subst Kept (sym w.found-is)
          (c.loop-subframe.invariant.0 ∙ sym (slots_no p first s (omega arith) w.in_default.ensures), omega arith, c.loop-subframe.invariant.2)
    ]

pub returns-clause-slots : goal.returns-clause-slots
returns-clause-slots c = let all : c.loop-subframe.subframe ≡ c.args.end = omega arith in c.loop-subframe.invariant.0 ∙ ap (λ s. slots_from (meaning c.args.pool.now) c.args.first (s - c.args.first)) all
