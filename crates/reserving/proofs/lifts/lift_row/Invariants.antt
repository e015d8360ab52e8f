use Rattle.std.proofs.Common.{◌≡◌, ℕ, ◌||◌, length}
use Rattle.reserving.specs.Lifts.{by_share}
use Rattle.reserving.specs.Needs.{bars}
use Rattle.reserving.specs.declared.Need.TheVariants.{From}
use Rattle.reserving.proofs.Walked.{Walked}
use Rattle.reserving.proofs.lifts.lift_row.Given as goal

abbrev pub invariant-loop-x : goal.invariant-loop-x
invariant-loop-x l = Walked (From 0) (λ x a b. (r : ℕ) → bars b r ≡ (bars a r || by_share l.wide l.taken.first l.taken.many l.need r x)) l.x l.initial.row l.row × (length l.row ≡ 20)
