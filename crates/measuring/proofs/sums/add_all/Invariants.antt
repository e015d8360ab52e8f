use Rattle.std.proofs.Common.{◌≡◌, ℕ, ◌<◌, ◌≤◌, slice_index, slice_index_or}
use Rattle.measuring.specs.declared.Sum.{Sum}
use Rattle.measuring.specs.Sums.{lies, More}
use Rattle.measuring.proofs.sums.add_all.Given as goal

abbrev pub invariant-loop-sum : goal.invariant-loop-sum
invariant-loop-sum l =
    ((i : ℕ) → i < l.sum-index → (d : Sum) → More (lies l.step l.z (slice_index_or l.initial.sums i d).at) (λ x. slice_index l.powers.from x) (slice_index_or l.initial.sums i d) (slice_index_or l.sums i d))
    × ((i : ℕ) → l.sum-index ≤ i → (d : Sum) → slice_index_or l.sums i d ≡ slice_index_or l.initial.sums i d)
