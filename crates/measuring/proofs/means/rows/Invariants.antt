use Rattle.std.proofs.Common.{◌≡◌, ℕ, ◌<◌, [], length, get_or}
use Rattle.measuring.specs.Means.{MeansOf}
use Rattle.measuring.specs.declared.Sum.{Sum}
use Rattle.measuring.proofs.means.rows.Given as goal

abbrev pub invariant-loop-i : goal.invariant-loop-i
invariant-loop-i l =
    ((j : ℕ) → j < l.i → (d : Sum) → MeansOf (get_or l.sums j d) (get_or l.rows j []))
    × (length l.rows ≡ 100)
