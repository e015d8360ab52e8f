use Rattle.std.proofs.Common.{◌≡◌, ℕ, ◌<◌, false, ◌||◌, [], length, get_or}
use Rattle.reserving.specs.Needs.{bars}
use Rattle.reserving.specs.declared.Need.TheVariants.{From}
use Rattle.reserving.proofs.Walked.{Walked}
use Rattle.reserving.proofs.lift_blinded.Given as goal

abbrev pub invariant-loop-i : goal.invariant-loop-i
invariant-loop-i l =
    Walked [] (λ i a b. (x r : ℕ) → x < 20 → bars (get_or b x (From 0)) r ≡ (bars (get_or a x (From 0)) r || get_or l.flags i false)) l.i l.initial.rows l.rows
    × (length l.rows ≡ 100)
