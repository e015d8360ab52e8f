use Rattle.std.proofs.Common.{◌≡◌, ℕ, ◌<◌, true, length, get_or}
use Rattle.rules.specs.Choose.{readings_in}
use Rattle.rules.specs.Sensing.{listened?}
use Rattle.measuring.proofs.means.readings_at.Given as goal

abbrev pub invariant-loop-a : goal.invariant-loop-a
invariant-loop-a g l =
    ((k : ℕ) → k < l.a → get_or l.readings k 0 ≡ get_or (readings_in ((g.M.Asking.meaning l.m).cell l.z)) k 0)
    × (0 < l.a → listened? ((g.M.Asking.meaning l.m).cell l.z) ≡ true)
    × (length l.readings ≡ 20)
