use Rattle.std.proofs.Common.{◌≡◌, ℕ, ◌<◌, List, get_or}
use Rattle.rules.specs.Sensing.{listened}
use Rattle.sensing.proofs.same_readings.Given as goal

abbrev pub invariant-loop-a : goal.invariant-loop-a
invariant-loop-a g l = (ks : List ℕ) → (g.M.Asking.meaning l.m).cell l.index ≡ listened ks → (k : ℕ) → k < l.a → get_or ks k 0 ≡ get_or l.readings k 0
