use Rattle.std.proofs.Common.{◌≡◌, ℕ, ◌<◌, true, leb, get_or}
use Rattle.pool.proofs.configure.levels_ok.Given as goal

abbrev pub invariant-loop-level : goal.invariant-loop-level
invariant-loop-level l = (k : ℕ) → k < l.level-index → leb (get_or l.levels k 0) 66 ≡ true
