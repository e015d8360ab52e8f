use Rattle.std.proofs.Common.{◌≡◌, ℕ, ◌<◌, true, leb, get_or}
use Rattle.sensing.proofs.readings_ok.Given as goal

abbrev pub invariant-loop-reading : goal.invariant-loop-reading
invariant-loop-reading l = (k : ℕ) → k < l.reading-index → leb (get_or l.readings k 0) 4000000000 ≡ true
