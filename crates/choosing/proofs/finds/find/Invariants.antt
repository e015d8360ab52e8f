use Rattle.std.proofs.Common.{◌≡◌, ◌-◌, ◌+◌, ◌≤◌}
use Rattle.pool.specs.Pools.{meaning}
use Rattle.choosing.specs.Found.{slots_of, slots_from}
use Rattle.choosing.proofs.finds.find.Given as goal

abbrev pub invariant-loop-subframe : goal.invariant-loop-subframe
invariant-loop-subframe l =
    (slots_of l.found ≡ slots_from (meaning l.pool) l.first (l.subframe - l.first))
    × (l.found.count + l.first ≤ l.subframe)
    × (l.found.width ≡ l.width)
