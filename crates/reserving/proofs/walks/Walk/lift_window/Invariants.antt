use Rattle.std.proofs.Common.{◌-◌}
use Rattle.choosing.specs.Searches.{pool_of, asked, slots}
use Rattle.reserving.specs.Lifts.{Lifted, by_window}
use Rattle.reserving.proofs.walks.Walk.lift_window.Given as goal

abbrev pub invariant-loop-z : goal.invariant-loop-z
invariant-loop-z g l = Lifted (slots l.self.search) (by_window (pool_of l.self.search) (g.M.Asking.meaning l.self.memory.now) (asked l.self.search) l.initial.z (l.z - l.initial.z)) l.initial.rows l.rows
