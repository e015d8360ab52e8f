use Rattle.choosing.specs.Searches.{pool_of, asked, slots}
use Rattle.reserving.specs.Lifts.{Lifted, by_index}
use Rattle.reserving.proofs.walks.Walk.lift_index.Given as goal

abbrev pub invariant-loop-resource : goal.invariant-loop-resource
invariant-loop-resource g l = Lifted (slots l.self.search) (by_index (pool_of l.self.search) (g.M.Asking.meaning l.self.memory.now) (asked l.self.search) l.resource l.z) l.initial.rows l.rows
