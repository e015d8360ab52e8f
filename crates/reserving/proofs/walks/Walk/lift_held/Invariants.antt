use Rattle.format1.specs.Records.{meant_of}
use Rattle.choosing.specs.Searches.{pool_of, asked, slots}
use Rattle.reserving.specs.Lifts.{Lifted, by_bases}
use Rattle.reserving.proofs.walks.Walk.lift_held.Given as goal

abbrev pub invariant-loop-k : goal.invariant-loop-k
invariant-loop-k g l = Lifted (slots l.search) (by_bases (pool_of l.search) (asked l.search) (meant_of l.what) l.resource l.z l.d l.k l.need) l.initial.rows l.rows
