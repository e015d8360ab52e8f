use Rattle.std.proofs.Common.{◌≡◌, [], length}
use Rattle.choosing.specs.Fits.{place_of}
use Rattle.choosing.specs.Searches.{pool_of, asked, slots}
use Rattle.reserving.specs.Lifts.{RowLifted, by_turn}
use Rattle.reserving.proofs.Walked.{Walked}
use Rattle.reserving.proofs.lifts.lift_turn.Given as goal

abbrev pub invariant-loop-i : goal.invariant-loop-i
invariant-loop-i l =
    Walked [] (λ i a b. RowLifted (λ r x. by_turn (pool_of l.search) (asked l.search) l.t l.taken.first l.taken.many l.need r (place_of (slots l.search) i x)) a b) l.i l.initial.rows l.rows
    × (length l.rows ≡ 100)
