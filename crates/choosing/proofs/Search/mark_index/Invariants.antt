use Rattle.std.proofs.Common.{◌-◌}
use Rattle.std.specs.List.{range_with_len}
use Rattle.rules.specs.Counting.{any}
use Rattle.choosing.specs.Blinds.{Marked, by_one}
use Rattle.choosing.specs.Searches.{pool_of, asked, slots}
use Rattle.choosing.proofs.Search.mark_index.Given as goal

abbrev pub invariant-loop-code : goal.invariant-loop-code
invariant-loop-code g l = Marked (slots l.self) (λ y. any (λ code. by_one (pool_of l.self) (asked l.self) l.z l.g code y) (range_with_len 1 (l.code - 1))) l.initial.flags l.flags
