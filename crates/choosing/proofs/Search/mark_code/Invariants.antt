use Rattle.std.proofs.Common.{◌-◌}
use Rattle.std.specs.List.{range_with_len}
use Rattle.rules.specs.Counting.{any}
use Rattle.choosing.specs.Blinds.{Marked, turn_after}
use Rattle.choosing.specs.Searches.{pool_of, asked, slots}
use Rattle.choosing.proofs.Search.mark_code.Given as goal

abbrev pub invariant-loop-k : goal.invariant-loop-k
invariant-loop-k l = Marked (slots l.self) (λ y. any (λ k. turn_after (pool_of l.self) (asked l.self) l.z l.d k y) (range_with_len 1 (l.k - 1))) l.initial.flags l.flags
