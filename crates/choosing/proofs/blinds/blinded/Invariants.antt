use Rattle.std.proofs.Common.{◌-◌, false, replicate}
use Rattle.std.specs.List.{range_with_len}
use Rattle.rules.specs.Counting.{any}
use Rattle.rules.specs.Choose.{blinds}
use Rattle.choosing.specs.Blinds.{Marked}
use Rattle.choosing.specs.Searches.{pool_of, asked, slots}
use Rattle.choosing.proofs.blinds.blinded.Given as goal

abbrev pub invariant-loop-z : goal.invariant-loop-z
invariant-loop-z g l = Marked (slots l.search) (λ y. any (λ z. blinds (pool_of l.search) (g.M.Asking.meaning l.m) (asked l.search) y z) (range_with_len l.initial.z (l.z - l.initial.z))) (replicate 100 false) l.flags
