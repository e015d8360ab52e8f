use Rattle.std.proofs.Common.{◌≡◌, map, length, take}
use Rattle.selecting.specs.Entries.{reported}
use Rattle.selecting.proofs.reports.places_of.Given as goal

abbrev pub invariant-loop-e : goal.invariant-loop-e
invariant-loop-e l = (l.places.items ≡ map reported (take l.e-index l.entries)) × (length l.places.items ≡ l.e-index)
