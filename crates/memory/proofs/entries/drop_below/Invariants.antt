use Rattle.std.proofs.Common.{◌≡◌, ◌++◌, map, take, drop}
use Rattle.memory.specs.EntryPlaces.{kept_from}
use Rattle.memory.proofs.entries.drop_below.Given as goal

abbrev pub invariant-loop-place : goal.invariant-loop-place
invariant-loop-place l = l.places ≡ map (kept_from l.low) (take l.place-index l.initial.places) ++ drop l.place-index l.initial.places
