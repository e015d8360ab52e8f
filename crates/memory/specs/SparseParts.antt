-- What a ring and a list of entries hold together. Assumes nothing.
use Rattle.std.specs.Prelude.{ℕ, List, length, Option}
use Rattle.rules.specs.Sensing.{Meaning, Held as Meant}
use Rattle.sensing.specs.Memories.{option_held_of}
use Rattle.memory.specs.declared.ring.Ring.{Ring}
use Rattle.memory.specs.declared.entries.Entry.{Entry}
use Rattle.memory.specs.EntryPlaces.{find}
use Rattle.memory.specs.Rings.{over}

-- the record at a resource of an index
unfoldable pub held_at : List (Option Entry) → ℕ → ℕ → Option Meant
held_at ps i a = option_held_of (find ps i a)

-- a memory by its ring and its places
abbrev pub meant : Ring → List (Option Entry) → Meaning
meant r ps = over r (length ps) (held_at ps)
