-- The subframes of candidates, with their indices. Assumes nothing.
use Rattle.std.specs.Prelude.{ℕ, List, take}
use Rattle.rules.specs.Calendar.{Pool, index}
use Rattle.choosing.specs.declared.Slot.{Slot}

abbrev pub origin : Slot
origin = record { subframe = 0; index = 0 }

-- a subframe with its index
abbrev pub slot_at : Pool → ℕ → Slot
slot_at p s = record { subframe = s; index = index p s }

-- the slots that are in use
abbrev pub shown : List Slot → ℕ → List Slot
shown slots count = take count slots
