-- What a ring and a place for each record hold together. Assumes nothing.
use Rattle.std.specs.Prelude.{◌≡◌, ℕ, ◌+◌, ◌*◌, ◌<◌, true, cond, List, None, Option, slice_index_or}
use Rattle.rules.specs.Sensing.{Meaning, Held as Meant}
use Rattle.sensing.specs.Memories.{option_held_of}
use Rattle.sensing.specs.declared.Held.{Held}
use Rattle.memory.specs.declared.ring.Ring.{Ring}
use Rattle.memory.specs.RowCells.{Near}
use Rattle.memory.specs.Rings.{over, stamped, place, cells, Same}

-- the record at a resource of an index: that in its place, if the row is the index's
unfoldable pub held_at : Ring → List (Option Held) → ℕ → ℕ → Option Meant
held_at r places i a = cond (stamped r i) (option_held_of (slice_index_or places (place r i a) None)) None

-- a memory by its ring and its places
abbrev pub meant : Ring → List (Option Held) → Meaning
meant r places = over r ((r.window + 1) * r.channels) (held_at r places)

-- the row of index i is its own now, and nothing near it changed
pub record Owned (i : ℕ) (r : Ring) (places : List (Option Held)) (r' : Ring) (places' : List (Option Held)) : Type 0 where
  pub same : Same r.next r r'
  pub here : stamped r' i ≡ true
  pub cells : (j : ℕ) → Near r.window i j → cells r' j ≡ cells r j
  pub held : (j a : ℕ) → Near r.window i j → a < r.channels → held_at r' places' j a ≡ held_at r places j a
