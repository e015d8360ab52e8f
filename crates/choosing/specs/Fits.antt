-- Memories that fit a pool, and the places of candidates by their slots. Assumes nothing.
use Rattle.std.specs.Prelude.{◌≡◌, ℕ, ◌^◌, ◌≤◌, List, slice_index_or}
use Rattle.rules.specs.Calendar.{Pool, window}
use Rattle.rules.specs.Choose.{Place}
use Rattle.rules.specs.Sensing.{Meaning}
use Rattle.choosing.specs.Slots.{origin}
use Rattle.choosing.specs.declared.Slot.{Slot}

-- N and W are the pool's, and the next index is far below 2 ^ 64, as that of every subframe of a unit is
pub record Fit (p : Pool) (m : Meaning) : Type 0 where
  pub channels : m.channels ≡ p.channels
  pub window : m.window ≡ window p
  pub early : m.next ≤ 2 ^ 63

-- the index of a slot
abbrev pub index_of : List Slot → ℕ → ℕ
index_of slots i = (slice_index_or slots i origin).index

-- the candidate at a slot, by its first sub-channel
abbrev pub place_of : List Slot → ℕ → ℕ → Place
place_of slots i x = record { channel = x; at = index_of slots i }
