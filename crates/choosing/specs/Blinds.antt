-- Marking candidates, by their index. Assumes nothing.
use Rattle.std.specs.Prelude.{◌≡◌, ℕ, ◌+◌, ◌*◌, ◌<◌, Bool, false, ◌&&◌, ◌||◌, List, length, slice_index_or}
use Rattle.std.specs.List.{range_with_len}
use Rattle.rules.specs.Calendar.{Pool, allowed, distance}
use Rattle.rules.specs.Counting.{any}
use Rattle.rules.specs.Choose.{Question, interval, turn, repeats, blinded}
use Rattle.rules.specs.Sensing.{Meaning}
use Rattle.choosing.specs.Fits.{index_of}
use Rattle.choosing.specs.declared.Slot.{Slot}

-- the flags of the slots are those from before, and those of the indices that pass
abbrev pub Marked : List Slot → (ℕ → Bool) → List Bool → List Bool → Type 0
Marked slots test before after = (i : ℕ) → i < length slots → slice_index_or after i false ≡ (slice_index_or before i false || test (index_of slots i))

-- is the index k x d after z one of a candidate's turns?
abbrev pub turn_after : Pool → Question → ℕ → ℕ → ℕ → ℕ → Bool
turn_after p q z d k y = turn y (interval p q) q.turns (z + k * d)

-- a turn by a code, if it is allowed, from z, which lies g before the next index
abbrev pub by_one : Pool → Question → ℕ → ℕ → ℕ → ℕ → Bool
by_one p q z g code y = allowed p code && any (λ k. turn_after p q z (distance p code) k y) (range_with_len 1 (repeats p code g))

-- the flags of the slots say which are blinded
abbrev pub BlindedAre : Pool → Meaning → Question → List Slot → List Bool → Type 0
BlindedAre p m q slots flags = (i : ℕ) → i < length slots → slice_index_or flags i false ≡ blinded p m q (index_of slots i)
