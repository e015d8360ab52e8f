-- The list of all candidates, with what is known of each. Assumes nothing.
use Rattle.std.specs.Prelude.{ℕ, Bool, List, [], map, None, Option, not, slice_index_or}
use Rattle.std.specs.List.{range_with_len, flat_map}
use Rattle.choosing.specs.Slots.{origin}
use Rattle.choosing.specs.declared.Slot.{Slot}
use Rattle.measuring.specs.declared.Mean.{Mean}
use Rattle.reserving.specs.Needs.{bars}
use Rattle.reserving.specs.declared.Need.{Need}
use Rattle.reserving.specs.declared.Need.TheVariants.{From}
use Rattle.selecting.specs.declared.Entry.{Entry}

-- the entry of a slot at a first sub-channel, with its numbers
abbrev pub entry_at : Slot → List Need → List (Option Mean) → ℕ → Entry
entry_at s needs means x =
    record {
      place = record { subframe = s.subframe; index = s.index; channel = x };
      need = slice_index_or needs x (From 0);
      mean = slice_index_or means x None;
    }

-- the entries of a slot
abbrev pub row_of : List Slot → ℕ → List (List Need) → List (List (Option Mean)) → ℕ → List Entry
row_of slots width needs means i = map (entry_at (slice_index_or slots i origin) (slice_index_or needs i []) (slice_index_or means i [])) (range_with_len 0 width)

-- the entries of the first n slots
abbrev pub rows_of : List Slot → ℕ → List (List Need) → List (List (Option Mean)) → ℕ → List Entry
rows_of slots width needs means n = flat_map (row_of slots width needs means) (range_with_len 0 n)

-- survives an entry at a raise?
abbrev pub free : ℕ → Entry → Bool
free raise e = not (bars e.need raise)
