-- A pool by the fields that the code keeps. It names no struct. Assumes nothing.
use Rattle.std.specs.Prelude.{ℕ, List, map, take}
use Rattle.std.specs.List.{range_with_len}
use Rattle.rules.specs.Calendar.{Pool}
use Rattle.rules.specs.Closed.{word_bit}

-- sub-channels, uplink code, offsets used and their three places, the bitmap's length and words, interval mask, levels
abbrev pub meant : ℕ → ℕ → ℕ → List ℕ → ℕ → List ℕ → ℕ → List ℕ → Pool
meant channels uplink used offsets size words mask levels =
    record {
      channels = channels;
      uplink = uplink;
      offsets = take used offsets;
      bits = map (word_bit words) (range_with_len 0 size);
      mask = mask;
      levels = levels;
    }
