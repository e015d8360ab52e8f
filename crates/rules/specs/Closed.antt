-- The calendar in closed form: what the code computes, by a handful of divisions. Assumes nothing.
use Rattle.std.specs.Prelude.{ℕ, ◌+◌, ◌-◌, ◌*◌, ◌/◌, ◌%◌, ◌^◌, Bool, List, length, sum_by, ◌==◌, slice_index}
use Rattle.rules.specs.Counting.{count_below, among}
use Rattle.rules.specs.Calendar.{positions}

-- how many uplink positions of the code are below r
abbrev pub positions_below : ℕ → ℕ → ℕ
positions_below code r = count_below (λ e. among e (positions code)) r

-- how many subframes before d are on an uplink position
unfoldable pub uplink_before : ℕ → ℕ → ℕ
uplink_before code d = length (positions code) * (d / 10) + positions_below code (d % 10)

-- how many subframes before d are on a sync offset
unfoldable pub sync_before : List ℕ → ℕ → ℕ
sync_before os d = sum_by (λ o. (d + 159 - o) / 160) os

-- how many reserved ranks are below k, of `left` that are spread over `all` ranks
unfoldable pub reserved_before : ℕ → ℕ → ℕ → ℕ
reserved_before all left k = (k * left + all - 1) / all

-- the uplink positions of a code as a ten-bit mask
abbrev pub uplink_mask : ℕ → ℕ
uplink_mask code = sum_by (λ k. 2 ^ k) (positions code)

-- bit i of a bitmap in words of 32 bits: bit 0 is the highest bit of word 0
abbrev pub word_bit : List ℕ → ℕ → Bool
word_bit words i = slice_index words (i / 32) / 2 ^ (31 - i % 32) % 2 == 1
