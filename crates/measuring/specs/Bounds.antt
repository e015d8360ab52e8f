-- How large a sum of readings is. Assumes nothing.
use Rattle.std.specs.Prelude.{ℕ}

-- at most what 20 readings of 32 bits are together
abbrev pub most : ℕ
most = 85899345900
