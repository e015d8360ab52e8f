-- What a memory can be made of. Assumes nothing.
use Rattle.std.specs.Prelude.{ℕ, ◌+◌, ◌*◌, ◌<◌, ◌≤◌}

-- n sub-channels and a window of w, and slices of enough rows and readings
pub record FitsRing (n w rows readings : ℕ) : Type 0 where
  pub some : 1 ≤ n
  pub few : n ≤ 20
  pub short : w ≤ 1000
  pub long : w < rows
  pub wide : (w + 1) * n ≤ readings

-- the same with as many places as readings, for a dense memory
pub record Fits (n w rows readings places : ℕ) : Type 0 where
  pub ring : FitsRing n w rows readings
  pub deep : (w + 1) * n ≤ places

-- the same with one place, for a sparse memory
pub record Fitting (n w rows readings places : ℕ) : Type 0 where
  pub ring : FitsRing n w rows readings
  pub deep : 1 ≤ places
