-- A fifth, rounded up, by the library's division. Assumes nothing.
use Rattle.std.proofs.Common.{◌≡◌, ℕ, arith}
use Rattle.std.specs.Int.{div_ceil}
use Rattle.rules.specs.Choose.{fifth}

pub fifth_up : (n : ℕ) → div_ceil n 5 ≡ fifth n
fifth_up n = omega arith
