-- Every refusal has a number above 1. Assumes nothing.
use Rattle.std.proofs.Common.{◌≡◌, ℕ, zero, suc, ◌-◌, ◌<◌, map, get_or, Some, None, Option, arith}
use Rattle.answer.specs.Numbers.{number}
use Rattle.answer.specs.declared.Refusal.{Refusal}
use Rattle.answer.proofs.Tables.{table, found}

abbrev numbered : Option Refusal → ℕ
numbered None = 0
numbered (Some e) = number e

-- the table has another number than 0 and 1 at their place
above_one : (n : ℕ) → get_or (map numbered table) (n - 10) 0 ≡ n → 1 < n
above_one zero h = absurd (omega arith)
above_one (suc zero) h = absurd (omega arith)
above_one (suc (suc n)) h = omega arith

pub number_some : (e : Refusal) → 1 < number e
number_some e = above_one (number e) (found numbered 0 e)
