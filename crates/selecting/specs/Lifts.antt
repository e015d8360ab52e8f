-- The fewest raises, by the list of candidates. Assumes nothing.
use Rattle.std.specs.Prelude.{◌≡◌, ℕ, ◌*◌, ◌<◌, ◌≤◌, Bool, true, false, List, length, count_by, Ok, Err, Result, nat_le}
use Rattle.answer.specs.Numbers.{number}
use Rattle.answer.specs.declared.Refusal.{Refusal}
use Rattle.selecting.specs.Lists.{free}
use Rattle.selecting.specs.declared.Entry.{Entry}

-- a raise leaves a fifth
abbrev pub leaves : List Entry → ℕ → Bool
leaves es raise = nat_le (length es) (5 * count_by (free raise) es)

-- no raise below n leaves a fifth
abbrev pub NoneBelow : List Entry → ℕ → Type 0
NoneBelow es n = (r : ℕ) → r < n → leaves es r ≡ false

-- the fewest raises were found, or 43 do not suffice, which is answered by 41
abbrev pub Lifted : List Entry → Result (Unit {0}) Refusal → ℕ → Type 0
Lifted es (Ok done) raise = (raise ≤ 43) × (leaves es raise ≡ true) × NoneBelow es raise
Lifted es (Err e) raise = (number e ≡ 41) × NoneBelow es 44
