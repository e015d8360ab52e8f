-- What a memory's answers say of the readings of an index. Assumes nothing.
use Rattle.std.proofs.Common.{◌≡◌, ℕ, true, get_or, Some, Ok, refl, arith}
use Rattle.rules.specs.Choose.{readings_in}
use Rattle.rules.specs.Sensing.{Meaning, Cell, blank, listened, sent, listened?, reading_in, asked_reading, resource_questions}
use Rattle.rules.proofs.Answers.{answer_ok}

some_reading : (c : Cell) (a r : ℕ) → Some r ≡ reading_in c a → (listened? c ≡ true) × (r ≡ get_or (readings_in c) a 0)
some_reading blank a r e = let z : ◌≡◌ {A = ℕ} 0 1 = cc in absurd (omega arith)
some_reading (listened rs) a r e = (refl, cc)
some_reading sent a r e = let z : ◌≡◌ {A = ℕ} 0 1 = cc in absurd (omega arith)

-- a reading was answered: the index was listened to, and this is the reading
pub heard_some : (m : Meaning) (i a r : ℕ) → Ok (Some r) ≡ asked_reading m i a → (listened? (m.cell i) ≡ true) × (r ≡ get_or (readings_in (m.cell i)) a 0)
heard_some m i a r said = some_reading (m.cell i) a r (answer_ok (resource_questions m i a) (reading_in (m.cell i) a) (Some r) said).1
