-- The candidates that are found. Assumes nothing.
use Rattle.std.specs.Prelude.{◌≡◌, ℕ, ◌+◌, ◌-◌, ◌*◌, cond, ◌&&◌, List, map, length, Some, None, Ok, Err, filter, Option, Result}
use Rattle.std.specs.List.{range_with_len}
use Rattle.answer.specs.declared.Refusal.{Refusal}
use Rattle.answer.specs.Numbers.{number}
use Rattle.rules.specs.Calendar.{Pool, index, in_set, in_pool}
use Rattle.rules.specs.Counting.{first_no}
use Rattle.rules.specs.Choose.{Question, subframes, candidates, choose_questions}
use Rattle.choosing.specs.Slots.{slot_at, shown}
use Rattle.choosing.specs.declared.Candidates.{Candidates}
use Rattle.choosing.specs.declared.Slot.{Slot}

abbrev pub slots_of : Candidates → List Slot
slots_of c = shown c.slots c.count

-- the index of a subframe of the pool
abbrev pub pool_index : Pool → ℕ → Option ℕ
pool_index p s = cond (in_set p s && in_pool p (index p s)) (Some (index p s)) None

-- the slots of the n subframes from the first one on
abbrev pub slots_from : Pool → ℕ → ℕ → List Slot
slots_from p first n = map (slot_at p) (filter (λ s. in_set p s && in_pool p (index p s)) (range_with_len first n))

-- the candidates of a question that passes all questions before a raise is looked for, or the first that it does not
pub record Listed (p : Pool) (now : ℕ) (q : Question) (c : Candidates) : Type 0 where
  pub answer : first_no (choose_questions p now q) ≡ 0
  pub slots : slots_of c ≡ map (slot_at p) (subframes p now q)
  pub width : c.width ≡ p.channels + 1 - q.length
  pub many : length (slots_of c) * c.width ≡ length (candidates p now q)

abbrev pub Found : Pool → ℕ → Question → Result Candidates Refusal → Type 0
Found p now q (Ok c) = Listed p now q c
Found p now q (Err e) = first_no (choose_questions p now q) ≡ number e
