-- The report question, and a place that is taken from a report. Assumes nothing.
use Rattle.std.specs.Prelude.{◌≡◌, ℕ, suc, ◌<◌, ◌≤◌, cond, ◌++◌, length, get_or, take, drop, Ok, Err, Result, nat_lt, slice_index_or}
use Rattle.answer.specs.Numbers.{number}
use Rattle.answer.specs.declared.Refusal.{Refusal}
use Rattle.selecting.specs.Entries.{nowhere}
use Rattle.selecting.specs.Made.{shown, left}
use Rattle.selecting.specs.declared.Place.{Place}
use Rattle.selecting.specs.declared.Report.{Report}

-- the subframe and the first sub-channel of place i among those still marked, or 43
abbrev pub asked_place : Report → ℕ → Result (ℕ × ℕ) ℕ
asked_place r i = cond (nat_lt i (length (left r))) (Ok ((get_or (left r) i nowhere).subframe, (get_or (left r) i nowhere).channel)) (Err 43)

abbrev pub answered_place : Result (ℕ × ℕ) Refusal → Result (ℕ × ℕ) ℕ
answered_place (Ok x) = Ok x
answered_place (Err e) = Err (number e)

-- all of a report but its marks
pub record SameReport (r r' : Report) : Type 0 where
  pub places : shown r' ≡ shown r
  pub raise_is : r'.raise ≡ r.raise
  pub question_is : r'.question ≡ r.question
  pub apart_is : r'.apart ≡ r.apart

-- place i of those still marked is given and marked no more, or there is none, 43, and nothing changes
pub record Given (r : Report) (i : ℕ) (a : Place) (r' : Report) : Type 0 where
  pub inside : i < length (left r)
  pub place : a ≡ slice_index_or (left r) i nowhere
  pub rest : left r' ≡ take i (left r) ++ drop (suc i) (left r)
  pub same : SameReport r r'

abbrev pub Unmarked : Report → ℕ → Result Place Refusal → Report → Type 0
Unmarked r i (Ok a) r' = Given r i a r'
Unmarked r i (Err e) r' = (number e ≡ 43) × (length (left r) ≤ i) × (r' ≡ r)
