-- What a selection answers. Assumes nothing.
use Rattle.std.specs.Prelude.{◌≡◌, ℕ, ◌≤◌, true, false, ◌⊎◌, List, Ok, Err, Result, ◌≢◌}
use Rattle.std.specs.List.{AllByRecursion}
use Rattle.answer.specs.Numbers.{number}
use Rattle.answer.specs.declared.Refusal.{Refusal}
use Rattle.rules.specs.Calendar.{Pool, in_set, index}
use Rattle.rules.specs.Choose.{Question, interval, enough, Fewest, report, choose_questions}
use Rattle.rules.specs.Counting.{first_no}
use Rattle.rules.specs.Reports.{Reported}
use Rattle.rules.specs.Sensing.{Meaning}
use Rattle.choosing.specs.Asked.{question_of}
use Rattle.choosing.specs.declared.Question.{Question as Asked}
use Rattle.selecting.specs.Lifts.{leaves, NoneBelow}
use Rattle.selecting.specs.Made.{shown, places_of, left, Ranked}
use Rattle.selecting.specs.declared.Entry.{Entry}
use Rattle.selecting.specs.declared.Place.{Place}
use Rattle.selecting.specs.declared.Report.{Report}

-- a list of candidates: the fewest raises that leave a fifth and its report, or 41 where 43 raises do not suffice
abbrev pub Selected : List Entry → Asked → ℕ → Result Report Refusal → Type 0
Selected es q apart (Ok r) = (r.raise ≤ 43) × (leaves es r.raise ≡ true) × NoneBelow es r.raise × Ranked es r.raise q apart r
Selected es q apart (Err e) = (number e ≡ 41) × NoneBelow es 44

-- a place names a subframe of the set by its index
pub record SetSubframe (p : Pool) (a : Place) : Type 0 where
  pub member : in_set p a.subframe ≡ true
  pub index_is : index p a.subframe ≡ a.index

-- a selection that reports: no question was answered no, its raise is the fewest that leaves a fifth, its places are those of
-- the definition, with their subframes and all marked, and it carries the question and the distance between turns
pub record Answers (p : Pool) (now : ℕ) (m : Meaning) (q : Question) (r : Report) : Type 0 where
  pub questions : first_no (choose_questions p now q) ≡ 0
  pub fewest : Fewest p now m q r.raise
  pub places : places_of r ≡ report p now m q r.raise
  pub law : Reported p now m q r.raise (places_of r)
  pub subframes : AllByRecursion (SetSubframe p) (shown r)
  pub marked : left r ≡ shown r
  pub question : question_of r.question ≡ q
  pub apart : r.apart ≡ interval p q

-- a selection that is refused: by the first question answered no, or by 41 where none is and every raise leaves too few
abbrev pub Refuses : Pool → ℕ → Meaning → Question → ℕ → Type 0
Refuses p now m q n =
    ((first_no (choose_questions p now q) ≡ n) × (n ≢ 0))
    ⊎ ((first_no (choose_questions p now q) ≡ 0) × (n ≡ 41) × ((raise : ℕ) → enough p now m q raise ≡ false))

abbrev pub Chosen : Pool → ℕ → Meaning → Question → Result Report Refusal → Type 0
Chosen p now m q (Ok r) = Answers p now m q r
Chosen p now m q (Err e) = Refuses p now m q (number e)
