-- What a record of the code means. Assumes nothing.
use Rattle.std.specs.Prelude.{ℕ, ◌^◌, cond, nat_lt, Some, None, Option, Ok, Err, Result}
use Rattle.rules.specs.Format.{Record as Fields}
use Rattle.answer.specs.declared.Refusal.{Refusal}
use Rattle.answer.specs.Numbers.{number}
use Rattle.format1.specs.declared.Record.{Record}

-- the rules' record
abbrev pub Meant : Type 0
Meant = Fields

abbrev pub meant_of : Record → Meant
meant_of r =
    record {
      priority = r.priority;
      code = r.code;
      start = r.start;
      length = r.length;
      gap = r.gap;
      mcs = r.mcs;
      again = r.again;
    }

-- an index, if the code has a number for it
abbrev pub fitting : Option ℕ → Option ℕ
fitting None = None
fitting (Some index) = cond (nat_lt index (2 ^ 64)) (Some index) None

-- the reader's answer: the rules' record, or the number
abbrev pub valued : Result Record Refusal → Result Meant ℕ
valued (Ok x) = Ok (meant_of x)
valued (Err e) = Err (number e)
