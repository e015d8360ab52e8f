-- What the types of a sensing memory's calls mean. Assumes nothing.
use Rattle.std.specs.Prelude.{◌≡◌, ℕ, ◌<◌, Bool, true, false, List, length, ℤ, Some, None, Ok, Err, Option, Result}
use Rattle.answer.specs.declared.Refusal.{Refusal}
use Rattle.answer.specs.Numbers.{number}
use Rattle.format1.specs.Records.{meant_of}
use Rattle.rules.specs.Counting.{first_no}
use Rattle.rules.specs.Sensing.{Meaning, Mark, is_blank, is_listened, is_sent, Held as Meant, Fair, Inside, listened?, record_questions, readings_questions, heard_as, heard_questions, free_for, blank, listened, same_list, sent_questions, bare}
use Rattle.sensing.specs.declared.Held.{Held}
use Rattle.sensing.specs.declared.Kept.{Kept}
use Rattle.sensing.specs.declared.Kept.TheVariants.{New, Already}
use Rattle.sensing.specs.declared.State.{State}
use Rattle.sensing.specs.declared.State.TheVariants.{Blank, Listened, Sent}

abbrev pub mark_of : State → Mark
mark_of Blank = is_blank
mark_of Listened = is_listened
mark_of Sent = is_sent

abbrev pub held_of : Held → Meant
held_of h = record { what = meant_of h.what; rsrp = h.rsrp }

abbrev pub option_held_of : Option Held → Option Meant
option_held_of None = None
option_held_of (Some h) = Some (held_of h)

-- the answers as the rules give them: the value, or the number
abbrev pub marked : Result State Refusal → Result Mark ℕ
marked (Ok s) = Ok (mark_of s)
marked (Err e) = Err (number e)

abbrev pub reading_of : Result (Option ℕ) Refusal → Result (Option ℕ) ℕ
reading_of (Ok r) = Ok r
reading_of (Err e) = Err (number e)

abbrev pub record_in : Result (Option Held) Refusal → Result (Option Meant) ℕ
record_in (Ok h) = Ok (option_held_of h)
record_in (Err e) = Err (number e)

-- 0 where something was added, 1 where it was held already, or the refusal's number
abbrev pub kept : Result Kept Refusal → ℕ
kept (Ok New) = 0
kept (Ok Already) = 1
kept (Err e) = number e

-- a record that was read, with its RSRP, or the number of the first question answered no
abbrev pub Heard : ℕ → ℕ → List ℕ → ℤ → Result Held Refusal → Type 0
Heard n a bytes rsrp (Ok h) = (first_no (heard_questions n a bytes rsrp) ≡ 0) × (held_of h ≡ heard_as n bytes rsrp) × Fair n a (held_of h)
Heard n a bytes rsrp (Err e) = first_no (heard_questions n a bytes rsrp) ≡ number e

-- a new record beside what is held: to be kept, held already, or in its way
abbrev pub Compared : Option Held → Held → Result (Option Held) Refusal → Type 0
Compared old new (Ok (Some h)) = (old ≡ None) × (h ≡ new)
Compared old new (Ok None) = old ≡ Some new
Compared old new (Err e) = (number e ≡ 30) × (free_for (option_held_of old) (held_of new) ≡ false)

-- what is known of a record that is to be kept, before a place is looked for: it passes every question so far, and it
-- is new (at a record), held already (at none) or refused by its number
pub record Passed (m : Meaning) (i a : ℕ) (bytes : List ℕ) (rsrp : ℤ) : Type 0 where
  pub answer : first_no (record_questions m i a bytes rsrp) ≡ 0
  pub inside : Inside m i
  pub below : a < m.channels
  pub fair : Fair m.channels a (heard_as m.channels bytes rsrp)

abbrev pub Examined : Meaning → ℕ → ℕ → List ℕ → ℤ → Result (Option Held) Refusal → Type 0
Examined m i a bytes rsrp (Ok (Some h)) = Passed m i a bytes rsrp × (m.held i a ≡ None) × (held_of h ≡ heard_as m.channels bytes rsrp)
Examined m i a bytes rsrp (Ok None) = Passed m i a bytes rsrp × (m.held i a ≡ Some (heard_as m.channels bytes rsrp))
Examined m i a bytes rsrp (Err e) = first_no (record_questions m i a bytes rsrp) ≡ number e

-- the same of readings: new, or held already
abbrev pub ExaminedReadings : Meaning → ℕ → List ℕ → Result Kept Refusal → Type 0
ExaminedReadings m i rs (Ok New) = (first_no (readings_questions m i rs) ≡ 0) × Inside m i × (listened? (m.cell i) ≡ false)
ExaminedReadings m i rs (Ok Already) = (first_no (readings_questions m i rs) ≡ 0) × Inside m i × (listened? (m.cell i) ≡ true)
ExaminedReadings m i rs (Err e) = first_no (readings_questions m i rs) ≡ number e

-- readings that are compared with those of an index that was listened to
abbrev pub SameReadings : Meaning → ℕ → List ℕ → Bool → Type 0
SameReadings m i rs r = (ks : List ℕ) → Inside m i → m.cell i ≡ listened ks → length ks ≡ length rs → r ≡ same_list ks rs

-- an index may be marked as sent: it is blank, and no record is held at it
abbrev pub ExaminedSent : Meaning → ℕ → Result Unit Refusal → Type 0
ExaminedSent m i (Ok u) = (first_no (sent_questions m i) ≡ 0) × Inside m i × (m.cell i ≡ blank) × (bare m i ≡ true)
ExaminedSent m i (Err e) = first_no (sent_questions m i) ≡ number e
