-- The report question, by the place that is read. Assumes nothing.
use Rattle.std.proofs.Common.{◌≡◌, ℕ, ◌<◌, ◌≤◌, cond, length, get_or, Ok, Err, sym, ap, ◌∙◌}
use Rattle.std.proofs.lemmas.Bool.{lt-ltb, le-ltb}
use Rattle.selecting.specs.Entries.{nowhere}
use Rattle.selecting.specs.Made.{left}
use Rattle.selecting.specs.Marks.{asked_place}
use Rattle.selecting.specs.declared.Place.{Place}
use Rattle.selecting.specs.declared.Report.{Report}

pub asked_some : (r : Report) (i : ℕ) (a : Place) → i < length (left r) → a ≡ get_or (left r) i nowhere → Ok (a.subframe, a.channel) ≡ asked_place r i
asked_some r i a low is =
    ap (λ (b : Place). Ok (b.subframe, b.channel)) is
    ∙ sym (ap (λ b. cond b (Ok ((get_or (left r) i nowhere).subframe, (get_or (left r) i nowhere).channel)) (Err 43)) (lt-ltb i (length (left r)) low))

pub asked_none : (r : Report) (i : ℕ) → length (left r) ≤ i → Err 43 ≡ asked_place r i
asked_none r i high =
    sym (ap (λ b. cond b (Ok ((get_or (left r) i nowhere).subframe, (get_or (left r) i nowhere).channel)) (Err 43)) (le-ltb i (length (left r)) high))
