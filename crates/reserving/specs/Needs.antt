-- From which raise on candidates survive. Assumes nothing.
use Rattle.std.specs.Prelude.{◌≡◌, ℕ, ◌<◌, Bool, true, not, List, [], length, nat_lt, slice_index_or}
use Rattle.rules.specs.Calendar.{Pool}
use Rattle.rules.specs.Choose.{Question, survives}
use Rattle.rules.specs.Sensing.{Meaning}
use Rattle.choosing.specs.Fits.{place_of}
use Rattle.choosing.specs.declared.Slot.{Slot}
use Rattle.reserving.specs.declared.Need.{Need}
use Rattle.reserving.specs.declared.Need.TheVariants.{From, Never}

-- is a raise too few for a need?
abbrev pub bars : Need → ℕ → Bool
bars (From k) r = nat_lt r k
bars Never r = true

-- the need at a row and a column
abbrev pub at : List (List Need) → ℕ → ℕ → Need
at rows i x = slice_index_or (slice_index_or rows i []) x (From 0)

-- the candidate at a slot and a first sub-channel survives at a raise exactly when its need does not bar it
abbrev pub NeedsAre : Pool → Meaning → Question → List Slot → List (List Need) → Type 0
NeedsAre p m q slots rows = (i x r : ℕ) → i < length slots → x < 20 → not (bars (at rows i x) r) ≡ survives p m q r (place_of slots i x)
