-- The means of candidates, as the code keeps them. Assumes nothing.
use Rattle.std.specs.Prelude.{◌≡◌, ℕ, ◌+◌, ◌<◌, ◌≤◌, List, [], length, get_or, Some, None, Option, slice_index_or}
use Rattle.rules.specs.Calendar.{Pool}
use Rattle.rules.specs.Choose.{Question, Fraction, mean}
use Rattle.rules.specs.Sensing.{Meaning}
use Rattle.choosing.specs.Fits.{place_of}
use Rattle.choosing.specs.declared.Slot.{Slot}
use Rattle.measuring.specs.declared.Mean.{Mean}
use Rattle.measuring.specs.declared.Sum.{Sum}
use Rattle.measuring.specs.Sums.{column, fraction}

-- the fraction that a mean of the code is
abbrev pub fraction_of : Option Mean → Option Fraction
fraction_of None = None
fraction_of (Some a) = Some (record { over = a.over; under = a.under })

-- the means of the sums of a slot
pub record MeansOf (s : Sum) (row : List (Option Mean)) : Type 0 where
  pub each : (x : ℕ) → x < 20 → fraction_of (slice_index_or row x None) ≡ fraction (column s x) s.under

-- the mean at a row and a column
abbrev pub at : List (List (Option Mean)) → ℕ → ℕ → Option Mean
at rows i x = slice_index_or (get_or rows i []) x None

-- at each slot and first sub-channel stands the mean of that candidate
abbrev pub MeansAre : Pool → Meaning → Question → List Slot → List (List (Option Mean)) → Type 0
MeansAre p m q slots rows = (i x : ℕ) → i < length slots → x < 20 → x + q.length ≤ p.channels → fraction_of (at rows i x) ≡ mean p m q (place_of slots i x)
