-- Sums of readings, and what one index adds to them. Assumes nothing.
use Rattle.std.specs.Prelude.{◌≡◌, ℕ, ◌+◌, ◌-◌, ◌%◌, ◌<◌, ◌≤◌, Bool, true, false, cond, ◌&&◌, List, length, Some, None, sum_by, Option, ◌==◌, slice_index, slice_index_or}
use Rattle.std.specs.List.{range_with_len}
use Rattle.rules.specs.Choose.{Fraction, Question, power, readings_in}
use Rattle.rules.specs.Sensing.{Meaning, listened?}
use Rattle.choosing.specs.Fits.{index_of}
use Rattle.choosing.specs.declared.Slot.{Slot}
use Rattle.measuring.specs.declared.Sum.{Sum}

-- the sum of one of the first sub-channels
abbrev pub column : Sum → ℕ → ℕ
column s x = slice_index s.over x

-- no sample yet of a slot at y
pub record NoneYet (y : ℕ) (s : Sum) : Type 0 where
  pub at : s.at ≡ y
  pub under : s.under ≡ 0
  pub over : (x : ℕ) → column s x ≡ 0

-- z lies whole steps before y
abbrev pub lies : ℕ → ℕ → ℕ → Bool
lies step z y = (y - z) % step == 0

-- the sum of n readings from x on
abbrev pub total : List ℕ → ℕ → ℕ → ℕ
total readings n x = sum_by (λ a. slice_index readings a) (range_with_len x n)

-- one sample more where the test passes
pub record More (test : Bool) (row : ℕ → ℕ) (s t : Sum) : Type 0 where
  pub at : t.at ≡ s.at
  pub under : t.under ≡ s.under + cond test 1 0
  pub over : (x : ℕ) → x < 20 → column t x ≡ column s x + cond test (row x) 0

-- z is tried as a sample of each sum
abbrev pub AllMore : ℕ → ℕ → (ℕ → ℕ) → List Sum → List Sum → Type 0
AllMore step z row before after = (i : ℕ) → i < length before → (d : Sum) → More (lies step z (slice_index_or before i d).at) row (slice_index_or before i d) (slice_index_or after i d)

-- each sum has at most k samples
abbrev pub AllUpTo : ℕ → List Sum → Type 0
AllUpTo k sums = (i : ℕ) → i < length sums → (d : Sum) → (slice_index_or sums i d).under ≤ k

-- z is a sample of y
abbrev pub taken : Meaning → ℕ → ℕ → ℕ → Bool
taken m step y z = listened? (m.cell z) && lies step z y

-- what an index adds to a sum
pub record Added (m : Meaning) (q : Question) (step z : ℕ) (s t : Sum) : Type 0 where
  pub at : t.at ≡ s.at
  pub under : t.under ≡ s.under + cond (taken m step s.at z) 1 0
  pub over : (x : ℕ) → x < 20 → x + q.length ≤ m.channels → column t x ≡ column s x + cond (taken m step s.at z) (power m q x z) 0

abbrev pub AllAdded : Meaning → Question → ℕ → ℕ → List Sum → List Sum → Type 0
AllAdded m q step z before after = (i : ℕ) → i < length before → (d : Sum) → Added m q step z (slice_index_or before i d) (slice_index_or after i d)

-- the sum of a slot at y over the k indices from the lowest on
pub record Walked (m : Meaning) (q : Question) (step low k y : ℕ) (s : Sum) : Type 0 where
  pub at : s.at ≡ y
  pub few : s.under ≤ k
  pub under : s.under ≡ sum_by (λ z. cond (taken m step y z) 1 0) (range_with_len low k)
  pub over : (x : ℕ) → x < 20 → x + q.length ≤ m.channels → column s x ≡ sum_by (λ z. cond (taken m step y z) (power m q x z) 0) (range_with_len low k)

abbrev pub AllWalked : Meaning → Question → ℕ → ℕ → ℕ → List Slot → List Sum → Type 0
AllWalked m q step low k slots sums = (i : ℕ) → i < length slots → (d : Sum) → Walked m q step low k (index_of slots i) (slice_index_or sums i d)

-- the readings of an index, absent where it was not listened to
abbrev pub Heard : Meaning → ℕ → Option (List ℕ) → Type 0
Heard m z None = listened? (m.cell z) ≡ false
Heard m z (Some rs) = (listened? (m.cell z) ≡ true) × ((a : ℕ) → a < m.channels → slice_index rs a ≡ slice_index (readings_in (m.cell z)) a)

-- the mean of a number of samples, absent where there are none
abbrev pub fraction : ℕ → ℕ → Option Fraction
fraction over under = cond (under == 0) None (Some (record { over = over; under = under }))
