-- What choosing's tests say, in the subject's words, and how raises act. Assumes nothing.
use Rattle.std.specs.Prelude.{◌≡◌, ℕ, ◌+◌, ◌-◌, ◌<◌, ◌≤◌, true, Some}
use Rattle.rules.specs.Calendar.{Pool, window}
use Rattle.rules.specs.Choose.{Question, Place, Turn, turn, blinded, Blinded, reserved_at, Reserved, samples, Sample, survives}
use Rattle.rules.specs.Reports.{In}
use Rattle.rules.specs.Sensing.{Meaning, Held, Fair}

-- every record that is held is within its limits
abbrev pub FairHeld : Pool → Meaning → Type 0
FairHeld p m = (z a : ℕ) (h : Held) → a < p.channels → m.held z a ≡ Some h → Fair p.channels a h

-- every record that is held in the window is within its limits
abbrev pub FairWindow : Pool → Meaning → Type 0
FairWindow p m = (z a : ℕ) (h : Held) → m.next - window p ≤ z → z < m.next - window p + window p → a < p.channels → m.held z a ≡ Some h → Fair p.channels a h

pub record Sentences : Type 0 where
  -- an index is one of the turns exactly when some j says so
  pub turns : (y apart n t : ℕ) → (turn y apart n t ≡ true → Turn y apart n t) × (Turn y apart n t → turn y apart n t ≡ true)
  -- a candidate is blinded exactly when the sentence holds
  pub blind : (p : Pool) (m : Meaning) (q : Question) (y : ℕ) → (blinded p m q y ≡ true → Blinded p m q y) × (Blinded p m q y → blinded p m q y ≡ true)
  -- and reserved at a raise likewise, for questions of one sub-channel at least and records within their limits
  pub reserve : (p : Pool) (m : Meaning) (q : Question) (r : ℕ) (c : Place) → 1 ≤ q.length → FairHeld p m → (reserved_at p m q r c ≡ true → Reserved p m q r c) × (Reserved p m q r c → reserved_at p m q r c ≡ true)

-- how raises act
pub record Raises : Type 0 where
  -- what survives at a raise survives at every higher one
  pub more : (p : Pool) (m : Meaning) (q : Question) (r s : ℕ) (c : Place) → r ≤ s → survives p m q r c ≡ true → survives p m q s c ≡ true
  -- past 43 raises nothing changes, for records within their limits
  pub last : (p : Pool) (m : Meaning) (q : Question) (r : ℕ) (c : Place) → FairHeld p m → 43 ≤ r → survives p m q r c ≡ survives p m q 43 c

-- an index is a sample of y exactly when the sentence holds, for every y that lies past the window
abbrev pub Sampling : Type 0
Sampling = (p : Pool) (m : Meaning) (q : Question) (y z : ℕ) → m.next - window p + window p ≤ y → (In z (samples p m q y) → Sample p m q y z) × (Sample p m q y z → In z (samples p m q y))
