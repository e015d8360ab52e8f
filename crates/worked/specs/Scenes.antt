-- Worked selections, checked by hand. Assumes nothing.
use Rattle.std.specs.Prelude.{◌≡◌, ℕ, true, false, cond, [], ◌∷◌, length, replicate, ℤ, negsuc, Some, None, Option, nat_le, nat_lt, slice_index_or}
use Rattle.rules.specs.Calendar.{Pool}
use Rattle.rules.specs.Format.{Record}
use Rattle.rules.specs.Sensing.{Meaning, Cell, blank, listened, Held}
use Rattle.rules.specs.Choose.{Question, Place, candidates, survivors, enough, Fewest, report}

-- N 3, no TDD, no offsets, twenty ones, interval code 1, all levels the same; now is 31,000
abbrev pub yard : ℕ → Pool
yard level =
    record {
      channels = 3;
      uplink = 7;
      offsets = [];
      bits = replicate 20 true;
      mask = 1;
      levels = replicate 64 level;
    }

-- L 1, code 1, one turn, priority 0, T1 4, T2 20
abbrev pub ask : Question
ask = record { length = 1; code = 1; turns = 1; priority = 0; from = 4; to = 20 }

abbrev pub seen : (ℕ → Cell) → (ℕ → ℕ → Option Held) → Meaning
seen cell held = record { channels = 3; window = 1000; next = 31000; places = 3003; cell = cell; held = held }

-- the same readings everywhere
abbrev pub equal : Cell
equal = listened (7 ∷ 7 ∷ 7 ∷ [])

-- all listened to, and no record
abbrev pub quiet : Meaning
quiet = seen (λ _. equal) (λ _ _. None)

-- the n subframes from 30,904 on not listened to
abbrev pub deaf : ℕ → Meaning
deaf last = seen (λ z. cond (nat_le 30904 z) (cond (nat_lt z last) blank equal) equal) (λ _ _. None)

-- a record of code 1, length 1, without partner
abbrev pub plain : Record
plain = record { priority = 0; code = 1; start = 0; length = 1; gap = 0; mcs = 0; again = 0 }

-- such records, with one RSRP, at all three resources of 30,904 to 30,920
abbrev pub crowd : ℤ → Meaning
crowd rsrp = seen (λ _. equal) (λ z a. cond (nat_le 30904 z) (cond (nat_le z 30920) (Some (record { what = plain; rsrp = rsrp })) None) None)

-- no raise leaves a fifth
abbrev pub TooFew : Pool → Meaning → Type 0
TooFew p m = (raise : ℕ) → enough p 31000 m ask raise ≡ false

abbrev pub origin : Place
origin = record { channel = 0; at = 0 }

pub record Scenes : Type 0 where
  -- M is 51
  pub many : length (candidates (yard 10) 31000 ask) ≡ 51
  -- all listened to, equal readings: raise 0, size 11, the last is sub-channel 1 of 31,007
  pub quiet_raise : Fewest (yard 10) 31000 quiet ask 0
  pub quiet_size : length (report (yard 10) 31000 quiet ask 0) ≡ 11
  pub quiet_last : slice_index_or (report (yard 10) 31000 quiet ask 0) 10 origin ≡ record { channel = 1; at = 31007 }
  -- thirteen of 30,904 to 30,920 not listened to: 12 survive; fourteen: no raise leaves a fifth
  pub thirteen : length (survivors (yard 10) 31000 (deaf 30917) ask 0) ≡ 12
  pub fourteen : TooFew (yard 10) (deaf 30918)
  -- records at all 51 places: RSRP -1010 takes 3 raises, -1009 takes 4
  pub three : Fewest (yard 10) 31000 (crowd (negsuc 1009)) ask 3
  pub four : Fewest (yard 10) 31000 (crowd (negsuc 1008)) ask 4
  -- the same with all levels 0: no raise; with 66: none is needed
  pub lowest : TooFew (yard 0) (crowd (negsuc 1009))
  pub highest : Fewest (yard 66) 31000 (crowd (negsuc 1009)) ask 0
