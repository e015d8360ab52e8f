-- The pool, and how subframes are counted in it. Assumes nothing.
use Rattle.std.specs.Prelude.{◌≡◌, ℕ, ◌+◌, ◌-◌, ◌*◌, ◌/◌, ◌%◌, ◌^◌, ◌<◌, ◌≤◌, Bool, true, false, cond, not, ◌&&◌, List, [], ◌∷◌, length, get_or, ℤ, pos, ◌-ℤ◌, Some, None, Option, ◌==◌, nat_eq, nat_le, slice_index, slice_index_or}
use Rattle.std.specs.List.{range_with_len}
use Rattle.rules.specs.Counting.{count_below, some_below, among}

-- a resource pool
pub record Pool : Type 0 where
  -- N, the number of sub-channels
  pub channels : ℕ
  -- the code of the uplink positions
  pub uplink : ℕ
  -- the sync offsets
  pub offsets : List ℕ
  -- the bitmap, bit 0 first; B is its length
  pub bits : List Bool
  -- the interval mask: bit c - 1 allows code c
  pub mask : ℕ
  -- the 64 threshold levels
  pub levels : List ℕ

-- the uplink positions in ten of each code: 0 to 6 are the TDD configurations, 7 has all ten
abbrev pub positions : ℕ → List ℕ
positions code =
    get_or ((2 ∷ 3 ∷ 4 ∷ 7 ∷ 8 ∷ 9 ∷ [])
    ∷ (2 ∷ 3 ∷ 7 ∷ 8 ∷ [])
    ∷ (2 ∷ 7 ∷ [])
    ∷ (2 ∷ 3 ∷ 4 ∷ [])
    ∷ (2 ∷ 3 ∷ [])
    ∷ (2 ∷ [])
    ∷ (2 ∷ 3 ∷ 4 ∷ 7 ∷ 8 ∷ [])
    ∷ range_with_len 0 10
    ∷ []) code []

-- P_step: ten times the number of uplink positions
unfoldable pub step : Pool → ℕ
step p = 10 * length (positions p.uplink)

-- W, the length of the sensing window
unfoldable pub window : Pool → ℕ
window p = 10 * step p

-- B, the length of the bitmap
abbrev pub size : Pool → ℕ
size p = length p.bits

-- subframes come round after 10,240
abbrev pub day : ℕ
day = 10240

-- a subframe remains if it is on an uplink position and on no sync offset
unfoldable pub remains : Pool → ℕ → Bool
remains p d = among (d % 10) (positions p.uplink) && not (among (d % 160) p.offsets)

-- how many subframes before d remain: the rank of d, where d remains
unfoldable pub rank : Pool → ℕ → ℕ
rank p d = count_below (remains p) d

-- R, how many remain in 10,240
unfoldable pub remaining : Pool → ℕ
remaining p = rank p 10240

-- V, how many of them are reserved
unfoldable pub left_over : Pool → ℕ
left_over p = remaining p % size p

-- the ranks floor(m x R / V), for m below V, are reserved
unfoldable pub reserved : Pool → ℕ → Bool
reserved p k = some_below (λ m. nat_eq (m * remaining p / left_over p) k) (left_over p)

-- what remains and is not reserved forms the set; here by its place d in the 10,240
unfoldable pub kept : Pool → ℕ → Bool
kept p d = remains p d && not (reserved p (rank p d))

unfoldable pub in_set : Pool → ℕ → Bool
in_set p s = kept p (s % 10240)

-- T, how many subframes of 10,240 are in the set
unfoldable pub cycle : Pool → ℕ
cycle p = remaining p - left_over p

-- T x (s div 10,240), and the set subframes before s in its cycle: the index of s, where s is in the set
unfoldable pub index : Pool → ℕ → ℕ
index p s = cycle p * (s / 10240) + count_below (kept p) (s % 10240)

-- the index of a subframe, if it is in the set
abbrev pub index_of : Pool → ℕ → Option ℕ
index_of p s = cond (in_set p s) (Some (index p s)) None

-- an index is in the pool if its bit is one
unfoldable pub in_pool : Pool → ℕ → Bool
in_pool p i = slice_index_or p.bits (i % size p) false

-- t is the first set subframe not before s
pub record First (p : Pool) (s t : ℕ) : Type 0 where
  pub from : s ≤ t
  pub member : in_set p t ≡ true
  pub none : (u : ℕ) → s ≤ u → u < t → in_set p u ≡ false

-- i is the index of the first set subframe not before s, and there is one
abbrev pub Next : Pool → ℕ → ℕ → Type 0
Next p s i = (t : ℕ) × First p s t × (index p t ≡ i)

-- the milliseconds of an interval code; 0 and the codes that mean nothing have none
abbrev pub milliseconds : ℕ → ℕ
milliseconds c = cond (nat_le c 10) (100 * c) (cond (c == 11) 50 (cond (c == 12) 20 0))

-- D(c), the subframes of the set that an interval code reaches over
unfoldable pub distance : Pool → ℕ → ℕ
distance p c = step p * milliseconds c / 100

-- does the pool allow the interval code, of 1 to 12?
unfoldable pub allowed : Pool → ℕ → Bool
allowed p c = nat_le 1 c && nat_le c 12 && p.mask / 2 ^ (c - 1) % 2 == 1

-- how many of the twelve codes are allowed
unfoldable pub intervals : Pool → ℕ
intervals p = count_below (λ k. allowed p (k + 1)) 12

-- the threshold level of a pair of priorities, each at most 7
unfoldable pub level : Pool → ℕ → ℕ → Option ℕ
level p own other = cond (nat_le own 7 && nat_le other 7) (Some (slice_index p.levels (8 * own + other))) None

-- the threshold of level v from 1 to 65, in tenths of a dBm: -1280 + 20 x (v - 1)
abbrev pub threshold : ℕ → ℤ
threshold v = pos (20 * (v - 1)) -ℤ pos 1280

abbrev pub finite : ℕ → Option ℤ
finite v = cond (nat_le 1 v && nat_le v 65) (Some (threshold v)) None
