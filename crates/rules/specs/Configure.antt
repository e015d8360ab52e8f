-- The questions that configure puts to a pool that is asked for. Assumes nothing.
use Rattle.std.specs.Prelude.{ℕ, ◌-◌, ◌/◌, ◌%◌, ◌^◌, Bool, true, not, ◌&&◌, leb, List, [], ◌∷◌, map, length, take, drop, replicate, ◌==◌, nat_eq, nat_le, nat_lt, slice_index}
use Rattle.std.specs.List.{range_with_len}
use Rattle.rules.specs.Counting.{any, every, among, distinct, first_no}
use Rattle.rules.specs.Calendar.{Pool, positions, size}

-- a pool as it is asked for: numbers and bytes, of which nothing is known yet
pub record Request : Type 0 where
  pub channels : ℕ
  pub uplink : ℕ
  -- how many offsets are used, and three places for them
  pub count : ℕ
  pub offsets : List ℕ
  -- B, and thirteen bytes of bitmap
  pub size : ℕ
  pub bitmap : List ℕ
  pub mask : ℕ
  pub levels : List ℕ

-- bit i of the bytes: bit 0 is the highest bit of byte 0
abbrev pub byte_bit : List ℕ → ℕ → Bool
byte_bit bytes i = slice_index bytes (i / 8) / 2 ^ (7 - i % 8) % 2 == 1

-- the first b bits of the bytes
abbrev pub bits_of : ℕ → List ℕ → List Bool
bits_of b bytes = map (byte_bit bytes) (range_with_len 0 b)

-- the offsets that are used
abbrev pub used : Request → List ℕ
used r = take r.count r.offsets

-- the lengths that a bitmap may have
abbrev pub sizes : List ℕ
sizes = 10 ∷ 16 ∷ 20 ∷ 30 ∷ 40 ∷ 50 ∷ 60 ∷ 100 ∷ []

-- sub-channels 1 to 20?
abbrev pub channels_ok : ℕ → Bool
channels_ok n = nat_le 1 n && nat_le n 20

-- an offset below 160 and on an uplink position?
abbrev pub offset_ok : ℕ → ℕ → Bool
offset_ok uplink o = nat_lt o 160 && among (o % 10) (positions uplink)

-- offsets distinct, below 160 and on uplink positions?
abbrev pub offsets_ok : ℕ → List ℕ → Bool
offsets_ok uplink os = every (offset_ok uplink) os && distinct os

-- at most three offsets used, in order, and the places that are not used zero?
abbrev pub offsets_question : ℕ → ℕ → List ℕ → Bool
offsets_question uplink count places = nat_le count 3 && offsets_ok uplink (take count places) && every (λ o. nat_eq o 0) (drop count places)

-- B one of the eight, some bit one, and the bits past B zero?
abbrev pub bitmap_ok : ℕ → List ℕ → Bool
bitmap_ok b bytes = among b sizes && any (λ bit. bit) (bits_of b bytes) && every (λ i. not (byte_bit bytes i)) (range_with_len b (104 - b))

-- a mask that is neither zero nor 4,096 or more?
abbrev pub mask_ok : ℕ → Bool
mask_ok m = nat_le 1 m && nat_lt m 4096

abbrev pub levels_ok : List ℕ → Bool
levels_ok ls = every (λ l. leb l 66) ls

-- the questions of configure, in their order
abbrev pub questions : Request → List (Bool × ℕ)
questions r =
    (channels_ok r.channels, 10)
    ∷ (nat_le r.uplink 7, 11)
    ∷ (offsets_question r.uplink r.count r.offsets, 12)
    ∷ (bitmap_ok r.size r.bitmap, 13)
    ∷ (mask_ok r.mask, 14)
    ∷ (levels_ok r.levels, 15)
    ∷ []

-- what configure answers
abbrev pub configured : Request → ℕ
configured r = first_no (questions r)

-- the pool that was asked for
abbrev pub pool_of : Request → Pool
pool_of r =
    record {
      channels = r.channels;
      uplink = r.uplink;
      offsets = used r;
      bits = bits_of r.size r.bitmap;
      mask = r.mask;
      levels = r.levels;
    }

-- the limits that every pool keeps
abbrev pub within : Pool → Bool
within p =
    channels_ok p.channels
    && nat_le p.uplink 7
    && nat_le (length p.offsets) 3
    && offsets_ok p.uplink p.offsets
    && among (size p) sizes
    && any (λ bit. bit) p.bits
    && mask_ok p.mask
    && levels_ok p.levels

-- the pool that stands until configure replaces it
abbrev pub built_in : Pool
built_in =
    record {
      channels = 1;
      uplink = 7;
      offsets = [];
      bits = replicate 10 true;
      mask = 4095;
      levels = replicate 64 66;
    }
