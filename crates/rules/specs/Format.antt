-- The control record, format 1: its fields and its four bytes, the RIV, the questions of its reader, and what a record
-- that was heard uses. Assumes nothing.
use Rattle.std.specs.Prelude.{◌≡◌, ℕ, ◌+◌, ◌-◌, ◌*◌, ◌/◌, ◌%◌, ◌^◌, ◌<◌, ◌≤◌, Bool, true, false, cond, ◌&&◌, ◌||◌, ltb, ◌⊎◌, List, [], ◌∷◌, length, Some, None, Ok, Err, Option, Result, ◌==◌, nat_le, nat_lt, slice_index}
use Rattle.rules.specs.Counting.{count_below, first_no}

-- the fields of a control record
pub record Record : Type 0 where
  pub priority : ℕ
  -- the reservation code
  pub code : ℕ
  -- f, the first sub-channel of the partner
  pub start : ℕ
  -- L, how many sub-channels it uses
  pub length : ℕ
  -- how far away the partner is, and 0 where there is none
  pub gap : ℕ
  pub mcs : ℕ
  -- the retransmission index: 0 says that the partner is after, 1 that it is before
  pub again : ℕ

-- how many pairs of a length L, at least 1, and a first sub-channel f have f + L at most n
abbrev pub pairs : ℕ → ℕ
pairs n = n * (n + 1) / 2

-- the RIV of the length l and the first sub-channel f
unfoldable pub riv : ℕ → ℕ → ℕ → ℕ
riv n l f = cond (nat_le (l - 1) (n / 2)) (n * (l - 1) + f) (n * (n - l + 1) + (n - 1 - f))

-- the RIV v names the pair of the length l and the first sub-channel f
pub record Names (n v l f : ℕ) : Type 0 where
  pub some : 1 ≤ l
  pub inside : f + l ≤ n
  pub value : riv n l f ≡ v

-- the pair of quotient and remainder, as a length and a first sub-channel
abbrev pub pair_at : ℕ → ℕ → ℕ → ℕ × ℕ
pair_at n row column = cond (nat_lt (row + column) n) (row + 1, column) (n + 1 - row, n - 1 - column)

-- the pair, length and first sub-channel, that an RIV names
unfoldable pub pair : ℕ → ℕ → Option (ℕ × ℕ)
pair n v = cond (nat_lt v (pairs n)) (Some (pair_at n (v / n) (v % n))) None

-- w is the smallest width with 2^w at least the number of pairs
pub record Width (n w : ℕ) : Type 0 where
  pub enough : pairs n ≤ 2 ^ w
  pub least : (v : ℕ) → v < w → 2 ^ v < pairs n

-- that width: how many powers of two are below the number of pairs
unfoldable pub width : ℕ → ℕ
width n = count_below (λ w. ltb (2 ^ w) (pairs n)) (pairs n)

-- a field of 32 bits, which are counted from the highest: its first bit, and how many it has
unfoldable pub bits : ℕ → ℕ → ℕ → ℕ
bits word from size = word / 2 ^ (32 - (from + size)) % 2 ^ size

-- what a value counts in that field
unfoldable pub placed : ℕ → ℕ → ℕ → ℕ
placed value from size = value * 2 ^ (32 - (from + size))

-- the fields of a word, by their places
abbrev pub priority_of : ℕ → ℕ
priority_of word = bits word 0 3

abbrev pub code_of : ℕ → ℕ
code_of word = bits word 3 4

abbrev pub riv_of : ℕ → ℕ → ℕ
riv_of n word = bits word 7 (width n)

abbrev pub gap_of : ℕ → ℕ → ℕ
gap_of n word = bits word (7 + width n) 4

abbrev pub mcs_of : ℕ → ℕ → ℕ
mcs_of n word = bits word (11 + width n) 5

abbrev pub again_of : ℕ → ℕ → ℕ
again_of n word = bits word (16 + width n) 1

-- what stands past the fields
abbrev pub rest_of : ℕ → ℕ → ℕ
rest_of n word = bits word (17 + width n) (15 - width n)

-- the word of a record: each field at its place, and zeros past them
unfoldable pub word : ℕ → Record → ℕ
word n r =
    placed r.priority 0 3
    + placed r.code 3 4
    + placed (riv n r.length r.start) 7 (width n)
    + placed r.gap (7 + width n) 4
    + placed r.mcs (11 + width n) 5
    + placed r.again (16 + width n) 1

-- the four bytes of a word, the highest first
abbrev pub split : ℕ → List ℕ
split w = (w / 2 ^ 24) ∷ (w / 2 ^ 16 % 256) ∷ (w / 2 ^ 8 % 256) ∷ (w % 256) ∷ []

-- the word of four bytes
abbrev pub joined : List ℕ → ℕ
joined bs = slice_index bs 0 * 2 ^ 24 + slice_index bs 1 * 2 ^ 16 + slice_index bs 2 * 2 ^ 8 + slice_index bs 3

-- the four bytes of a record
unfoldable pub bytes : ℕ → Record → List ℕ
bytes n r = split (word n r)

-- the fields of the word are those of the record, and the rest is zero
pub record Has (n w : ℕ) (r : Record) : Type 0 where
  pub priority : priority_of w ≡ r.priority
  pub code : code_of w ≡ r.code
  pub value : riv_of n w ≡ riv n r.length r.start
  pub gap : gap_of n w ≡ r.gap
  pub mcs : mcs_of n w ≡ r.mcs
  pub again : again_of n w ≡ r.again
  pub rest : rest_of n w ≡ 0

-- the limits of the fields
pub record Within (n : ℕ) (r : Record) : Type 0 where
  pub priority : r.priority < 8
  pub code : r.code ≤ 12
  pub some : 1 ≤ r.length
  pub inside : r.start + r.length ≤ n
  pub gap : r.gap < 16
  pub mcs : r.mcs < 32
  pub again : r.again < 2

-- the bytes that are heard at a resource are those of the record
pub record Reads (n resource : ℕ) (bs : List ℕ) (r : Record) : Type 0 where
  pub within : Within n r
  pub inside : resource + r.length ≤ n
  pub same : bytes n r ≡ bs

-- is there a pair, and does its length fit from the resource on?
abbrev pub fits : ℕ → ℕ → Option (ℕ × ℕ) → Bool
fits n resource None = false
fits n resource (Some p) = nat_le (resource + p.0) n

-- the questions of the reader, in their order
abbrev pub questions : ℕ → ℕ → List ℕ → List (Bool × ℕ)
questions n resource bs =
    (nat_le (code_of (joined bs)) 12, 25)
    ∷ (fits n resource (pair n (riv_of n (joined bs))), 26)
    ∷ ((rest_of n (joined bs) == 0), 27)
    ∷ []

-- length and first sub-channel of a pair, and zeros where there is none
abbrev pub or_zeros : Option (ℕ × ℕ) → ℕ × ℕ
or_zeros None = (0, 0)
or_zeros (Some p) = p

-- the record of a word with a pair
abbrev pub record_with : ℕ → ℕ → ℕ × ℕ → Record
record_with n w p =
    record {
      priority = priority_of w;
      code = code_of w;
      start = p.1;
      length = p.0;
      gap = gap_of n w;
      mcs = mcs_of n w;
      again = again_of n w;
    }

-- the record of a word
unfoldable pub record_of : ℕ → ℕ → Record
record_of n w = record_with n w (or_zeros (pair n (riv_of n w)))

-- what the reader answers: the record, or the number of the first question that is answered no
unfoldable pub reading : ℕ → ℕ → List ℕ → Result Record ℕ
reading n resource bs =
    cond (first_no (questions n resource bs) == 0) (Ok (record_of n (joined bs))) (Err (first_no (questions n resource bs)))

-- the index of the partner of a record that is based at b
abbrev pub Partner : Record → ℕ → ℕ → Type 0
Partner r b index = ((r.again ≡ 0) × (index ≡ b + r.gap)) ⊎ ((r.again ≡ 1) × (index + r.gap ≡ b))

-- what a record uses that was heard at resource a and is based at index b: at b, and where its partner is
abbrev pub Uses : Record → ℕ → ℕ → ℕ → ℕ → Type 0
Uses r a b channel index =
    ((index ≡ b) × (a ≤ channel) × (channel < a + r.length))
    ⊎ ((0 < r.gap) × Partner r b index × (r.start ≤ channel) × (channel < r.start + r.length))

-- the same as a test
abbrev pub partner : Record → ℕ → ℕ → Bool
partner r b index = (r.again == 0 && index == b + r.gap) || (r.again == 1 && index + r.gap == b)

unfoldable pub uses : Record → ℕ → ℕ → ℕ → ℕ → Bool
uses r a b channel index =
    (index == b && (nat_le a channel && nat_lt channel (a + r.length)))
    || (nat_lt 0 r.gap && (partner r b index && (nat_le r.start channel && nat_lt channel (r.start + r.length))))

-- the test passes exactly where the record uses the sub-channel at the index
abbrev pub Tested : Type 0
Tested = (r : Record) (a b channel index : ℕ) → (uses r a b channel index ≡ true → Uses r a b channel index) × (Uses r a b channel index → uses r a b channel index ≡ true)

-- four bytes
pub record Four (bs : List ℕ) : Type 0 where
  pub many : length bs ≡ 4
  pub small : (k : ℕ) → slice_index bs k < 256

-- the RIVs of all pairs are the numbers below the number of pairs, no two pairs have one RIV, and the pair that is read
-- is the pair that is named
pub record Numbered : Type 0 where
  pub one : (n v l f l' f' : ℕ) → Names n v l f → Names n v l' f' → (l ≡ l') × (f ≡ f')
  pub below : (n v l f : ℕ) → Names n v l f → v < pairs n
  pub all : (n v : ℕ) → v < pairs n → (l : ℕ) × ((f : ℕ) × Names n v l f)
  pub found : (n v l f : ℕ) → Names n v l f → pair n v ≡ Some (l, f)
  pub named : (n v l f : ℕ) → pair n v ≡ Some (l, f) → Names n v l f

-- the RIV fits its width, which is the smallest that holds all of them
pub record Fitting : Type 0 where
  pub smallest : (n : ℕ) → Width n (width n)
  pub few : (n : ℕ) → n ≤ 20 → width n ≤ 8
  pub fits : (n l f : ℕ) → 1 ≤ l → f + l ≤ n → riv n l f < 2 ^ width n

-- a record can be read back from its word, and a word with an RIV that names a pair, a code at most 12 and zeros past the
-- fields is the word of the record that is read from it
pub record LaidOut : Type 0 where
  pub has : (n : ℕ) (r : Record) → n ≤ 255 → Within n r → Has n (word n r) r
  pub small : (n : ℕ) (r : Record) → n ≤ 255 → Within n r → word n r < 2 ^ 32
  pub back : (n : ℕ) (r : Record) → n ≤ 255 → Within n r → record_of n (word n r) ≡ r
  pub forth : (n w l f : ℕ) → n ≤ 255 → w < 2 ^ 32 → code_of w ≤ 12 → Names n (riv_of n w) l f → rest_of n w ≡ 0 → Within n (record_of n w) × (word n (record_of n w) ≡ w)

-- the reader answers a record exactly where the bytes are those of the record, and it is within its limits
pub record Exact : Type 0 where
  pub sound : (n resource : ℕ) (bs : List ℕ) (r : Record) → n ≤ 255 → Four bs → reading n resource bs ≡ Ok r → Reads n resource bs r
  pub complete : (n resource : ℕ) (bs : List ℕ) (r : Record) → n ≤ 255 → Reads n resource bs r → reading n resource bs ≡ Ok r
