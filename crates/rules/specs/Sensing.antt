-- What a sensing memory holds, what it answers, and what each of its calls does. Assumes nothing.
use Rattle.std.specs.Prelude.{◌≡◌, ℕ, zero, suc, ◌+◌, ◌-◌, ◌<◌, ◌≤◌, Bool, true, false, cond, not, ◌&&◌, leb, List, [], ◌∷◌, ◌++◌, length, ℤ, pos, negsuc, is_some, Some, None, Ok, Err, Option, Result, ◌==◌, ◌≢◌, int_le, nat_le, nat_lt, slice_index}
use Rattle.rules.specs.Counting.{count_below, all_below, every, first_no}
use Rattle.rules.specs.Format.{Record, Within, joined, record_of, questions as format_questions}

-- what is held for an index: nothing, the readings of all sub-channels, or that it was sent in
pub data Cell : Type 0 where
  blank : Cell
  listened : List ℕ → Cell
  sent : Cell

-- a record that was heard, with its RSRP in tenths of a dBm
pub record Held : Type 0 where
  pub what : Record
  pub rsrp : ℤ

pub record Meaning : Type 0 where
  -- N, the number of sub-channels
  pub channels : ℕ
  -- W, the length of the window
  pub window : ℕ
  -- n', the index of the first set subframe not before now
  pub next : ℕ
  -- the number of record places
  pub places : ℕ
  -- what is held for each index from n' - W to n', and at each of its resources
  pub cell : ℕ → Cell
  pub held : ℕ → ℕ → Option Held

-- the indices that a memory speaks of
abbrev pub Inside : Meaning → ℕ → Type 0
Inside m i = (m.next ≤ i + m.window) × (i ≤ m.next)

abbrev pub inside : Meaning → ℕ → Bool
inside m i = nat_le m.next (i + m.window) && nat_le i m.next

-- the state of an index, without its readings
pub data Mark : Type 0 where
  is_blank : Mark
  is_listened : Mark
  is_sent : Mark

abbrev pub mark : Cell → Mark
mark blank = is_blank
mark (listened rs) = is_listened
mark sent = is_sent

abbrev pub blank? : Cell → Bool
blank? blank = true
blank? (listened rs) = false
blank? sent = false

abbrev pub listened? : Cell → Bool
listened? blank = false
listened? (listened rs) = true
listened? sent = false

abbrev pub sent? : Cell → Bool
sent? blank = false
sent? (listened rs) = false
sent? sent = true

-- the reading of a sub-channel, absent where the index was not listened to
abbrev pub reading_in : Cell → ℕ → Option ℕ
reading_in blank a = None
reading_in (listened rs) a = Some (slice_index rs a)
reading_in sent a = None

-- f 0 + .. + f (n - 1)
abbrev pub sum_below : (ℕ → ℕ) → ℕ → ℕ
sum_below f zero = 0
sum_below f (suc n) = sum_below f n + f n

-- how many records are held
unfoldable pub held_count : Meaning → ℕ
held_count m = sum_below (λ k. count_below (λ a. is_some (m.held (m.next - m.window + k) a)) m.channels) (m.window + 1)

-- what a record at a resource may be: within the limits of its fields, inside the pool from there on, and its RSRP -1600 to 0
abbrev pub rsrp_ok : ℤ → Bool
rsrp_ok x = int_le (negsuc 1599) x && int_le x (pos 0)

pub record Fair (n a : ℕ) (h : Held) : Type 0 where
  pub within : Within n h.what
  pub inside : a + h.what.length ≤ n
  pub rsrp : rsrp_ok h.rsrp ≡ true

abbrev pub readings_ok : ℕ → List ℕ → Bool
readings_ok n rs = length rs == n && every (λ r. leb r 4000000000) rs

-- what holds of every memory
pub record Sound (m : Meaning) : Type 0 where
  pub some : 1 ≤ m.channels
  pub few : m.channels ≤ 20
  pub short : m.window ≤ 1000
  pub old : m.window ≤ m.next
  pub roomy : 1 ≤ m.places
  pub heard : (i : ℕ) (rs : List ℕ) → Inside m i → m.cell i ≡ listened rs → readings_ok m.channels rs ≡ true
  pub fair : (i a : ℕ) (h : Held) → Inside m i → a < m.channels → m.held i a ≡ Some h → Fair m.channels a h
  pub bare : (i a : ℕ) → Inside m i → a < m.channels → m.cell i ≡ sent → m.held i a ≡ None
  pub room : held_count m ≤ m.places

-- the questions after an index, and after a resource of it
abbrev pub index_questions : Meaning → ℕ → List (Bool × ℕ)
index_questions m i = (inside m i, 23) ∷ []

abbrev pub resource_questions : Meaning → ℕ → ℕ → List (Bool × ℕ)
resource_questions m i a = (inside m i, 23) ∷ (nat_lt a m.channels, 24) ∷ []

-- the answer, or the number of the first question answered no
abbrev pub answer : {X : Type 0} → List (Bool × ℕ) → X → Result X ℕ
answer [] x = Ok x
answer (q ∷ qs) x = cond q.0 (answer qs x) (Err q.1)

abbrev pub asked_mark : Meaning → ℕ → Result Mark ℕ
asked_mark m i = answer (index_questions m i) (mark (m.cell i))

abbrev pub asked_reading : Meaning → ℕ → ℕ → Result (Option ℕ) ℕ
asked_reading m i a = answer (resource_questions m i a) (reading_in (m.cell i) a)

abbrev pub asked_record : Meaning → ℕ → ℕ → Result (Option Held) ℕ
asked_record m i a = answer (resource_questions m i a) (m.held i a)

-- no record is held at any resource of the index, which is inside
abbrev pub bare : Meaning → ℕ → Bool
bare m i = inside m i && all_below (λ a. not (is_some (m.held i a))) m.channels

-- nothing is held
pub record Nothing (m : Meaning) : Type 0 where
  pub cells : (i : ℕ) → Inside m i → m.cell i ≡ blank
  pub records : (i a : ℕ) → Inside m i → a < m.channels → m.held i a ≡ None

-- two records with their RSRP are the same
abbrev pub same_record : Record → Record → Bool
same_record r s =
    (r.priority == s.priority)
    && r.code == s.code
    && r.start == s.start
    && r.length == s.length
    && r.gap == s.gap
    && r.mcs == s.mcs
    && r.again == s.again

abbrev pub same_held : Held → Held → Bool
same_held h k = same_record h.what k.what && (int_le h.rsrp k.rsrp && int_le k.rsrp h.rsrp)

-- is no other record there, and are no other readings there?
abbrev pub free_for : Option Held → Held → Bool
free_for None h = true
free_for (Some k) h = same_held k h

abbrev pub same_list : List ℕ → List ℕ → Bool
same_list [] [] = true
same_list [] (y ∷ ys) = false
same_list (x ∷ xs) [] = false
same_list (x ∷ xs) (y ∷ ys) = x == y && same_list xs ys

abbrev pub quiet_for : Cell → List ℕ → Bool
quiet_for blank rs = true
quiet_for (listened ks) rs = same_list ks rs
quiet_for sent rs = true

-- the record that four bytes hold, with its RSRP
abbrev pub heard_as : ℕ → List ℕ → ℤ → Held
heard_as n bytes rsrp = record { what = record_of n (joined bytes); rsrp = rsrp }

-- the questions that the bytes and the RSRP are put by themselves
abbrev pub heard_questions : ℕ → ℕ → List ℕ → ℤ → List (Bool × ℕ)
heard_questions n a bytes rsrp = format_questions n a bytes ++ (rsrp_ok rsrp, 28) ∷ []

-- the questions of keep record: the bytes of a record that was heard at a resource of an index, and its RSRP
abbrev pub record_questions : Meaning → ℕ → ℕ → List ℕ → ℤ → List (Bool × ℕ)
record_questions m i a bytes rsrp =
    (inside m i, 23)
    ∷ (nat_lt a m.channels, 24)
    ∷ (heard_questions m.channels a bytes rsrp
    ++ (not (sent? (m.cell i)), 29)
    ∷ (free_for (m.held i a) (heard_as m.channels bytes rsrp), 30)
    ∷ [])

-- then 1 if the record is held already, and 31 if as many records are held as there are places
abbrev pub room_answer : Meaning → Option Held → ℕ
room_answer m (Some h) = 1
room_answer m None = cond (held_count m == m.places) 31 0

unfoldable pub record_answer : Meaning → ℕ → ℕ → List ℕ → ℤ → ℕ
record_answer m i a bytes rsrp =
    cond (first_no (record_questions m i a bytes rsrp) == 0) (room_answer m (m.held i a)) (first_no (record_questions m i a bytes rsrp))

-- the questions of keep readings, and then 1 if the readings are held already
abbrev pub readings_questions : Meaning → ℕ → List ℕ → List (Bool × ℕ)
readings_questions m i rs =
    (inside m i, 23)
    ∷ (readings_ok m.channels rs, 32)
    ∷ (not (sent? (m.cell i)), 29)
    ∷ (quiet_for (m.cell i) rs, 33)
    ∷ []

unfoldable pub readings_answer : Meaning → ℕ → List ℕ → ℕ
readings_answer m i rs =
    cond (first_no (readings_questions m i rs) == 0) (cond (listened? (m.cell i)) 1 0) (first_no (readings_questions m i rs))

-- the questions of mark sent
abbrev pub sent_questions : Meaning → ℕ → List (Bool × ℕ)
sent_questions m i = (inside m i, 23) ∷ (blank? (m.cell i) && all_below (λ a. not (is_some (m.held i a))) m.channels, 48) ∷ []

abbrev pub slide_questions : Meaning → ℕ → List (Bool × ℕ)
slide_questions m n = (nat_le m.next n, 20) ∷ []

-- the numbers of a memory stay, but for its next index
pub record Frame (m : Meaning) (n : ℕ) (m' : Meaning) : Type 0 where
  pub channels : m'.channels ≡ m.channels
  pub window : m'.window ≡ m.window
  pub places : m'.places ≡ m.places
  pub next : m'.next ≡ n

-- slide to n: what is still inside stays, what is below n - W is dropped, and what comes inside is blank
pub record Moved (m : Meaning) (n : ℕ) (m' : Meaning) : Type 0 where
  pub frame : Frame m n m'
  pub cells : (i : ℕ) → Inside m' i → i ≤ m.next → m'.cell i ≡ m.cell i
  pub records : (i a : ℕ) → Inside m' i → i ≤ m.next → a < m.channels → m'.held i a ≡ m.held i a
  pub fresh : (i : ℕ) → Inside m' i → m.next < i → m'.cell i ≡ blank
  pub clear : (i a : ℕ) → Inside m' i → m.next < i → a < m.channels → m'.held i a ≡ None

-- one record more, and all else as it was
pub record Added (m : Meaning) (i a : ℕ) (h : Held) (m' : Meaning) : Type 0 where
  pub frame : Frame m m.next m'
  pub cells : (j : ℕ) → Inside m j → m'.cell j ≡ m.cell j
  pub here : m'.held i a ≡ Some h
  pub others : (j b : ℕ) → Inside m j → b < m.channels → ((j ≡ i) × (b ≡ a) → ⊥) → m'.held j b ≡ m.held j b

-- one cell other than before, and all else as it was
pub record Changed (m : Meaning) (i : ℕ) (c : Cell) (m' : Meaning) : Type 0 where
  pub frame : Frame m m.next m'
  pub here : m'.cell i ≡ c
  pub others : (j : ℕ) → Inside m j → (j ≢ i) → m'.cell j ≡ m.cell j
  pub records : (j a : ℕ) → Inside m j → a < m.channels → m'.held j a ≡ m.held j a

-- a new memory: nothing is held, and n' is W
pub record New (n w room : ℕ) (m : Meaning) : Type 0 where
  pub channels : m.channels ≡ n
  pub window : m.window ≡ w
  pub next : m.next ≡ w
  pub places : m.places ≡ room
  pub nothing : Nothing m
