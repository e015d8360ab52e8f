-- Choosing: candidates, exclusions, the fewest raises, means, the order and the report. Assumes nothing.
use Rattle.std.specs.Prelude.{◌≡◌, ℕ, ◌+◌, ◌-◌, ◌*◌, ◌/◌, ◌%◌, ◌<◌, ◌≤◌, Bool, true, false, cond, not, ◌&&◌, ◌||◌, List, [], ◌∷◌, ◌++◌, map, length, take, ℤ, pos, ◌+ℤ◌, Some, None, sum_by, filter, Option, ◌==◌, int_lt, nat_le, nat_lt, slice_index}
use Rattle.std.specs.List.{range_with_len}
use Rattle.rules.specs.Counting.{any}
use Rattle.rules.specs.Calendar.{Pool, step, window, index, in_set, in_pool, distance, allowed, threshold}
use Rattle.rules.specs.Format.{Record, Uses}
use Rattle.rules.specs.Sensing.{Meaning, Cell, blank, listened, sent, listened?, Held}

-- what a scheduler asks for
pub record Question : Type 0 where
  -- L, how many sub-channels
  pub length : ℕ
  -- the interval code
  pub code : ℕ
  -- C, how many turns
  pub turns : ℕ
  pub priority : ℕ
  -- T1 and T2
  pub from : ℕ
  pub to : ℕ

-- a candidate (x, y): its first sub-channel, and its index
pub record Place : Type 0 where
  pub channel : ℕ
  pub at : ℕ

-- P', the distance between two turns
abbrev pub interval : Pool → Question → ℕ
interval p q = distance p q.code

-- the pool subframes from now + T1 to now + T2
abbrev pub subframes : Pool → ℕ → Question → List ℕ
subframes p now q = filter (λ s. in_set p s && in_pool p (index p s)) (range_with_len (now + q.from) (q.to + 1 - q.from))

-- the candidates at an index
abbrev pub across : Pool → Question → ℕ → List Place
across p q y = map (λ x. record { channel = x; at = y }) (range_with_len 0 (p.channels + 1 - q.length))

abbrev pub joined_all : {X : Type 0} → List (List X) → List X
joined_all [] = []
joined_all (xs ∷ xss) = xs ++ joined_all xss

-- all candidates, in order of index, then sub-channel
unfoldable pub candidates : Pool → ℕ → Question → List Place
candidates p now q = joined_all (map (λ s. across p q (index p s)) (subframes p now q))

-- Q(c, g): 2 for code 11 and 5 for code 12 if g is at most D(c), and 1 otherwise
abbrev pub repeats : Pool → ℕ → ℕ → ℕ
repeats p c g = cond (nat_le g (distance p c)) (cond (c == 11) 2 (cond (c == 12) 5 1)) 1

-- the window: the indices n' - W to n' - 1
abbrev pub window_of : Pool → Meaning → List ℕ
window_of p m = range_with_len (m.next - window p) (window p)

-- t is one of the turns y, y + P', ..
abbrev pub Turn : ℕ → ℕ → ℕ → ℕ → Type 0
Turn y apart turns t = (j : ℕ) × (j < turns) × (y + j * apart ≡ t)

abbrev pub turn : ℕ → ℕ → ℕ → ℕ → Bool
turn y apart turns t = nat_le y t && (t - y) % apart == 0 && nat_lt ((t - y) / apart) turns

-- an index z that was not listened to meets a turn by an allowed code c, q times D(c) later
abbrev pub meets : Pool → Meaning → Question → ℕ → ℕ → ℕ → Bool
meets p m q y z c = allowed p c && any (λ k. turn y (interval p q) q.turns (z + k * distance p c)) (range_with_len 1 (repeats p c (m.next - z)))

abbrev pub blinds : Pool → Meaning → Question → ℕ → ℕ → Bool
blinds p m q y z = not (listened? (m.cell z)) && any (meets p m q y z) (range_with_len 1 12)

-- a candidate at y is blinded
unfoldable pub blinded : Pool → Meaning → Question → ℕ → Bool
blinded p m q y = any (blinds p m q y) (window_of p m)

-- in the subject's words: some z of the window that was not listened to, some allowed code c, some q from 1 to
-- Q(c, n' - z) and some j below C have y + j x P' = z + q x D(c)
pub record Blinded (p : Pool) (m : Meaning) (q : Question) (y : ℕ) : Type 0 where
  pub z : ℕ
  pub low : m.next - window p ≤ z
  pub high : z < m.next - window p + window p
  pub deaf : listened? (m.cell z) ≡ false
  pub code : ℕ
  pub few : (1 ≤ code) × (code ≤ 12)
  pub allows : allowed p code ≡ true
  pub times : ℕ
  pub reach : (1 ≤ times) × (times ≤ repeats p code (m.next - z))
  pub turn : Turn y (interval p q) q.turns (z + times * distance p code)

-- the level of the own priority and a record's
abbrev pub level_of : Pool → ℕ → ℕ → ℕ
level_of p own other = slice_index p.levels (8 * own + other)

-- is an RSRP above the threshold of a level at a raise? Level 0 is below every RSRP and level 66 above all, at every raise
abbrev pub above : ℕ → ℕ → ℤ → Bool
above level raise rsrp = cond (level == 0) true (cond (level == 66) false (int_lt (threshold level +ℤ pos (30 * raise)) rsrp))

-- do sub-channels a to a + l - 1 and b to b + k - 1 share one?
abbrev pub share : ℕ → ℕ → ℕ → ℕ → Bool
share a l b k = nat_lt a (b + k) && nat_lt b (a + l)

-- the index of a record's partner, if it has one
abbrev pub partner_of : Record → ℕ → Option ℕ
partner_of r b =
    cond (r.gap == 0) None
    (cond (r.again == 0) (Some (b + r.gap))
    (cond (r.again == 1 && nat_le r.gap b) (Some (b - r.gap)) None))

abbrev pub taken_by_partner : Question → ℕ → Place → Record → Option ℕ → Bool
taken_by_partner q apart c r None = false
taken_by_partner q apart c r (Some t) = turn c.at apart q.turns t && share c.channel q.length r.start r.length

-- does a record that was heard at resource a, based at b, use a sub-channel of the candidate in one of its turns?
abbrev pub takes : Question → ℕ → Place → Record → ℕ → ℕ → Bool
takes q apart c r a b =
    (turn c.at apart q.turns b && share c.channel q.length a r.length)
    || taken_by_partner q apart c r (partner_of r b)

-- a record held at window index z and resource a reserves the candidate at a raise
abbrev pub held_reserves : Pool → Meaning → Question → ℕ → Place → ℕ → ℕ → Option Held → Bool
held_reserves p m q raise c z a None = false
held_reserves p m q raise c z a (Some h) =
    above (level_of p q.priority h.what.priority) raise h.rsrp
    && any (λ k. takes q (interval p q) c h.what a (z + k * distance p h.what.code)) (range_with_len 0 (repeats p h.what.code (m.next - z) + 1))

unfoldable pub reserved_at : Pool → Meaning → Question → ℕ → Place → Bool
reserved_at p m q raise c = any (λ z. any (λ a. held_reserves p m q raise c z a (m.held z a)) (range_with_len 0 p.channels)) (window_of p m)

-- in the subject's words: some record, held at a window index z and a resource a, has its RSRP above its threshold and,
-- based at z + k x D(its code) with k from 0 to Q, uses a sub-channel of the candidate at one of its turns
pub record Reserved (p : Pool) (m : Meaning) (q : Question) (raise : ℕ) (c : Place) : Type 0 where
  pub z : ℕ
  pub low : m.next - window p ≤ z
  pub high : z < m.next - window p + window p
  pub resource : ℕ
  pub inside : resource < p.channels
  pub held : Held
  pub there : m.held z resource ≡ Some held
  pub loud : above (level_of p q.priority held.what.priority) raise held.rsrp ≡ true
  pub times : ℕ
  pub reach : times ≤ repeats p held.what.code (m.next - z)
  pub channel : ℕ
  pub across : (c.channel ≤ channel) × (channel < c.channel + q.length)
  pub index : ℕ
  pub turn : Turn c.at (interval p q) q.turns index
  pub uses : Uses held.what resource (z + times * distance p held.what.code) channel index

-- a survivor is neither blinded nor reserved
abbrev pub survives : Pool → Meaning → Question → ℕ → Place → Bool
survives p m q raise c = not (blinded p m q c.at) && not (reserved_at p m q raise c)

unfoldable pub survivors : Pool → ℕ → Meaning → Question → ℕ → List Place
survivors p now m q raise = filter (survives p m q raise) (candidates p now q)

-- a raise leaves a fifth of the candidates
abbrev pub enough : Pool → ℕ → Meaning → Question → ℕ → Bool
enough p now m q raise = nat_le (length (candidates p now q)) (5 * length (survivors p now m q raise))

-- r is the fewest raises that leave a fifth
pub record Fewest (p : Pool) (now : ℕ) (m : Meaning) (q : Question) (raise : ℕ) : Type 0 where
  pub leaves : enough p now m q raise ≡ true
  pub least : (s : ℕ) → s < raise → enough p now m q s ≡ false

-- the distance between two samples
abbrev pub sample_step : Pool → Question → ℕ
sample_step p q = cond (nat_le q.code 10) (step p) (interval p q)

-- the listened window indices that lie whole steps before y
abbrev pub samples : Pool → Meaning → Question → ℕ → List ℕ
samples p m q y = filter (λ z. listened? (m.cell z) && (y - z) % sample_step p q == 0) (window_of p m)

-- in the subject's words: z was listened to, lies in the window, and some number of steps before y
pub record Sample (p : Pool) (m : Meaning) (q : Question) (y z : ℕ) : Type 0 where
  pub low : m.next - window p ≤ z
  pub high : z < m.next - window p + window p
  pub heard : listened? (m.cell z) ≡ true
  pub steps : ℕ
  pub before : z + steps * sample_step p q ≡ y

abbrev pub readings_in : Cell → List ℕ
readings_in blank = []
readings_in (listened rs) = rs
readings_in sent = []

-- the readings of a candidate's sub-channels at an index
abbrev pub power : Meaning → Question → ℕ → ℕ → ℕ
power m q x z = sum_by (λ a. slice_index (readings_in (m.cell z)) a) (range_with_len x q.length)

-- a mean as an exact fraction
pub record Fraction : Type 0 where
  pub over : ℕ
  pub under : ℕ

-- the mean of a candidate, absent where it has no sample
unfoldable pub mean : Pool → Meaning → Question → Place → Option Fraction
mean p m q c =
    cond (length (samples p m q c.at) == 0) None
    (Some (record { over = sum_by (power m q c.channel) (samples p m q c.at); under = length (samples p m q c.at) }))

-- by exact fractions; one without a mean stands behind all that have one
abbrev pub lower : Option Fraction → Option Fraction → Bool
lower None b = false
lower (Some a) None = true
lower (Some a) (Some b) = nat_lt (a.over * b.under) (b.over * a.under)

-- by index, then sub-channel
abbrev pub earlier : Place → Place → Bool
earlier a b = nat_lt a.at b.at || (a.at == b.at && nat_lt a.channel b.channel)

-- a stands before b: the lower mean, then the lower index, then the lower sub-channel
abbrev pub ahead : Pool → Meaning → Question → Place → Place → Bool
ahead p m q a b = lower (mean p m q a) (mean p m q b) || (not (lower (mean p m q b) (mean p m q a)) && earlier a b)

-- a list in order, by insertion
abbrev pub insert : {X : Type 0} → (X → X → Bool) → X → List X → List X
insert before x [] = x ∷ []
insert before x (y ∷ ys) = cond (before y x) (y ∷ insert before x ys) (x ∷ y ∷ ys)

abbrev pub ordered : {X : Type 0} → (X → X → Bool) → List X → List X
ordered before [] = []
ordered before (x ∷ xs) = insert before x (ordered before xs)

-- a fifth of the candidates, rounded up
abbrev pub fifth : ℕ → ℕ
fifth n = (n + 4) / 5

-- the report at a raise: the first fifth of the survivors in the order, and then by index and sub-channel
unfoldable pub report : Pool → ℕ → Meaning → Question → ℕ → List Place
report p now m q raise = ordered earlier (take (fifth (length (candidates p now q))) (ordered (ahead p m q) (survivors p now m q raise)))

-- the questions that the scheduler's question is put by itself
abbrev pub question_questions : Pool → Question → List (Bool × ℕ)
question_questions p q =
    (nat_le 1 q.length && nat_le q.length p.channels, 34)
    ∷ (allowed p q.code, 35)
    ∷ (nat_le 1 q.turns && nat_le q.turns 750, 36)
    ∷ (nat_le q.priority 7, 37)
    ∷ (nat_le 1 q.from && nat_le q.from 4 && nat_le 20 q.to && nat_le q.to 100, 38)
    ∷ []

-- the questions that choose puts before a raise is looked for
abbrev pub choose_questions : Pool → ℕ → Question → List (Bool × ℕ)
choose_questions p now q = question_questions p q ++ (nat_lt 0 (length (candidates p now q)), 40) ∷ []
