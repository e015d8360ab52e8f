-- Counting, and tests over lists and over the numbers below a bound. Assumes nothing.
use Rattle.std.specs.Prelude.{ℕ, zero, suc, ◌+◌, Bool, true, false, cond, not, ◌&&◌, ◌||◌, List, [], ◌∷◌, nat_eq}

-- 1 for a test that passes, else 0
abbrev pub one : Bool → ℕ
one b = cond b 1 0

-- how many of the numbers below n pass
abbrev pub count_below : (ℕ → Bool) → ℕ → ℕ
count_below p zero = 0
count_below p (suc n) = count_below p n + one (p n)

-- does one of the numbers below n pass?
abbrev pub some_below : (ℕ → Bool) → ℕ → Bool
some_below p zero = false
some_below p (suc n) = p n || some_below p n

-- do all numbers below n pass?
abbrev pub all_below : (ℕ → Bool) → ℕ → Bool
all_below p zero = true
all_below p (suc n) = p n && all_below p n

-- does one element pass?
abbrev pub any : {X : Type 0} → (X → Bool) → List X → Bool
any p [] = false
any p (x ∷ xs) = p x || any p xs

-- does each element pass?
abbrev pub every : {X : Type 0} → (X → Bool) → List X → Bool
every p [] = true
every p (x ∷ xs) = p x && every p xs

-- is n an element?
abbrev pub among : ℕ → List ℕ → Bool
among n = any (λ m. nat_eq m n)

-- is no element there twice?
abbrev pub distinct : List ℕ → Bool
distinct [] = true
distinct (x ∷ xs) = not (among x xs) && distinct xs

-- the questions of a call, each with its number: the first that is answered no gives the number, and 0 says that none is
abbrev pub first_no : List (Bool × ℕ) → ℕ
first_no [] = 0
first_no (q ∷ qs) = cond q.0 (first_no qs) q.1
