-- How many records a memory can hold. Assumes nothing.
use Rattle.std.proofs.Common.{◌≡◌, ℕ, zero, suc, ◌+◌, ◌-◌, ◌*◌, ◌<◌, ◌≤◌, Bool, false, is_some, None, ap, ◌∙◌, ⊎_elim, suc-mul, arith}
use Rattle.std.proofs.lemmas.Bool.{cases_lt}
use Rattle.rules.specs.Counting.{one, count_below}
use Rattle.rules.specs.Sensing.{Meaning, Inside, sum_below, held_count}
use Rattle.rules.proofs.Counts.{count_le, one_le}

-- a test that fails at one number counts less than all
pub count_less : (p : ℕ → Bool) (n k : ℕ) → k < n → p k ≡ false → count_below p n < n
count_less p zero k h t = absurd (omega arith)
count_less p (suc n) k h t =
    ⊎_elim
    (λ (l : k < n). omega (arith, count_less p n k l t, one_le (p n)))
    (λ (l : n ≤ k).
    let e : n ≡ k = omega arith in
    let z : one (p n) ≡ 0 = ap (λ x. one (p x)) e ∙ ap one t in
    omega (arith, count_le p n))
    (cases_lt k n)

-- a sum of numbers that are at most b
module _ (f : ℕ → ℕ) (b : ℕ) (low : (k : ℕ) → f k ≤ b) where
  pub sum_le : (n : ℕ) → sum_below f n ≤ n * b
  sum_le zero = omega arith
  sum_le (suc n) = omega (arith, sum_le n, low n, suc-mul n b)

  pub sum_less : (n k : ℕ) → k < n → f k < b → sum_below f n < n * b
  sum_less zero k h l = absurd (omega arith)
  sum_less (suc n) k h l =
      ⊎_elim
      (λ (t : k < n). omega (arith, sum_less n k t l, low n, suc-mul n b))
      (λ (t : n ≤ k). let e : n ≡ k = omega arith in omega (arith, sum_le n, ap f e, suc-mul n b))
      (cases_lt k n)

-- the records of the k-th index of the window
abbrev of_row : Meaning → ℕ → ℕ
of_row m k = count_below (λ a. is_some (m.held (m.next - m.window + k) a)) m.channels

of_row_le : (m : Meaning) (k : ℕ) → of_row m k ≤ m.channels
of_row_le m k = count_le _ m.channels

-- no more than one record for each resource of each index
pub held_count_le : (m : Meaning) → held_count m ≤ (m.window + 1) * m.channels
unfolding held_count
held_count_le m = sum_le (of_row m) m.channels (of_row_le m) (m.window + 1)

-- and fewer, where no record is held at one of them
pub held_count_less : (m : Meaning) (i a : ℕ) → m.window ≤ m.next → Inside m i → a < m.channels → m.held i a ≡ None → held_count m < (m.window + 1) * m.channels
unfolding held_count
held_count_less m i a old inside below free =
    let low = inside.0 in
    let high = inside.1 in
    let k = i - (m.next - m.window) in
    let at : m.next - m.window + k ≡ i = omega arith in
    sum_less (of_row m) m.channels (of_row_le m) (m.window + 1) k (omega arith)
    (count_less _ m.channels a below (ap (λ j. is_some (m.held j a)) at ∙ ap is_some free))
