-- Laws of counting. Assumes nothing.
use Rattle.std.proofs.Common.{◌≡◌, ℕ, zero, suc, ◌+◌, ◌-◌, ◌*◌, ◌/◌, ◌%◌, ◌<◌, ◌≤◌, Bool, true, false, eqb, sym, refl, ap, ◌∙◌, ⊎_elim, add-zero, add-suc, mod-lt, add-mul, one-mul, mul-zero, div-add-mod', mul-one, mul-add, add-one, arith}
use native.Mathlib.Nat.{zero-mod, zero-div}
use Rattle.std.proofs.lemmas.Bool.{cases_lt, cases_Bool, eqb-true, eqb-false, true≢false, or_cases, or_parts}
use Rattle.std.proofs.lemmas.Nat.{div-mul-add, mod-mul-add}
use Rattle.rules.specs.Counting.{one, count_below, some_below}

-- tests that agree below n count the same there
pub count_same : (p q : ℕ → Bool) (n : ℕ) → ((k : ℕ) → k < n → p k ≡ q k) → count_below p n ≡ count_below q n
count_same p q zero h = refl
count_same p q (suc n) h =
    let e = count_same p q n (λ k l. h k (omega arith)) in
    let f = ap one (h n (omega arith)) in
    omega arith

-- where one test is split into two, so is its count
pub count_split : (p q r : ℕ → Bool) (n : ℕ) → ((k : ℕ) → k < n → one (p k) + one (q k) ≡ one (r k)) → count_below p n + count_below q n ≡ count_below r n
count_split p q r zero h = refl
count_split p q r (suc n) h =
    let e = count_split p q r n (λ k l. h k (omega arith)) in
    let f = h n (omega arith) in
    omega arith

pub one_le : (b : Bool) → one b ≤ 1
one_le true = omega arith
one_le false = omega arith

pub count_le : (p : ℕ → Bool) (n : ℕ) → count_below p n ≤ n
count_le p zero = omega arith
count_le p (suc n) = omega (arith, count_le p n, one_le (p n))

-- a count over more numbers is no less
pub count_grows : (p : ℕ → Bool) (m n : ℕ) → count_below p m ≤ count_below p (m + n)
count_grows p m zero = omega (arith, ap (count_below p) (add-zero m))
count_grows p m (suc n) =
    let e = count_grows p m n in
    omega (arith, ap (count_below p) (add-suc m n))

-- the quotient and the remainder at the next number
next_within : (m d : ℕ) → d % m + 1 < m → ((d + 1) / m ≡ d / m) × ((d + 1) % m ≡ d % m + 1)
next_within m d h =
    let e : d + 1 ≡ d / m * m + (d % m + 1) = omega (arith, div-add-mod' d m) in
    (ap (λ x. x / m) e ∙ div-mul-add (d / m) m (d % m + 1) h, ap (λ x. x % m) e ∙ mod-mul-add (d / m) m (d % m + 1) h)

next_wraps : (m d : ℕ) → 0 < m → d % m + 1 ≡ m → ((d + 1) / m ≡ d / m + 1) × ((d + 1) % m ≡ 0)
next_wraps m d some h =
    let e : d + 1 ≡ (d / m + 1) * m + 0 = omega (arith, div-add-mod' d m, add-mul (d / m) 1 m, one-mul m) in
    (ap (λ x. x / m) e ∙ div-mul-add (d / m + 1) m 0 some, ap (λ x. x % m) e ∙ mod-mul-add (d / m + 1) m 0 some)

-- a test that comes round after m counts as much in each round
module _ (g : ℕ → Bool) (m : ℕ) (some : 0 < m) where
  pub count_round : (d : ℕ) → count_below (λ e. g (e % m)) d ≡ count_below g m * (d / m) + count_below g (d % m)
  count_round zero = rw (zero-div, zero-mod, mul-zero)
  count_round (suc d) =
      let IH = count_round d in
      let lt : d % m < m = mod-lt d some in
      ⊎_elim
      (λ (h : d % m + 1 < m).
      let w = next_within m d h in
      let a : suc d / m ≡ d / m = ap (λ x. x / m) (sym (add-one d)) ∙ w.0 in
      let b : suc d % m ≡ suc (d % m) = ap (λ x. x % m) (sym (add-one d)) ∙ w.1 ∙ add-one (d % m) in
      let t = ap (λ x. count_below g m * x) a in
      let u = ap (count_below g) b in
      omega arith)
      (λ (h : m ≤ d % m + 1).
      let full : d % m + 1 ≡ m = omega arith in
      let w = next_wraps m d some full in
      let a : suc d / m ≡ d / m + 1 = ap (λ x. x / m) (sym (add-one d)) ∙ w.0 in
      let b : suc d % m ≡ 0 = ap (λ x. x % m) (sym (add-one d)) ∙ w.1 in
      let t = ap (λ x. count_below g m * x) a ∙ mul-add (count_below g m) (d / m) 1 in
      let u = ap (count_below g) b in
      let v : count_below g m ≡ count_below g (d % m) + one (g (d % m)) = ap (count_below g) (sym full ∙ add-one (d % m)) in
      let s = mul-one (count_below g m) in
      omega arith)
      (cases_lt (d % m + 1) m)

-- the numbers below d that leave o at a division by 160
pub count_offset : (o d : ℕ) → o < 160 → count_below (λ e. eqb o (e % 160)) d ≡ (d + 159 - o) / 160
count_offset o zero low = omega arith
count_offset o (suc d) low =
    let IH = count_offset o d low in
    ⊎_elim
    (λ t. let e = eqb-true o (d % 160) t in let u = ap one t in omega arith)
    (λ t. let e = eqb-false o (d % 160) t in let u = ap one t in omega (arith, e))
    (cases_Bool (eqb o (d % 160)))

-- the test, if something is among the numbers below n, and the number itself
pub some_at : (p : ℕ → Bool) (n : ℕ) → some_below p n ≡ true → (k : ℕ) × (k < n) × (p k ≡ true)
some_at p zero t = absurd (true≢false (sym t))
some_at p (suc n) t =
    ⊎_elim
    (λ h. (n, omega arith, h))
    (λ h. let w = some_at p n h in (w.0, omega arith, w.2))
    (or_cases (p n) (some_below p n) t)

pub none_at : (p : ℕ → Bool) (n : ℕ) → some_below p n ≡ false → (k : ℕ) → k < n → p k ≡ false
none_at p zero t k h = absurd (omega arith)
none_at p (suc n) t k h =
    let w = or_parts (p n) (some_below p n) t in
    ⊎_elim (λ (l : k < n). none_at p n w.1 k l) (λ (l : n ≤ k). let e : k ≡ n = omega arith in ap p e ∙ w.0) (cases_lt k n)
