-- How many ranks are reserved below a rank, and the set in closed form. Assumes nothing.
use Rattle.std.proofs.Common.{◌≡◌, ℕ, ◌+◌, ◌-◌, ◌*◌, ◌/◌, ◌<◌, ◌≤◌, true, false, eqb, ap, ◌∙◌, ⊎_elim, mul-le-mul_right, mod-lt, mul_comm, add-mul, one-mul, div-add-mod', zero-mul, arith}
use Rattle.std.proofs.lemmas.Nat.{div-mul-add}
use Rattle.std.proofs.lemmas.Bool.{cases_lt, cases_order, eqb-true, eq-eqb, both_ways}
use Rattle.rules.specs.Counting.{some_below}
use Rattle.rules.specs.Closed.{reserved_before}
use Rattle.rules.proofs.Counts.{some_at, none_at}

-- `left` ranks are spread over `all`
module _ (all left : ℕ) (some : 0 < all) (few : left ≤ all) where
  -- the number of reserved ranks below k, by its bounds
  before_bounds : (k : ℕ) → (k * left ≤ reserved_before all left k * all) × (reserved_before all left k * all < k * left + all)
  unfolding reserved_before
  before_bounds k =
      let x = k * left + all - 1 in
      let d = div-add-mod' x all in
      let m = mod-lt x some in
      (omega arith, omega arith)

  before_is : (k m : ℕ) → k * left ≤ m * all → m * all < k * left + all → reserved_before all left k ≡ m
  before_is k m low high =
      let b = before_bounds k in
      let c = reserved_before all left k in
      ⊎_elim
      (λ (e : c ≡ m). e)
      (⊎_elim
      (λ (h : c < m). let g : c + 1 ≤ m = omega arith in absurd (omega (arith, mul-le-mul_right all g, add-mul c 1 all, one-mul all)))
      (λ (h : m < c). let g : m + 1 ≤ c = omega arith in absurd (omega (arith, mul-le-mul_right all g, add-mul m 1 all, one-mul all))))
      (cases_order c m)

  pub before_none : reserved_before all left 0 ≡ 0
  before_none = before_is 0 0 (omega (arith, zero-mul left)) (omega (arith, zero-mul left, zero-mul all))

  pub before_all : reserved_before all left all ≡ left
  before_all = before_is all left (omega (arith, mul_comm all left)) (omega (arith, mul_comm all left))

  -- a rank that is reserved counts once
  pub before_hit : (k : ℕ) → some_below (λ m. eqb (m * all / left) k) left ≡ true → reserved_before all left (k + 1) ≡ reserved_before all left k + 1
  before_hit k t =
      let w = some_at (λ m. eqb (m * all / left) k) left t in
      let m = w.0 in
      let e = eqb-true (m * all / left) k w.2 in
      let d = div-add-mod' (m * all) left in
      let r = mod-lt (m * all) {m = left} (omega arith) in
      let q = ap (λ x. x * left) e in
      let here = before_is k m (omega arith) (omega arith) in
      let next = before_is (k + 1) (m + 1) (omega (arith, add-mul k 1 left, one-mul left, add-mul m 1 all, one-mul all)) (omega (arith, add-mul k 1 left, one-mul left, add-mul m 1 all, one-mul all)) in
      omega arith

  -- and one that is not does not
  pub before_miss : (k : ℕ) → k < all → some_below (λ m. eqb (m * all / left) k) left ≡ false → reserved_before all left (k + 1) ≡ reserved_before all left k
  before_miss k in_all t =
      let c = reserved_before all left k in
      let b = before_bounds k in
      let step = add-mul k 1 left in
      let same = one-mul left in
      ⊎_elim
      (λ (h : c * all < k * left + left).
      let rest = c * all - k * left in
      let sum : c * all ≡ k * left + rest = omega arith in
      let q : c * all / left ≡ k = ap (λ x. x / left) sum ∙ div-mul-add k left rest (omega arith) in
      let top : (k + 1) * left ≤ all * left = mul-le-mul_right left (omega arith) in
      let low : c < left = below c (omega (arith, mul_comm all left)) in
      absurd (both_ways _ (none_at (λ m. eqb (m * all / left) k) left t c low) (eq-eqb _ _ q)))
      (λ (h : k * left + left ≤ c * all). before_is (k + 1) c (omega arith) (omega arith))
      (cases_lt (c * all) (k * left + left))
    where
      below : (c : ℕ) → c * all < left * all → c < left
      below c h = ⊎_elim (λ (l : c < left). l) (λ (l : left ≤ c). absurd (omega (arith, mul-le-mul_right all l))) (cases_lt c left)
