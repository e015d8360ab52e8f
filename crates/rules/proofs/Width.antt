-- The width of the RIV is the smallest that holds all of them. Assumes nothing.
use Rattle.std.proofs.Common.{◌≡◌, ℕ, zero, suc, ◌+◌, ◌^◌, ◌<◌, ◌≤◌, ltb, refl, ap, ◌∙◌, ⊎_elim, pow-suc, arith}
use Rattle.std.proofs.lemmas.Bool.{cases_lt, cases_Bool, ltb-true, ltb-false}
use Rattle.std.proofs.lemmas.Nat.{pow_below, mul-le}
use Rattle.rules.specs.Counting.{one, count_below}
use Rattle.rules.specs.Format.{pairs, riv, Width, width, Fitting}
use Rattle.rules.proofs.Riv.{names_below}

pub pow_le : (i j : ℕ) → i ≤ j → 2 ^ i ≤ 2 ^ j
pow_le i j h =
    ⊎_elim
    (λ (l : i < j). let p = pow_below i j l in omega arith)
    (λ (l : j ≤ i). let e : i ≡ j = omega arith in omega (arith, ap (λ k. 2 ^ k) e))
    (cases_lt i j)

below_pow : (m : ℕ) → m < 2 ^ m
below_pow zero = omega arith
below_pow (suc m) = omega (arith, pow-suc 2 m, below_pow m)

-- the powers below m, of the first k
record Powers (m k c : ℕ) : Type 0 where
  small : c ≤ k
  below : (v : ℕ) → v < c → 2 ^ v < m
  full : c < k → m ≤ 2 ^ c

powers : (m k : ℕ) → Powers m k (count_below (λ w. ltb (2 ^ w) m) k)
powers m zero = record { small = omega arith; below = λ v h. absurd (omega (arith, h)); full = λ h. absurd (omega (arith, h)) }
powers m (suc k) =
    let c = count_below (λ w. ltb (2 ^ w) m) k in
    let w = powers m k in
    let small = w.small in
    ⊎_elim
    (λ t.
    let less = ltb-true (2 ^ k) m t in
    let o = ap one t in
    let all : c ≡ k =
    ⊎_elim
    (λ (l : c < k). absurd (omega (arith, w.full l, pow_below c k l, less)))
    (λ (l : k ≤ c). omega arith)
    (cases_lt c k) in
    record {
      small = omega arith;
      below = λ v h. omega (arith, pow_le v k (omega arith), less);
      full = λ h. absurd (omega arith);
    })
    (λ t.
    let more = ltb-false (2 ^ k) m t in
    let o = ap one t in
    let same : c + one (ltb (2 ^ k) m) ≡ c = omega arith in
    record {
      small = omega arith;
      below = λ v h. w.below v (omega arith);
      full =
          λ h.
          ⊎_elim
          (λ (l : c < k). omega (arith, w.full l, ap (λ x. 2 ^ x) same))
          (λ (l : k ≤ c). let e : c ≡ k = omega arith in omega (arith, more, ap (λ x. 2 ^ x) (same ∙ e)))
          (cases_lt c k);
    })
    (cases_Bool (ltb (2 ^ k) m))

pub smallest : (n : ℕ) → Width n (width n)
unfolding width
smallest n =
    let m = pairs n in
    let c = count_below (λ w. ltb (2 ^ w) m) m in
    let w = powers m m in
    record {
      enough =
          ⊎_elim
          (λ (l : c < m). w.full l)
          (λ (l : m ≤ c). let e : c ≡ m = omega (arith, w.small) in omega (arith, below_pow m, ap (λ x. 2 ^ x) e))
          (cases_lt c m);
      least = w.below;
    }

-- a width that holds all of them is at least the smallest, and so the smallest is one only
pub width_most : (n j : ℕ) → pairs n ≤ 2 ^ j → width n ≤ j
width_most n j h =
    ⊎_elim (λ (l : j < width n). absurd (omega (arith, (smallest n).least j l, h))) (λ (l : width n ≤ j). l) (cases_lt j (width n))

pub width_is : (n w : ℕ) → Width n w → width n ≡ w
width_is n w h =
    let most = width_most n w h.enough in
    ⊎_elim (λ (l : width n < w). absurd (omega (arith, h.least (width n) l, (smallest n).enough))) (λ (l : w ≤ width n). omega arith) (cases_lt (width n) w)

pairs_grow : (n k : ℕ) → n ≤ k → pairs n ≤ pairs k
pairs_grow n k h = omega (arith, mul-le n (n + 1) k (k + 1) h (omega arith))

-- up to 20 sub-channels it is at most 8, and up to 255 at most 15
pub width_few : (n : ℕ) → n ≤ 20 → width n ≤ 8
width_few n h = width_most n 8 (omega (arith, pairs_grow n 20 h))

pub width_small : (n : ℕ) → n ≤ 255 → width n ≤ 15
width_small n h = width_most n 15 (omega (arith, pairs_grow n 255 h))

pub riv_fits : (n l f : ℕ) → 1 ≤ l → f + l ≤ n → riv n l f < 2 ^ width n
riv_fits n l f some inside =
    omega (arith, names_below n (riv n l f) l f (record { some = some; inside = inside; value = refl }), (smallest n).enough)

pub fitting : Fitting
fitting = record { smallest = smallest; few = width_few; fits = riv_fits }
