-- Bits of words, and how many are one. Assumes nothing.
use Rattle.std.proofs.Common.{◌≡◌, ℕ, zero, suc, ◌+◌, ◌/◌, ◌%◌, ◌^◌, ◌<◌, Bool, eqb, sym, refl, ap, ◌∙◌, ⊎_elim, mul_comm, pow-suc, div-one, arith}
use native.Mathlib.Nat.{div-div-eq-div-mul}
use lib.Count.{ones, ones_in, ones_step}
use Rattle.std.proofs.lemmas.Bool.{cases_eq}
use Rattle.rules.specs.Counting.{one, count_below}
use Rattle.rules.proofs.Counts.{count_same}

-- half a number has its bits one lower
lower : (n e : ℕ) → n / 2 ^ suc e ≡ n / 2 / 2 ^ e
lower n e = ap (λ x. n / x) (pow-suc 2 e ∙ mul_comm (2 ^ e) 2) ∙ sym (div-div-eq-div-mul n 2 (2 ^ e))

-- where no bit is one, none is counted
pub no_ones : (e n : ℕ) → ones n ≡ 0 → n / 2 ^ e % 2 ≡ 0
no_ones zero n none = let s = ones_step n in let d = div-one n in omega arith
no_ones (suc e) n none =
    let s = ones_step n in
    ap (λ x. x % 2) (lower n e) ∙ no_ones e (n / 2) (omega arith)

none : ones 0 ≡ 0
unfolding ones ones_in
none = refl

-- and a count above zero comes from some bit
pub some_one : (k n : ℕ) → n < 2 ^ k → 0 < ones n → (e : ℕ) × (e < k) × (n / 2 ^ e % 2 ≡ 1)
some_one zero n small some = let z : n ≡ 0 = omega arith in absurd (omega (arith, ap ones z, none))
some_one (suc k) n small some =
    let s = ones_step n in
    let d = div-one n in
    let p = pow-suc 2 k in
    ⊎_elim
    (λ (odd : n % 2 ≡ 1). (0, omega arith, omega arith))
    (λ (even : n % 2 ≡ 1 → ⊥).
    let w = some_one k (n / 2) (omega arith) (omega (arith, even)) in
    (suc w.0, omega arith, ap (λ x. x % 2) (lower n w.0) ∙ w.2))
    (cases_eq (n % 2) 1)

-- a bit as a number
one_bit : (b : ℕ) → b < 2 → one (eqb b 1) ≡ b
one_bit zero h = refl
one_bit (suc zero) h = refl
one_bit (suc (suc b)) h = absurd (omega arith)

-- a count from the second number on
count_first : (p : ℕ → Bool) (n : ℕ) → count_below p (suc n) ≡ one (p 0) + count_below (λ k. p (suc k)) n
count_first p zero = omega arith
count_first p (suc n) = omega (arith, count_first p n)

-- the ones of a number are its bits that are one
pub ones_counted : (w n : ℕ) → n < 2 ^ w → ones n ≡ count_below (λ k. eqb (n / 2 ^ k % 2) 1) w
ones_counted zero n small = let z : n ≡ 0 = omega arith in ap ones z ∙ none
ones_counted (suc w) n small =
    let p = pow-suc 2 w in
    let s = ones_step n in
    let rest = ones_counted w (n / 2) (omega arith) in
    let lowered = count_same (λ k. eqb (n / 2 / 2 ^ k % 2) 1) (λ k. eqb (n / 2 ^ suc k % 2) 1) w (λ k _. ap (λ x. eqb (x % 2) 1) (sym (lower n k))) in
    let first = count_first (λ k. eqb (n / 2 ^ k % 2) 1) w in
    let here : one (eqb (n / 1 % 2) 1) ≡ n % 2 = ap (λ x. one (eqb (x % 2) 1)) (div-one n) ∙ one_bit (n % 2) (omega arith) in
    omega arith
