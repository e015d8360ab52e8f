-- What the answer to a list of questions says of them. Assumes nothing.
use Rattle.std.proofs.Common.{◌≡◌, ℕ, zero, suc, ◌<◌, ◌≤◌, Bool, true, false, ltb, List, [], ◌∷◌, ◌++◌, Ok, Err, refl, ap, ◌∙◌, ⊎_elim, arith}
use Rattle.std.proofs.lemmas.Bool.{and_parts, and_from, and_left, and_right, leb-true, le-leb, ltb-true, cases_lt}
use Rattle.rules.specs.Counting.{all_below, every, first_no}
use Rattle.rules.specs.Sensing.{Meaning, Inside, inside, answer}

-- an answer that is a value: each question was answered yes
pub answer_ok : {X : Type 0} (qs : List (Bool × ℕ)) (x y : X) → Ok y ≡ answer qs x → (every (λ q. q.0) qs ≡ true) × (y ≡ x)
answer_ok [] x y e = (refl, cc)
answer_ok ((true, n) ∷ qs) x y e = answer_ok qs x y e
answer_ok ((false, n) ∷ qs) x y e = let z : ◌≡◌ {A = ℕ} 0 1 = cc in absurd (omega arith)

-- an answer that is a number: some question was answered no
pub answer_err : {X : Type 0} (qs : List (Bool × ℕ)) (x : X) (n : ℕ) → Err n ≡ answer qs x → (every (λ q. q.0) qs ≡ false) × (n ≡ first_no qs)
answer_err [] x n e = let z : ◌≡◌ {A = ℕ} 0 1 = cc in absurd (omega arith)
answer_err ((true, k) ∷ qs) x n e = answer_err qs x n e
answer_err ((false, k) ∷ qs) x n e = (refl, cc)

pub inside_from : (m : Meaning) (i : ℕ) → inside m i ≡ true → Inside m i
inside_from m i t = let w = and_parts _ _ t in (leb-true _ _ w.0, leb-true _ _ w.1)

pub from_inside : (m : Meaning) (i : ℕ) → Inside m i → inside m i ≡ true
from_inside m i w = and_from _ _ (le-leb _ _ w.0) (le-leb _ _ w.1)

pub all_from : (p : ℕ → Bool) (n : ℕ) → ((k : ℕ) → k < n → p k ≡ true) → all_below p n ≡ true
all_from p zero h = refl
all_from p (suc n) h = and_from (p n) (all_below p n) (h n (omega arith)) (all_from p n (λ k l. h k (omega arith)))

pub all_fails : (p : ℕ → Bool) (n k : ℕ) → k < n → p k ≡ false → all_below p n ≡ false
all_fails p zero k h t = absurd (omega arith)
all_fails p (suc n) k h t =
    ⊎_elim
    (λ (l : k < n). and_right (p n) (all_below p n) (all_fails p n k l t))
    (λ (l : n ≤ k). let e : n ≡ k = omega arith in and_left (p n) (all_below p n) (ap p e ∙ t))
    (cases_lt k n)

-- a question of the first part that is answered no decides, and where there is none the second part does
pub stops : (xs ys : List (Bool × ℕ)) (n : ℕ) → 0 < n → first_no xs ≡ n → first_no (xs ++ ys) ≡ n
stops [] ys n some e = absurd (omega arith)
stops ((true, k) ∷ xs) ys n some e = stops xs ys n some e
stops ((false, k) ∷ xs) ys n some e = e

pub passes : (xs ys : List (Bool × ℕ)) → every (λ q. ltb 0 q.1) xs ≡ true → first_no xs ≡ 0 → first_no (xs ++ ys) ≡ first_no ys
passes [] ys t e = refl
passes ((true, k) ∷ xs) ys t e = passes xs ys (and_parts (ltb 0 k) _ t).1 e
passes ((false, k) ∷ xs) ys t e = absurd (omega (arith, ltb-true 0 k (and_parts (ltb 0 k) _ t).0))
