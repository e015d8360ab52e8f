-- Turns, and tests over counted numbers. Assumes nothing.
use Rattle.std.proofs.Common.{◌≡◌, ℕ, zero, suc, ◌+◌, ◌-◌, ◌*◌, ◌/◌, ◌%◌, ◌<◌, ◌≤◌, Bool, true, ◌||◌, List, [], ◌∷◌, get_or, sym, refl, ap, ◌∙◌, ⊎_elim, div-add-mod', mul-div_cancel, arith}
use native.Mathlib.Nat.{mul-mod_left, div-zero}
use Rattle.std.specs.List.{range_with_len}
use Rattle.std.proofs.lemmas.List.FromFn.{length-range_with_len, get_or-range_with_len}
use Rattle.std.proofs.lemmas.Bool.{or_left, or_right, or_cases, and_parts, and_from, leb-true, le-leb, ltb-true, lt-ltb, eqb-true, eq-eqb, cases_eq}
use Rattle.rules.specs.Counting.{any}
use Rattle.rules.specs.Choose.{Turn, turn}
use Rattle.rules.proofs.Lists.{any_at, any_from}

pub turn_is : (y apart n t : ℕ) → turn y apart n t ≡ true → Turn y apart n t
turn_is y apart n t e =
    let w = and_parts _ _ e in
    let u = and_parts _ _ w.0 in
    let low = leb-true y t u.0 in
    let whole = eqb-true _ _ u.1 in
    let j = (t - y) / apart in
    (j, ltb-true _ _ w.1, omega (arith, div-add-mod' (t - y) apart))

pub is_turn : (y apart n t : ℕ) → Turn y apart n t → turn y apart n t ≡ true
is_turn y apart n t w =
    let j = w.0 in
    let few = w.1 in
    let e = w.2 in
    let rest : t - y ≡ j * apart = omega arith in
    and_from _ _
    (and_from _ _ (le-leb y t (omega arith)) (eq-eqb _ _ (ap (λ x. x % apart) rest ∙ mul-mod_left j apart)))
    (lt-ltb _ _
    (⊎_elim
    (λ (z : apart ≡ 0). let q : (t - y) / apart ≡ 0 = ap (λ a. (t - y) / a) z ∙ div-zero (t - y) in omega arith)
    (λ (nz : apart ≡ 0 → ⊥). let some : 0 < apart = omega (arith, nz) in let q : (t - y) / apart ≡ j = ap (λ x. x / apart) rest ∙ mul-div_cancel j some in omega arith)
    (cases_eq apart 0)))

-- some counted number passes
pub some_counted : (f : ℕ → Bool) (a n : ℕ) → any f (range_with_len a n) ≡ true → (i : ℕ) × (a ≤ i) × (i < a + n) × (f i ≡ true)
some_counted f a n t =
    let w = any_at f (range_with_len a n) 0 t in
    let k = w.0 in
    let less : k < n = rw length-range_with_len at w.1 in
    let is = get_or-range_with_len a n k 0 less in
    (a + k, omega arith, omega arith, ap f (sym is) ∙ w.2)

pub counted_some : (f : ℕ → Bool) (a n i : ℕ) → a ≤ i → i < a + n → f i ≡ true → any f (range_with_len a n) ≡ true
counted_some f a n i low high t =
    let less : i - a < n = omega arith in
    let is : get_or (range_with_len a n) (i - a) 0 ≡ i = get_or-range_with_len a n (i - a) 0 less ∙ omega arith in
    any_from f (range_with_len a n) 0 (i - a) (rw length-range_with_len less) (ap f is ∙ t)

-- where what passes one test passes another, so do some of a list
pub any_weaker : {X : Type 0} (f g : X → Bool) (xs : List X) → ((x : X) → f x ≡ true → g x ≡ true) → any f xs ≡ true → any g xs ≡ true
any_weaker f g [] h t = t
any_weaker f g (x ∷ xs) h t =
    ⊎_elim
    (λ e. or_left (g x) (any g xs) (h x e))
    (λ e. or_right (g x) (any g xs) (any_weaker f g xs h e))
    (or_cases (f x) (any f xs) t)

-- tests that agree on each element agree on the list
pub any_same : {X : Type 0} (f g : X → Bool) (xs : List X) → ((x : X) → f x ≡ g x) → any f xs ≡ any g xs
any_same f g [] h = refl
any_same f g (x ∷ xs) h = ap (λ b. b || any f xs) (h x) ∙ ap (λ b. g x || b) (any_same f g xs h)

pub any_counted : (f g : ℕ → Bool) (a n : ℕ) → ((i : ℕ) → a ≤ i → i < a + n → f i ≡ g i) → any f (range_with_len a n) ≡ any g (range_with_len a n)
any_counted f g a zero h = refl
any_counted f g a (suc n) h =
    ap (λ b. b || any f (range_with_len (a + 1) n)) (h a (omega arith) (omega arith)) ∙ ap (λ b. g a || b) (any_counted f g (a + 1) n (λ i low high. h i (omega arith) (omega arith)))

pub any_below : (f g : ℕ → Bool) (n : ℕ) → ((i : ℕ) → i < n → f i ≡ g i) → any f (range_with_len 0 n) ≡ any g (range_with_len 0 n)
any_below f g n h = any_counted f g 0 n (λ i low high. h i (omega arith))
