-- Tests over lists, by places. Assumes nothing.
use Rattle.std.proofs.Common.{◌≡◌, ℕ, zero, suc, ◌<◌, ◌≤◌, Bool, true, false, ◌⊎◌, leb, List, [], ◌∷◌, length, get_or, sym, refl, inl, inr, ⊎_elim, arith}
use Rattle.std.proofs.lemmas.Bool.{and_parts, and_from, and_left, and_right, or_cases, or_left, or_right, true≢false, cases_Bool, leb-true}
use Rattle.rules.specs.Counting.{any, every}

-- two tests that imply each other answer alike
pub both : (a b : Bool) → (a ≡ true → b ≡ true) → (b ≡ true → a ≡ true) → a ≡ b
both true b f g = sym (f refl)
both false true f g = g refl
both false false f g = refl

module _ {X : Type 0} (p : X → Bool) where
  pub any_at : (xs : List X) (d : X) → any p xs ≡ true → (k : ℕ) × (k < length xs) × (p (get_or xs k d) ≡ true)
  any_at [] d t = absurd (true≢false (sym t))
  any_at (x ∷ xs) d t =
      ⊎_elim
      (λ h. (0, omega arith, h))
      (λ h. let w = any_at xs d h in (suc w.0, omega arith, w.2))
      (or_cases (p x) (any p xs) t)

  pub any_from : (xs : List X) (d : X) (k : ℕ) → k < length xs → p (get_or xs k d) ≡ true → any p xs ≡ true
  any_from [] d k h t = absurd (omega arith)
  any_from (x ∷ xs) d zero h t = or_left (p x) (any p xs) t
  any_from (x ∷ xs) d (suc k) h t = or_right (p x) (any p xs) (any_from xs d k (omega arith) t)

  pub every_at : (xs : List X) (d : X) → every p xs ≡ true → (k : ℕ) → k < length xs → p (get_or xs k d) ≡ true
  every_at [] d t k h = absurd (omega arith)
  every_at (x ∷ xs) d t zero h = (and_parts (p x) (every p xs) t).0
  every_at (x ∷ xs) d t (suc k) h = every_at xs d (and_parts (p x) (every p xs) t).1 k (omega arith)

  pub every_from : (xs : List X) (d : X) → ((k : ℕ) → k < length xs → p (get_or xs k d) ≡ true) → every p xs ≡ true
  every_from [] d h = refl
  every_from (x ∷ xs) d h = and_from (p x) (every p xs) (h 0 (omega arith)) (every_from xs d (λ k l. h (suc k) (omega arith)))

  pub every_fails : (xs : List X) (d : X) (k : ℕ) → k < length xs → p (get_or xs k d) ≡ false → every p xs ≡ false
  every_fails [] d k h t = absurd (omega arith)
  every_fails (x ∷ xs) d zero h t = and_left (p x) (every p xs) t
  every_fails (x ∷ xs) d (suc k) h t = and_right (p x) (every p xs) (every_fails xs d k (omega arith) t)

-- a number of a list is at most b, or not all of them are
pub every_below : (b : ℕ) (xs : List ℕ) (k : ℕ) → k < length xs → (get_or xs k 0 ≤ b) ⊎ (every (λ l. leb l b) xs ≡ false)
every_below b xs k h =
    ⊎_elim
    (λ (t : leb (get_or xs k 0) b ≡ true). inl (leb-true (get_or xs k 0) b t))
    (λ (t : leb (get_or xs k 0) b ≡ false). inr (every_fails (λ l. leb l b) xs 0 k h t))
    (cases_Bool (leb (get_or xs k 0) b))
