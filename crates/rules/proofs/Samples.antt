-- Samples, by the sentence that they are to meet. Assumes nothing.
use Rattle.std.proofs.Common.{◌≡◌, ℕ, zero, suc, ◌+◌, ◌-◌, ◌*◌, ◌/◌, ◌%◌, ◌<◌, ◌≤◌, Bool, true, false, cond, ◌&&◌, eqb, List, [], ◌∷◌, filter, sym, ap, ◌∙◌, subst, inl, inr, ⊎_elim, div-add-mod', arith}
use native.Mathlib.Nat.{mul-mod_left}
use Rattle.std.specs.List.{range_with_len}
use Rattle.std.proofs.lemmas.Bool.{and_parts, and_from, cases_Bool, cases_eq, eqb-true, eq-eqb}
use Rattle.rules.specs.Calendar.{Pool, window}
use Rattle.rules.specs.Choose.{Question, sample_step, samples, Sample}
use Rattle.rules.specs.Reports.{In}
use Rattle.rules.specs.Sensing.{Meaning, listened?}
use Rattle.rules.proofs.Sorting.{in_kept}

in_counting : (z a n : ℕ) → In z (range_with_len a n) → (a ≤ z) × (z < a + n)
in_counting z a zero w = absurd w
in_counting z a (suc n) (inl e) = (omega arith, omega arith)
in_counting z a (suc n) (inr w) = let v = in_counting z (a + 1) n w in let low = v.0 in let high = v.1 in (omega arith, omega arith)

counting_in : (z a n : ℕ) → a ≤ z → z < a + n → In z (range_with_len a n)
counting_in z a zero low high = absurd (omega arith)
counting_in z a (suc n) low high =
    ⊎_elim
    (λ (e : z ≡ a). inl e)
    (λ (ne : z ≡ a → ⊥). inr (counting_in z (a + 1) n (omega (arith, ne)) (omega arith)))
    (cases_eq z a)

kept_passes : (f : ℕ → Bool) (z : ℕ) (xs : List ℕ) → In z (filter f xs) → f z ≡ true
kept_passes f z [] w = absurd w
kept_passes f z (x ∷ xs) w =
    ⊎_elim
    (λ (t : f x ≡ true). ⊎_elim (λ (e : z ≡ x). ap f e ∙ t) (λ v. kept_passes f z xs v) (subst (λ b. In z (cond b (x ∷ filter f xs) (filter f xs))) t w))
    (λ (t : f x ≡ false). kept_passes f z xs (subst (λ b. In z (cond b (x ∷ filter f xs) (filter f xs))) t w))
    (cases_Bool (f x))

passes_kept : (f : ℕ → Bool) (z : ℕ) (xs : List ℕ) → In z xs → f z ≡ true → In z (filter f xs)
passes_kept f z [] w t = absurd w
passes_kept f z (x ∷ xs) (inl e) t = subst (λ b. In z (cond b (x ∷ filter f xs) (filter f xs))) (sym (ap f (sym e) ∙ t)) (inl e)
passes_kept f z (x ∷ xs) (inr w) t =
    elim (f x) as (λ b. In z (cond b (x ∷ filter f xs) (filter f xs))) [ true ↦ inr (passes_kept f z xs w t) | false ↦ passes_kept f z xs w t ]

module _ (p : Pool) (m : Meaning) (q : Question) (y z : ℕ) (past : m.next - window p + window p ≤ y) where
  abbrev sampled : ℕ → Bool
  sampled z = listened? (m.cell z) && eqb ((y - z) % sample_step p q) 0

  pub sample_is : In z (samples p m q y) → Sample p m q y z
  sample_is w =
      let g = sample_step p q in
      let place = in_counting z (m.next - window p) (window p) (in_kept sampled z (range_with_len (m.next - window p) (window p)) w) in
      let high = place.1 in
      let t = and_parts (listened? (m.cell z)) (eqb ((y - z) % g) 0) (kept_passes sampled z (range_with_len (m.next - window p) (window p)) w) in
      let whole = eqb-true ((y - z) % g) 0 t.1 in
      record { low = place.0; high = high; heard = t.0; steps = (y - z) / g; before = omega (arith, div-add-mod' (y - z) g) }

  pub is_sample : Sample p m q y z → In z (samples p m q y)
  is_sample s =
      let g = sample_step p q in
      let e = s.before in
      let rest : y - z ≡ s.steps * g = omega arith in
      passes_kept sampled z (range_with_len (m.next - window p) (window p)) (counting_in z (m.next - window p) (window p) s.low s.high)
      (and_from (listened? (m.cell z)) _ s.heard (eq-eqb _ _ (ap (λ x. x % g) rest ∙ mul-mod_left s.steps g)))
