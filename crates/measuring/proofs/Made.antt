-- What an array that `from_fn` made has at each index, where the closure changes nothing that it captures. Assumes nothing.
use Rattle.std.proofs.Common.{◌≡◌, ℕ, zero, suc, ◌+◌, ◌<◌, ◌≤◌, List, get_or, sym, refl, subst, ⊎_elim, arith}
use Rattle.std.proofs.lemmas.Bool.{cases_eq}
use Rattle.std.specs.Array.{IsFromFnResult, IsFromFnResultFrom}
use denote.Param.Members.{Mut, Called}

module _ {F B : Type 0} (g : Mut F (ℕ × Unit {0}) B) (f : F) (R : ℕ → B → Type 0) (step : (i : ℕ) (y : B) (q : F) → Called g f (i, tt) y q → (q ≡ f) × R i y) where
  from : (p : F) → p ≡ f → (ys : List B) (a n : ℕ) → IsFromFnResultFrom g p ys a n → (i : ℕ) (d : B) → a ≤ i → i < a + n → R i (get_or ys i d)
  from p e ys a zero w i d low high = absurd (omega arith)
  from p e ys a (suc n) w i d low high =
      let v = step a w.1 w.0 (subst (λ (r : F). Called g r (a, tt) w.1 w.0) e w.3) in
      ⊎_elim
      (λ (here : i ≡ a). subst (λ j. R j (get_or ys j d)) (sym here) (subst (R a) (sym (w.2.1 d)) v.1))
      (λ (past : i ≡ a → ⊥). from w.0 v.0 ys (a + 1) n w.4 i d (omega arith) (omega arith))
      (cases_eq i a)

  pub from_each : (ys : List B) (n : ℕ) → IsFromFnResult g f ys n → (i : ℕ) (d : B) → i < n → R i (get_or ys i d)
  from_each ys n w i d high = from f refl ys 0 n w.each i d (omega arith) (omega arith)
