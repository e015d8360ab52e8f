-- How many survive, raise by raise. Assumes nothing.
use Rattle.std.proofs.Common.{◌≡◌, ℕ, ◌+◌, ◌*◌, ◌<◌, ◌≤◌, Bool, true, false, cond, leb, List, [], ◌∷◌, length, filter, sym, refl, ap, ◌∙◌, ⊎_elim, arith}
use Rattle.std.proofs.lemmas.Bool.{cases_Bool, cases_lt, leb-true, le-leb, true≢false}
use Rattle.rules.specs.Calendar.{Pool}
use Rattle.rules.specs.Sensing.{Meaning}
use Rattle.rules.specs.Choose.{Question, candidates, survives, survivors, enough, Fewest}
use Rattle.rules.specs.ChooseLaws.{FairWindow}
use Rattle.rules.proofs.Raises.{survives_more, survives_last}

-- a weaker test keeps no fewer
kept_more : {X : Type 0} (f g : X → Bool) (xs : List X) → ((x : X) → f x ≡ true → g x ≡ true) → length (filter f xs) ≤ length (filter g xs)
kept_more f g [] h = omega arith
kept_more f g (x ∷ xs) h =
    let IH = kept_more f g xs h in
    ⊎_elim
    (λ (t : f x ≡ true). let u = h x t in rw (t, u) (omega arith))
    (λ (t : f x ≡ false).
    ⊎_elim (λ (u : g x ≡ true). rw (t, u) (omega arith)) (λ (u : g x ≡ false). rw (t, u) IH) (cases_Bool (g x)))
    (cases_Bool (f x))

pub kept_same : {X : Type 0} (f g : X → Bool) (xs : List X) → ((x : X) → f x ≡ g x) → filter f xs ≡ filter g xs
kept_same f g [] h = refl
kept_same f g (x ∷ xs) h =
    ap (λ b. cond b (x ∷ filter f xs) (filter f xs)) (h x) ∙ ap (λ ys. cond (g x) (x ∷ ys) ys) (kept_same f g xs h)

module _ (p : Pool) (now : ℕ) (m : Meaning) (q : Question) where
  pub enough_more : (r s : ℕ) → r ≤ s → enough p now m q r ≡ true → enough p now m q s ≡ true
  unfolding survivors
  enough_more r s h t =
      let few = leb-true _ _ t in
      let more = kept_more (survives p m q r) (survives p m q s) (candidates p now q) (λ c. survives_more p m q r s c h) in
      le-leb _ _ (omega arith)

  enough_last : FairWindow p m → (r : ℕ) → 43 ≤ r → enough p now m q r ≡ enough p now m q 43
  unfolding survivors
  enough_last fair r h =
      ap (λ xs. leb (length (candidates p now q)) (5 * length xs)) (kept_same (survives p m q r) (survives p m q 43) (candidates p now q) (λ c. survives_last p m q r c fair h))

  -- where 43 raises leave too few, any number does
  pub never : FairWindow p m → enough p now m q 43 ≡ false → (r : ℕ) → enough p now m q r ≡ false
  never fair f r =
      ⊎_elim
      (λ (h : r < 43). ⊎_elim (λ t. absurd (true≢false (sym (enough_more r 43 (omega arith) t) ∙ f))) (λ e. e) (cases_Bool (enough p now m q r)))
      (λ (h : 43 ≤ r). enough_last fair r h ∙ f)
      (cases_lt r 43)

  -- a raise that leaves a fifth, after one that does not, is the fewest
  pub fewest : (r : ℕ) → enough p now m q (r + 1) ≡ true → enough p now m q r ≡ false → Fewest p now m q (r + 1)
  fewest r yes-now no-before =
      record {
        leaves = yes-now;
        least = λ s h. ⊎_elim (λ t. absurd (true≢false (sym (enough_more s r (omega arith) t) ∙ no-before))) (λ e. e) (cases_Bool (enough p now m q s));
      }

  pub at_once : enough p now m q 0 ≡ true → Fewest p now m q 0
  at_once t = record { leaves = t; least = λ s h. absurd (omega arith) }
