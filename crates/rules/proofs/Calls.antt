-- What the closed forms say of the definitions, as the code needs it. Assumes nothing.
use Rattle.std.proofs.Common.{◌≡◌, ℕ, ◌+◌, ◌-◌, ◌<◌, ◌≤◌, true, false, not, ◌&&◌, eqb, sym, ap, ◌∙◌, ⊎_elim, arith}
use Rattle.std.proofs.lemmas.Bool.{cases_Bool, eq-eqb, ne_eqb}
use Rattle.rules.specs.Counting.{one, count_below}
use Rattle.rules.specs.Calendar.{Pool, remains, rank, remaining, left_over, reserved, kept}
use Rattle.rules.specs.Closed.{reserved_before}
use Rattle.rules.proofs.Counts.{count_le}
use Rattle.rules.proofs.Limits.{Limits}
use Rattle.rules.proofs.Sets.{spent_next, kept_counted, rank_below}

module _ (p : Pool) (limits : Limits p) where
  -- the reserved ranks below k
  abbrev spent : ℕ → ℕ
  spent k = reserved_before (remaining p) (left_over p) k

  -- a subframe that does not remain is not in the set
  pub set_without : (d : ℕ) → remains p d ≡ false → kept p d ≡ false
  unfolding kept
  set_without d t = ap (λ b. b && not (reserved p (rank p d))) t

  -- one that remains is in the set if the count of reserved ranks does not rise there
  pub set_here : (d : ℕ) → d < 10240 → remains p d ≡ true → eqb (spent (rank p d + 1)) (spent (rank p d)) ≡ kept p d
  unfolding kept
  set_here d h t =
      let k = rank p d in
      let next = spent_next p limits k (rank_below p limits d h t) in
      let is : kept p d ≡ not (reserved p k) = ap (λ b. b && not (reserved p k)) t in
      ⊎_elim
      (λ r. let o = ap one r in ne_eqb _ _ (λ e. absurd (omega arith)) ∙ sym (is ∙ ap not r))
      (λ r. let o = ap one r in eq-eqb _ _ (omega arith) ∙ sym (is ∙ ap not r))
      (cases_Bool (reserved p k))

  -- the set subframes before d
  pub set_before : (d : ℕ) → d ≤ 10240 → rank p d - spent (rank p d) ≡ count_below (kept p) d
  set_before d h = omega (arith, kept_counted p limits d h)

  pub spent_le : (d : ℕ) → d ≤ 10240 → spent (rank p d) ≤ rank p d
  spent_le d h = omega (arith, kept_counted p limits d h)

  pub rank_le : (d : ℕ) → rank p d ≤ d
  unfolding rank
  rank_le d = count_le (remains p) d
