-- The set and its indices in closed form. Assumes nothing.
use Rattle.std.proofs.Common.{◌≡◌, ℕ, zero, suc, ◌+◌, ◌-◌, ◌*◌, ◌/◌, ◌%◌, ◌<◌, ◌≤◌, Bool, true, false, not, ◌&&◌, ◌⊎◌, sym, refl, ap, ◌∙◌, inl, inr, ⊎_elim, add-zero, mod-lt, div-add-mod', mul-one, mul-add, add-one, arith}
use native.Mathlib.Nat.{mod-le, mul-mod_left}
use Rattle.std.proofs.lemmas.Bool.{cases_Bool, cases_lt}
use Rattle.rules.specs.Counting.{one, count_below}
use Rattle.rules.specs.Calendar.{Pool, size, remains, rank, remaining, left_over, reserved, kept, in_set, cycle, index, First, Next}
use Rattle.rules.specs.Closed.{reserved_before}
use Rattle.rules.proofs.Counts.{count_grows, count_round, count_le}
use Rattle.rules.proofs.Limits.{Limits}
use Rattle.rules.proofs.Ranks.{remaining_bounds}
use Rattle.rules.proofs.Reserved.{before_none, before_all, before_hit, before_miss}

pub left_over_le : (p : Pool) → left_over p ≤ remaining p
unfolding left_over
left_over_le p = mod-le (remaining p) (size p)

rank_next : (p : Pool) (d : ℕ) → rank p (suc d) ≡ rank p d + one (remains p d)
unfolding rank
rank_next p d = refl

rank_none : (p : Pool) → rank p 0 ≡ 0
unfolding rank
rank_none p = refl

rank_grows : (p : Pool) (d e : ℕ) → d ≤ e → rank p d ≤ rank p e
unfolding rank
rank_grows p d e h =
    let sum : d + (e - d) ≡ e = omega arith in
    rw sum at (count_grows (remains p) d (e - d))

remaining_is : (p : Pool) → remaining p ≡ rank p 10240
unfolding remaining
remaining_is p = refl

module _ (p : Pool) (limits : Limits p) where
  some_remain : 0 < remaining p
  some_remain = omega (arith, (remaining_bounds p limits).0)

  -- the reserved ranks below k
  abbrev spent : ℕ → ℕ
  spent k = reserved_before (remaining p) (left_over p) k

  -- the next rank is reserved, or it is not
  pub spent_next : (k : ℕ) → k < remaining p → spent (k + 1) ≡ spent k + one (reserved p k)
  unfolding reserved
  spent_next k h =
      ⊎_elim
      (λ t. before_hit (remaining p) (left_over p) some_remain (left_over_le p) k t ∙ ap (λ b. spent k + one b) (sym t))
      (λ t. let e = before_miss (remaining p) (left_over p) some_remain (left_over_le p) k h t in let u = ap one t in omega arith)
      (cases_Bool (reserved p k))

  pub rank_below : (d : ℕ) → d < 10240 → remains p d ≡ true → rank p d < remaining p
  rank_below d h t =
      let grows = rank_grows p (suc d) 10240 (omega arith) in
      let next = rank_next p d in
      let u = ap one t in
      let whole = remaining_is p in
      omega arith

  -- of the subframes that remain before d, those that are not reserved are in the set
  pub kept_counted : (d : ℕ) → d ≤ 10240 → count_below (kept p) d + spent (rank p d) ≡ rank p d
  unfolding kept
  kept_counted zero h =
      let none = before_none (remaining p) (left_over p) some_remain (left_over_le p) in
      let start = rank_none p in
      let e = ap spent start in
      omega arith
  kept_counted (suc d) h =
      let IH = kept_counted d (omega arith) in
      ⊎_elim
      (λ (t : remains p d ≡ true).
      let k = rank p d in
      let next = spent_next k (rank_below d (omega arith) t) in
      let up : rank p (suc d) ≡ k + 1 = rank_next p d ∙ ap (λ b. k + one b) t in
      let e = ap spent up in
      let kept-is : kept p d ≡ not (reserved p k) = ap (λ b. b && not (reserved p k)) t in
      let f = ap one kept-is in
      let flips = one_not (reserved p k) in
      omega arith)
      (λ (t : remains p d ≡ false).
      let k = rank p d in
      let up = rank_next p d ∙ ap (λ b. k + one b) t in
      let same : rank p (suc d) ≡ k = omega arith in
      let e = ap spent same in
      let kept-is : kept p d ≡ false = ap (λ b. b && not (reserved p k)) t in
      let f = ap one kept-is in
      omega arith)
      (cases_Bool (remains p d))
    where
      one_not : (b : Bool) → one b + one (not b) ≡ 1
      one_not true = refl
      one_not false = refl

  -- T counts the set subframes of a cycle. (The cycle's length is a variable here, or antt would count to it.)
  cycle_at : (d : ℕ) → d ≡ 10240 → count_below (kept p) d ≡ cycle p
  unfolding cycle
  cycle_at d whole =
      let e = kept_counted d (omega arith) in
      let all = before_all (remaining p) (left_over p) some_remain (left_over_le p) in
      let same : rank p d ≡ remaining p = ap (rank p) whole ∙ sym (remaining_is p) in
      let spread = ap spent same in
      omega arith

  pub cycle_counted : count_below (kept p) 10240 ≡ cycle p
  cycle_counted = cycle_at 10240 refl

  -- an index is the number of set subframes before, counted from subframe 0
  pub index_counted : (s : ℕ) → count_below (in_set p) s ≡ index p s
  unfolding index in_set
  index_counted s =
      count_round (kept p) 10240 (omega arith) s ∙ ap (λ t. t * (s / 10240) + count_below (kept p) (s % 10240)) cycle_counted

  -- the set is not empty, and B divides T
  pub cycle_some : 0 < cycle p
  unfolding cycle left_over
  cycle_some =
      let b = remaining_bounds p limits in
      let most = limits.most in
      let less = mod-lt (remaining p) {m = size p} (omega (arith, limits.least)) in
      omega arith

  pub cycle_divides : cycle p % size p ≡ 0
  unfolding cycle left_over
  cycle_divides =
      let e : remaining p - remaining p % size p ≡ remaining p / size p * size p = omega (arith, div-add-mod' (remaining p) (size p)) in
      ap (λ x. x % size p) e ∙ mul-mod_left (remaining p / size p) (size p)

  pub index_next : (s : ℕ) → index p (s + 1) ≡ index p s + one (in_set p s)
  index_next s =
      let e = index_counted s in
      let f = index_counted (s + 1) in
      let g = ap (count_below (in_set p)) (add-one s) in
      omega arith

  -- where nothing of the n from s on is in the set, the index stays
  index_stays : (s n : ℕ) → ((u : ℕ) → s ≤ u → u < s + n → in_set p u ≡ false) → index p (s + n) ≡ index p s
  index_stays s zero none = ap (index p) (add-zero s)
  index_stays s (suc n) none =
      let IH = index_stays s n (λ u a b. none u a (omega arith)) in
      let e : s + suc n ≡ s + n + 1 = omega arith in
      let f = ap (index p) e in
      let g = index_next (s + n) in
      let h = ap one (none (s + n) (omega arith) (omega arith)) in
      omega arith

  index_after : (s : ℕ) → index p (s + 10240) ≡ index p s + cycle p
  unfolding index
  index_after s =
      let q : (s + 10240) / 10240 ≡ s / 10240 + 1 = omega arith in
      let r : (s + 10240) % 10240 ≡ s % 10240 = omega arith in
      let t = ap (λ x. cycle p * x) q ∙ mul-add (cycle p) (s / 10240) 1 in
      let u = ap (count_below (kept p)) r in
      let v = mul-one (cycle p) in
      omega arith

  -- a set subframe among the n from s on, or none
  abbrev Found : ℕ → ℕ → Type 0
  Found s n = ((t : ℕ) × First p s t) ⊎ ((u : ℕ) → s ≤ u → u < s + n → in_set p u ≡ false)

  find : (s n : ℕ) → Found s n
  find s zero = inr (λ u a b. absurd (omega arith))
  find s (suc n) =
      ⊎_elim
      (λ w. inl w)
      (λ none.
      ⊎_elim
      (λ (t : in_set p (s + n) ≡ true). inl (s + n, record { from = omega arith; member = t; none = none }))
      (λ (f : in_set p (s + n) ≡ false).
      inr
      (λ u a b.
      ⊎_elim
      (λ (h : u < s + n). none u a h)
      (λ (h : s + n ≤ u). let e : u ≡ s + n = omega arith in ap (in_set p) e ∙ f)
      (cases_lt u (s + n))))
      (cases_Bool (in_set p (s + n))))
      (find s n)

  -- the index of the first set subframe not before s is the number of set subframes before s
  pub index_first : (s t : ℕ) → First p s t → index p t ≡ index p s
  index_first s t w =
      let from = w.from in
      let e : t ≡ s + (t - s) = omega arith in
      ap (index p) e ∙ index_stays s (t - s) (λ u a b. w.none u a (omega arith))

  pub next_is : (s : ℕ) → Next p s (index p s)
  next_is s =
      ⊎_elim
      (λ w. (w.0, w.1, index_first s w.0 w.1))
      (λ none. absurd (omega (arith, index_stays s 10240 none, index_after s, cycle_some)))
      (find s 10240)

  pub index_le : (s : ℕ) → index p s ≤ s
  index_le s = omega (arith, index_counted s, count_le (in_set p) s)
