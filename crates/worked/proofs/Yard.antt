-- The candidates of the worked yard: every subframe is in the set and is its own index. Assumes nothing.
use Rattle.std.proofs.Common.{◌≡◌, ℕ, zero, suc, ◌-◌, ◌*◌, ◌/◌, ◌%◌, Bool, true, false, cond, not, ◌&&◌, eqb, List, [], ◌∷◌, map, get_or, replicate, filter, refl, ap, ◌∙◌, arith}
use Rattle.std.specs.List.{range_with_len}
use Rattle.rules.specs.Counting.{one, count_below, some_below, among}
use Rattle.rules.specs.Calendar.{remains, rank, remaining, left_over, reserved, kept, in_set, cycle, index, in_pool, positions}
use Rattle.rules.specs.Choose.{Place, across, joined_all, candidates}
use Rattle.rules.proofs.Limits.{all_at}
use Rattle.worked.specs.Scenes.{yard, ask}

module _ (level : ℕ) where
  all_remain : (d : ℕ) → remains (yard level) d ≡ true
  unfolding remains
  all_remain d = ap (λ b. b && true) (all_at (λ r. among r (positions 7)) 10 refl (d % 10) (omega arith))

  -- a count of what always passes
  all_count : (f : ℕ → Bool) → ((d : ℕ) → f d ≡ true) → (n : ℕ) → count_below f n ≡ n
  all_count f h zero = refl
  all_count f h (suc n) = omega (arith, all_count f h n, ap one (h n))

  all_of : remaining (yard level) ≡ 10240
  unfolding remaining rank
  all_of = at 10240
    where
      at : (n : ℕ) → count_below (remains (yard level)) n ≡ n
      at n = all_count (remains (yard level)) all_remain n

  none_over : left_over (yard level) ≡ 0
  unfolding left_over
  none_over = ap (λ r. r % 20) all_of

  all_kept : (d : ℕ) → kept (yard level) d ≡ true
  unfolding kept reserved
  all_kept d =
      ap (λ b. b && not (reserved (yard level) (rank (yard level) d))) (all_remain d)
      ∙ ap (λ v. not (some_below (λ m. eqb (m * remaining (yard level) / v) (rank (yard level) d)) v)) none_over

  in_yard : (s : ℕ) → in_set (yard level) s ≡ true
  unfolding in_set
  in_yard s = all_kept (s % 10240)

  own_index : (s : ℕ) → index (yard level) s ≡ s
  unfolding index cycle
  own_index s =
      let t = all_of in
      let v = none_over in
      let c = all_count (kept (yard level)) all_kept (s % 10240) in
      let whole : remaining (yard level) - left_over (yard level) ≡ 10240 = omega arith in
      let e = ap (λ t. t * (s / 10240)) whole in
      omega arith

  in_bits : (i : ℕ) → in_pool (yard level) i ≡ true
  unfolding in_pool
  in_bits i = all_at (λ k. get_or (replicate 20 true) k false) 20 refl (i % 20) (omega arith)

  kept_all : (f : ℕ → Bool) (xs : List ℕ) → ((x : ℕ) → f x ≡ true) → filter f xs ≡ xs
  kept_all f [] h = refl
  kept_all f (x ∷ xs) h = ap (λ b. cond b (x ∷ filter f xs) (filter f xs)) (h x) ∙ ap (λ ys. x ∷ ys) (kept_all f xs h)

  map_same : {X : Type 0} (f g : ℕ → X) (xs : List ℕ) → ((x : ℕ) → f x ≡ g x) → map f xs ≡ map g xs
  map_same f g [] h = refl
  map_same f g (x ∷ xs) h = ap (λ y. y ∷ map f xs) (h x) ∙ ap (λ ys. g x ∷ ys) (map_same f g xs h)

  -- the places in question: sub-channels 0 to 2 of 31,004 to 31,020
  abbrev pub places : List Place
  places = joined_all (map (across (yard level) ask) (range_with_len 31004 17))

  pub candidates_are : candidates (yard level) 31000 ask ≡ places
  unfolding candidates
  candidates_are =
      ap (λ ss. joined_all (map (λ s. across (yard level) ask (index (yard level) s)) ss))
      (kept_all (λ s. in_set (yard level) s && in_pool (yard level) (index (yard level) s)) (range_with_len 31004 17)
      (λ s. ap (λ b. b && in_pool (yard level) (index (yard level) s)) (in_yard s) ∙ in_bits (index (yard level) s)))
      ∙ ap joined_all (map_same (λ s. across (yard level) ask (index (yard level) s)) (across (yard level) ask) (range_with_len 31004 17) (λ s. ap (across (yard level) ask) (own_index s)))
