-- The law of a report. Assumes nothing.
use Rattle.std.proofs.Common.{◌≡◌, ℕ, zero, suc, ◌+◌, ◌-◌, ◌*◌, ◌≤◌, Bool, true, false, cond, ◌&&◌, ◌⊎◌, List, [], ◌∷◌, ◌++◌, map, length, take, filter, sym, refl, ap, subst, inl, inr, ⊎_elim, arith, length-take}
use Rattle.std.specs.List.{range_with_len}
use Rattle.std.proofs.lemmas.Bool.{leb-true, cases_Bool, and_parts}
use Rattle.rules.specs.Counting.{one}
use Rattle.rules.specs.Calendar.{Pool, in_set, in_pool, index}
use Rattle.rules.specs.Choose.{Question, Place, across, joined_all, candidates, survives, survivors, ahead, earlier, ordered, fifth, report}
use Rattle.rules.specs.Reports.{In, Once, InOrder, ReportLaw}
use Rattle.rules.proofs.Limits.{Limits, limits}
use Rattle.rules.proofs.Orders.{earlier_asym, earlier_ties, earlier_total, ahead_asym, ahead_ties, ahead_total}
use Rattle.rules.proofs.Sets.{index_next}
use Rattle.rules.proofs.Sorting.{Sorted, in_taken, once_taken, once_kept, in_ordered, ordered_in, length_ordered, once_ordered, sorted_ordered, behind}

abbrev place_at : ℕ → ℕ → Place
place_at y x = record { channel = x; at = y }

-- the places of an index: their index is it, and each comes once
in_across : (y a n : ℕ) (c : Place) → In c (map (place_at y) (range_with_len a n)) → (c.at ≡ y) × (a ≤ c.channel)
in_across y a zero c w = absurd w
in_across y a (suc n) c (inl e) = (ap (λ z. z.at) e, let f = ap (λ z. z.channel) e in omega arith)
in_across y a (suc n) c (inr w) = let v = in_across y (a + 1) n c w in (v.0, omega arith)

once_across : (y a n : ℕ) → Once (map (place_at y) (range_with_len a n))
once_across y a zero = tt
once_across y a (suc n) = ((λ w. let v = in_across y (a + 1) n (place_at y a) w in let h = v.1 in omega arith), once_across y (a + 1) n)

in_both : {X : Type 0} (a : X) (xs ys : List X) → In a (xs ++ ys) → In a xs ⊎ In a ys
in_both a [] ys w = inr w
in_both a (x ∷ xs) ys (inl e) = inl (inl e)
in_both a (x ∷ xs) ys (inr w) = ⊎_elim (λ v. inl (inr v)) (λ v. inr v) (in_both a xs ys w)

once_both : {X : Type 0} (xs ys : List X) → Once xs → Once ys → ((a : X) → In a xs → In a ys → ⊥) → Once (xs ++ ys)
once_both [] ys ox oy apart = oy
once_both (x ∷ xs) ys ox oy apart =
    ((λ w. ⊎_elim (λ v. ox.0 v) (λ v. apart x (inl refl) v) (in_both x xs ys w)), once_both xs ys ox.1 oy (λ a w v. apart a (inr w) v))

module _ (p : Pool) (good : Limits p) (q : Question) where
  abbrev wanted : ℕ → Bool
  wanted s = in_set p s && in_pool p (index p s)

  abbrev all_from : ℕ → ℕ → List Place
  all_from a n = joined_all (map (λ s. across p q (index p s)) (filter wanted (range_with_len a n)))

  -- what comes from a subframe on has an index not below its own
  from_low : (a n : ℕ) (c : Place) → In c (all_from a n) → index p a ≤ c.at
  from_low a zero c w = absurd w
  from_low a (suc n) c w =
      let next = index_next p good a in
      let later : In c (all_from (a + 1) n) → index p a ≤ c.at = λ v. let h = from_low (a + 1) n c v in omega arith in
      ⊎_elim
      (λ (t : wanted a ≡ true).
      ⊎_elim
      (λ v. let e = (in_across (index p a) 0 (p.channels + 1 - q.length) c v).0 in omega arith)
      later
      (in_both c (across p q (index p a)) (all_from (a + 1) n) (subst (λ b. In c (joined_all (map (λ s. across p q (index p s)) (cond b (a ∷ filter wanted (range_with_len (a + 1) n)) (filter wanted (range_with_len (a + 1) n)))))) t w)))
      (λ (t : wanted a ≡ false). later (subst (λ b. In c (joined_all (map (λ s. across p q (index p s)) (cond b (a ∷ filter wanted (range_with_len (a + 1) n)) (filter wanted (range_with_len (a + 1) n)))))) t w))
      (cases_Bool (wanted a))

  once_from : (a n : ℕ) → Once (all_from a n)
  once_from a zero = tt
  once_from a (suc n) =
      let next = index_next p good a in
      ⊎_elim
      (λ (t : wanted a ≡ true).
      let up = ap one (and_parts (in_set p a) (in_pool p (index p a)) t).0 in
      subst (λ b. Once (joined_all (map (λ s. across p q (index p s)) (cond b (a ∷ filter wanted (range_with_len (a + 1) n)) (filter wanted (range_with_len (a + 1) n)))))) (sym t)
      (once_both (across p q (index p a)) (all_from (a + 1) n) (once_across (index p a) 0 (p.channels + 1 - q.length)) (once_from (a + 1) n)
      (λ c w v. let e = (in_across (index p a) 0 (p.channels + 1 - q.length) c w).0 in let h = from_low (a + 1) n c v in omega arith)))
      (λ (t : wanted a ≡ false).
      subst (λ b. Once (joined_all (map (λ s. across p q (index p s)) (cond b (a ∷ filter wanted (range_with_len (a + 1) n)) (filter wanted (range_with_len (a + 1) n)))))) (sym t) (once_from (a + 1) n))
      (cases_Bool (wanted a))

  once_candidates : (now : ℕ) → Once (candidates p now q)
  unfolding candidates
  once_candidates now = once_from (now + q.from) (q.to + 1 - q.from)

-- a sorted list without repeats is in order
in_order : (xs : List Place) → Sorted earlier xs → Once xs → InOrder xs
in_order [] s o = tt
in_order (x ∷ xs) s o = (
  (λ b w. ⊎_elim (λ t. t) (λ (e : x ≡ b). absurd (o.0 (subst (λ z. In z xs) (sym e) w))) (earlier_total x b (s.0 b w))),
  in_order xs s.1 o.1,
)

pub report_law : ReportLaw
unfolding report survivors
report_law p now m q raise good some leaves =
    let cs = candidates p now q in
    let left = filter (survives p m q raise) cs in
    let k = fifth (length cs) in
    let sorted = ordered (ahead p m q) left in
    let first = take k sorted in
    let once-left = once_kept (survives p m q raise) cs (once_candidates p (limits p good) q now) in
    let once-first = once_taken k sorted (once_ordered (ahead p m q) left once-left) in
    let many = leb-true (length cs) (5 * length left) leaves in
    let long = length-take k sorted in
    let same = length_ordered (ahead p m q) left in
    let size = length_ordered earlier first in
    record {
      surviving = λ a w. in_ordered (ahead p m q) a left (in_taken a k sorted (in_ordered earlier a first w));
      in_order = in_order (ordered earlier first) (sorted_ordered earlier earlier_asym earlier_ties first) (once_ordered earlier first once-first);
      at_least = omega arith;
      no_more = omega arith;
      best = λ a b w v out.
          ⊎_elim
          (λ t. t)
          (λ (e : a ≡ b). absurd (out (subst (λ z. In z (ordered earlier first)) e w)))
          (ahead_total p m q a b
          (behind (ahead p m q) k sorted (sorted_ordered (ahead p m q) (ahead_asym p m q) (ahead_ties p m q) left) a b (in_ordered earlier a first w) (ordered_in (ahead p m q) b left v)
          (λ u. out (ordered_in earlier b first u))));
    }
