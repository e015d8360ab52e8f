-- What the list of all candidates says of the survivors, and what a report made from it is. Assumes nothing.
use Rattle.std.proofs.Common.{◌≡◌, ℕ, ◌*◌, ◌≤◌, Bool, true, false, not, ◌&&◌, ◌||◌, leb, List, [], ◌∷◌, map, length, take, count_by, filter, sym, refl, ap, ◌∙◌, inl, inr, ⊎_elim}
use mathlib.Core.List.{map-map}
use Rattle.std.specs.List.Sorted.{IsPermutation}
use Rattle.std.specs.List.{AllByRecursion}
use Rattle.std.proofs.ByRecursion.{all_kept_by, all_shuffled}
use Rattle.std.proofs.lemmas.List.{length-map, take-map}
use Rattle.std.proofs.lemmas.List.Sums.{length-filter}
use Rattle.std.proofs.lemmas.Bool.{cases_Bool}
use Rattle.rules.specs.Calendar.{Pool}
use Rattle.rules.specs.Choose.{Question, candidates, survives, survivors, enough, mean, lower, earlier, ahead, ordered, fifth, report}
use Rattle.rules.specs.Ranks.{rising}
use Rattle.rules.specs.Reports.{In}
use Rattle.rules.specs.Sensing.{Meaning}
use Rattle.rules.proofs.Orders.{earlier_asym, earlier_ties, earlier_total, ahead_asym, ahead_ties, ahead_total}
use Rattle.rules.proofs.Sorting.{Sorted, sorted_ordered}
use Rattle.rules.proofs.Tallies.{tally, tally_shuffled, ordered_is}
use Rattle.rules.proofs.Totals.{rising_sorted}
use Rattle.measuring.specs.Means.{fraction_of}
use Rattle.reserving.specs.Needs.{bars}
use Rattle.selecting.specs.Entries.{candidate_of, before, place_of, sooner, reported}
use Rattle.selecting.specs.Lists.{free}
use Rattle.selecting.specs.Lifts.{leaves}
use Rattle.selecting.specs.Made.{shown, places_of, Ranked}
use Rattle.selecting.specs.declared.Entry.{Entry}
use Rattle.selecting.specs.declared.Place.{Place}
use Rattle.selecting.specs.declared.Report.{Report}

-- a list that rises by one test rises by another on what it stands for, where the tests agree on its elements
sorted_map : {X Y : Type 0} (f : X → Y) (lt : X → X → Bool) (lt' : Y → Y → Bool) (P : X → Type 0) → ((a b : X) → P a → P b → lt a b ≡ lt' (f a) (f b)) → (xs : List X) → AllByRecursion P xs → Sorted lt xs → Sorted lt' (map f xs)
sorted_map {X} {Y} f lt lt' P same [] good s = tt
sorted_map {X} {Y} f lt lt' P same (x ∷ xs) good s = (here xs good.1 s.0, sorted_map f lt lt' P same xs good.1 s.1)
  where
    here : (ys : List X) → AllByRecursion P ys → ((b : X) → In b ys → lt b x ≡ false) → (b : Y) → In b (map f ys) → lt' b (f x) ≡ false
    here [] g h b w = absurd w
    here (y ∷ ys) g h b (inl e) = ap (λ z. lt' z (f x)) e ∙ sym (same y x g.0 good.0) ∙ h y (inl refl)
    here (y ∷ ys) g h b (inr w) = here ys g.1 (λ b v. h b (inr v)) b w

module _ (p : Pool) (now : ℕ) (m : Meaning) (q : Question) where
  -- what an entry says of its candidate: at which raises it survives, and its mean
  pub record Told (e : Entry) : Type 0 where
    pub survives_at : (r : ℕ) → r ≤ 43 → not (bars e.need r) ≡ survives p m q r (candidate_of e)
    pub mean_is : fraction_of e.mean ≡ mean p m q (candidate_of e)

  kept_told : (r : ℕ) → r ≤ 43 → (es : List Entry) → AllByRecursion Told es → map candidate_of (filter (free r) es) ≡ filter (survives p m q r) (map candidate_of es)
  kept_told r low [] told = refl
  kept_told r low (e ∷ es) told =
      let IH = kept_told r low es told.1 in
      let t = told.0.survives_at r low in
      ⊎_elim
      (λ (y : not (bars e.need r) ≡ true). let y' = sym t ∙ y in rw (y, y') (ap (λ xs. candidate_of e ∷ xs) IH))
      (λ (n : not (bars e.need r) ≡ false). let n' = sym t ∙ n in rw (n, n') IH)
      (cases_Bool (not (bars e.need r)))

  module _ (es : List Entry) (all : map candidate_of es ≡ candidates p now q) (told : AllByRecursion Told es) where
    pub survivors_told : (r : ℕ) → r ≤ 43 → map candidate_of (filter (free r) es) ≡ survivors p now m q r
    unfolding survivors
    survivors_told r low = kept_told r low es told ∙ ap (filter (survives p m q r)) all

    many : length es ≡ length (candidates p now q)
    many = sym (length-map es candidate_of) ∙ ap length all

    -- the list leaves a fifth exactly where the raise does
    pub enough_told : (r : ℕ) → r ≤ 43 → enough p now m q r ≡ leaves es r
    enough_told r low =
        let left : length (survivors p now m q r) ≡ count_by (free r) es = ap length (sym (survivors_told r low)) ∙ length-map (filter (free r) es) candidate_of ∙ length-filter (free r) es in
        ap (λ n. leb n (5 * length (survivors p now m q r))) (sym many) ∙ ap (λ n. leb (length es) (5 * n)) left

    before_told : (a b : Entry) → Told a → Told b → before a b ≡ ahead p m q (candidate_of a) (candidate_of b)
    before_told a b s t =
        ap (λ x. lower x (fraction_of b.mean) || (not (lower (fraction_of b.mean) x) && earlier (candidate_of a) (candidate_of b))) s.mean_is
        ∙ ap (λ y. lower (mean p m q (candidate_of a)) y || (not (lower y (mean p m q (candidate_of a))) && earlier (candidate_of a) (candidate_of b))) t.mean_is

    module _ (raise : ℕ) (low : raise ≤ 43) where
      in_order : (order : List Entry) → IsPermutation (filter (free raise) es) order → rising before order ≡ true → map candidate_of order ≡ ordered (ahead p m q) (survivors p now m q raise)
      in_order order s up =
          let kept = filter (free raise) es in
          let good : AllByRecursion Told order = all_shuffled Told kept order s (all_kept_by (free raise) Told es told) in
          ordered_is (ahead p m q) (ahead_total p m q) (survivors p now m q raise) (map candidate_of order)
          (sorted_ordered (ahead p m q) (ahead_asym p m q) (ahead_ties p m q) (survivors p now m q raise))
          (sorted_map candidate_of before (ahead p m q) Told before_told order good (rising_sorted before order up))
          (λ a. tally_shuffled candidate_of kept order s a ∙ ap (tally a) (survivors_told raise low))

      -- the places of the report are those that the definition gives
      pub report_told : (question : _) (apart : ℕ) (r : Report) → Ranked es raise question apart r → places_of r ≡ report p now m q raise
      unfolding report
      report_told question apart r w =
          let k = fifth (length es) in
          let first = take k w.order in
          let cs = take (fifth (length (candidates p now q))) (ordered (ahead p m q) (survivors p now m q raise)) in
          let same : map place_of (map reported first) ≡ cs =
          map-map place_of reported first
          ∙ sym (take-map candidate_of k w.order)
          ∙ ap (take k) (in_order w.order w.shuffled w.rises)
          ∙ ap (λ n. take (fifth n) (ordered (ahead p m q) (survivors p now m q raise))) many in
          ordered_is earlier earlier_total cs (places_of r)
          (sorted_ordered earlier earlier_asym earlier_ties cs)
          (sorted_map place_of sooner earlier (λ _. Unit {0}) (λ a b _ _. refl) (shown r) (all_any (shown r)) (rising_sorted sooner (shown r) r.ordered))
          (λ a. tally_shuffled place_of (map reported first) (shown r) w.first.places a ∙ ap (tally a) same)
        where
          all_any : (xs : List Place) → AllByRecursion (λ _. Unit {0}) xs
          all_any [] = tt
          all_any (x ∷ xs) = (tt, all_any xs)
