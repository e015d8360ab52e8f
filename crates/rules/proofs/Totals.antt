-- A test of an order, as an ordering, and what a sorted slice is then. Assumes nothing.
use Rattle.std.proofs.Common.{◌≡◌, ℕ, suc, ◌<◌, ◌≤◌, Bool, true, false, cond, not, List, [], ◌∷◌, length, get_or, Ordering, Less, Equal, Greater, sym, refl, ap, ◌∙◌, inl, inr, ⊎_elim, arith}
use Rattle.std.specs.Cmp.{IsTotalOrder}
use Rattle.std.specs.Ordering.{is_lt, ordering_reverse}
use Rattle.std.specs.List.Sorted.{IsSortedWithin}
use Rattle.std.proofs.lemmas.List.Sorted.{sorted_far}
use Rattle.std.proofs.lemmas.Bool.{cases_Bool, true≢false, and_parts, and_from, not-true, not_from_false}
use Rattle.rules.specs.Reports.{In}
use Rattle.rules.specs.Counting.{every}
use Rattle.rules.specs.Ranks.{rank_by, rising}
use Rattle.rules.proofs.Sorting.{Sorted}

in_place : {X : Type 0} (b : X) (xs : List X) → In b xs → (k : ℕ) × (k < length xs) × ((d : X) → get_or xs k d ≡ b)
in_place b [] w = absurd w
in_place b (x ∷ xs) (inl e) = (0, omega arith, λ d. sym e)
in_place b (x ∷ xs) (inr w) = let v = in_place b xs w in (suc v.0, omega arith, v.2)

in_every : {X : Type 0} (f : X → Bool) (xs : List X) → every f xs ≡ true → (b : X) → In b xs → f b ≡ true
in_every f [] t b w = absurd w
in_every f (x ∷ xs) t b (inl e) = ap f e ∙ (and_parts (f x) (every f xs) t).0
in_every f (x ∷ xs) t b (inr w) = in_every f xs (and_parts (f x) (every f xs) t).1 b w

every_in : {X : Type 0} (f : X → Bool) (xs : List X) → ((b : X) → In b xs → f b ≡ true) → every f xs ≡ true
every_in f [] h = refl
every_in f (x ∷ xs) h = and_from (f x) (every f xs) (h x (inl refl)) (every_in f xs (λ b w. h b (inr w)))

-- the test and the sentence
pub sorted_rising : {X : Type 0} (before : X → X → Bool) (xs : List X) → Sorted before xs → rising before xs ≡ true
sorted_rising before [] s = refl
sorted_rising before (x ∷ xs) s =
    and_from (every (λ y. not (before y x)) xs) (rising before xs) (every_in (λ y. not (before y x)) xs (λ b w. not_from_false _ (s.0 b w))) (sorted_rising before xs s.1)

pub rising_sorted : {X : Type 0} (before : X → X → Bool) (xs : List X) → rising before xs ≡ true → Sorted before xs
rising_sorted before [] t = tt
rising_sorted before (x ∷ xs) t =
    let w = and_parts (every (λ y. not (before y x)) xs) (rising before xs) t in
    ((λ b v. not-true _ (in_every (λ y. not (before y x)) xs w.0 b v)), rising_sorted before xs w.1)

module _ {X : Type 0} (before : X → X → Bool) (asym : (a b : X) → before a b ≡ true → before b a ≡ false) (ties : (a b c : X) → before a b ≡ false → before b c ≡ false → before a c ≡ false) where
  abbrev r : X → X → Ordering
  r = rank_by before

  is_less : (a b : X) → before a b ≡ true → r a b ≡ Less
  is_less a b t = ap (λ x. cond x Less (cond (before b a) Greater Equal)) t

  is_more : (a b : X) → before b a ≡ true → r a b ≡ Greater
  is_more a b t = ap (λ x. cond x Less (cond (before b a) Greater Equal)) (asym b a t) ∙ ap (λ x. cond x Greater Equal) t

  is_tied : (a b : X) → before a b ≡ false → before b a ≡ false → r a b ≡ Equal
  is_tied a b t u = ap (λ x. cond x Less (cond (before b a) Greater Equal)) t ∙ ap (λ x. cond x Greater Equal) u

  pub rank_less : (a b : X) → is_lt (r a b) ≡ before a b
  rank_less a b =
      ⊎_elim
      (λ (t : before a b ≡ true). ap is_lt (is_less a b t) ∙ sym t)
      (λ (t : before a b ≡ false).
      ⊎_elim
      (λ (u : before b a ≡ true). ap is_lt (is_more a b u) ∙ sym t)
      (λ (u : before b a ≡ false). ap is_lt (is_tied a b t u) ∙ sym t)
      (cases_Bool (before b a)))
      (cases_Bool (before a b))

  from_less : (a b : X) → r a b ≡ Less → before a b ≡ true
  from_less a b e = sym (rank_less a b) ∙ ap is_lt e

  from_tied : (a b : X) → r a b ≡ Equal → (before a b ≡ false) × (before b a ≡ false)
  from_tied a b e =
      let first : before a b ≡ false = sym (rank_less a b) ∙ ap is_lt e in
      (first, ⊎_elim (λ (u : before b a ≡ true). let z : ◌≡◌ {A = Ordering} Equal Greater = sym e ∙ is_more a b u in let z' : ◌≡◌ {A = ℕ} 0 1 = cc in absurd (omega arith)) (λ u. u) (cases_Bool (before b a)))

  pub flips : (a b : X) → r a b ≡ ordering_reverse (r b a)
  flips a b =
      ⊎_elim
      (λ (t : before a b ≡ true). is_less a b t ∙ sym (ap ordering_reverse (is_more b a t)))
      (λ (t : before a b ≡ false).
      ⊎_elim
      (λ (u : before b a ≡ true). is_more a b u ∙ sym (ap ordering_reverse (is_less b a u)))
      (λ (u : before b a ≡ false). is_tied a b t u ∙ sym (ap ordering_reverse (is_tied b a u t)))
      (cases_Bool (before b a)))
      (cases_Bool (before a b))

  pub chains : (a b c : X) → r a b ≡ Less → r b c ≡ Less → r a c ≡ Less
  chains a b c e f =
      let p = from_less a b e in
      let q = from_less b c f in
      ⊎_elim
      (λ (t : before a c ≡ true). is_less a c t)
      (λ (t : before a c ≡ false). absurd (true≢false (sym p ∙ ties a c b t (asym b c q))))
      (cases_Bool (before a c))

  same_tests : (a b c : X) → before a b ≡ false → before b a ≡ false → (before a c ≡ before b c) × (before c a ≡ before c b)
  same_tests a b c t u = (
    ⊎_elim
        (λ (x : before b c ≡ true). ⊎_elim (λ (y : before a c ≡ true). y ∙ sym x) (λ (y : before a c ≡ false). absurd (true≢false (sym x ∙ ties b a c u y))) (cases_Bool (before a c)))
        (λ (x : before b c ≡ false). ties a b c t x ∙ sym x)
        (cases_Bool (before b c)),
    ⊎_elim
        (λ (x : before c b ≡ true). ⊎_elim (λ (y : before c a ≡ true). y ∙ sym x) (λ (y : before c a ≡ false). absurd (true≢false (sym x ∙ ties c a b y t))) (cases_Bool (before c a)))
        (λ (x : before c b ≡ false). ties c b a x u ∙ sym x)
        (cases_Bool (before c b)),
  )

  pub alike : (a b c : X) → r a b ≡ Equal → r a c ≡ r b c
  alike a b c e =
      let w = from_tied a b e in
      let s = same_tests a b c w.0 w.1 in
      ap (λ x. cond x Less (cond (before c a) Greater Equal)) s.0 ∙ ap (λ x. cond (before b c) Less (cond x Greater Equal)) s.1

  abbrev pub total : IsTotalOrder r
  total = record { antisymm = flips; trans = chains; congr = alike }

  -- what sorting ensures puts the elements in order
  sorted_from : (xs : List X) → ((i j : ℕ) (d : X) → i ≤ j → j < length xs → before (get_or xs j d) (get_or xs i d) ≡ false) → Sorted before xs
  sorted_from [] h = tt
  sorted_from (x ∷ xs) h = (
    (λ b w. let k = in_place b xs w in let less = k.1 in ap (λ z. before z x) (sym (k.2 x)) ∙ h 0 (suc k.0) x (omega arith) (omega arith)),
    sorted_from xs (λ i j d le lt. h (suc i) (suc j) d (omega arith) (omega arith)),
  )

  pub sorted_by : (xs : List X) (n : ℕ) → length xs ≡ n → IsSortedWithin (λ a b. is_lt (r a b)) xs 0 n → Sorted before xs
  sorted_by xs n long up =
      let up' : IsSortedWithin before xs 0 (length xs) = λ k d low high. sym (rank_less _ _) ∙ up k d low (omega arith) in
      sorted_from xs (λ i j d le lt. sorted_far before (record { one_way = asym; chain = ties }) xs up' i j d le lt)
