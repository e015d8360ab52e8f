-- Lists with the same elements, each as often, are the same once they are in order. Assumes nothing.
use Rattle.std.proofs.Common.{◌≡◌, ℕ, ◌+◌, ◌≤◌, Bool, true, false, ◌&&◌, eqb, ◌⊎◌, List, [], ◌∷◌, map, sum_by, sym, refl, ap, ◌∙◌, inl, inr, ⊎_elim, arith}
use Rattle.std.specs.List.Sorted.{IsPermutation}
use Rattle.std.proofs.lemmas.List.Sorted.{sum_by-IsPermutation}
use Rattle.std.proofs.lemmas.List.Sums.{sum_by-cons}
use Rattle.std.proofs.lemmas.Bool.{cases_Bool, and_parts, and_from, eqb-true, eq-eqb, true≢false}
use Rattle.rules.specs.Counting.{one}
use Rattle.rules.specs.Choose.{Place, insert, ordered}
use Rattle.rules.specs.Reports.{In}
use Rattle.rules.proofs.Sorting.{Sorted}

abbrev pub same : Place → Place → Bool
same a b = eqb a.at b.at && eqb a.channel b.channel

same_is : (a b : Place) → same a b ≡ true → a ≡ b
same_is a b t =
    let w = and_parts _ _ t in
    ap (λ x. record { channel = x; at = a.at }) (eqb-true _ _ w.1) ∙ ap (λ y. record { channel = b.channel; at = y }) (eqb-true _ _ w.0)

is_same : (a : Place) → same a a ≡ true
is_same a = and_from _ _ (eq-eqb a.at a.at refl) (eq-eqb a.channel a.channel refl)

-- how often a place is there
abbrev pub tally : Place → List Place → ℕ
tally a [] = 0
tally a (x ∷ xs) = one (same a x) + tally a xs

tally_sum : {X : Type 0} (f : X → Place) (a : Place) (xs : List X) → tally a (map f xs) ≡ sum_by (λ x. one (same a (f x))) xs
tally_sum f a [] = refl
tally_sum f a (x ∷ xs) = ap (λ n. one (same a (f x)) + n) (tally_sum f a xs) ∙ sym (sum_by-cons (λ x. one (same a (f x))) x xs)

pub tally_shuffled : {X : Type 0} (f : X → Place) (xs ys : List X) → IsPermutation xs ys → (a : Place) → tally a (map f ys) ≡ tally a (map f xs)
tally_shuffled f xs ys s a = tally_sum f a ys ∙ sum_by-IsPermutation (λ x. one (same a (f x))) xs ys s ∙ sym (tally_sum f a xs)

in_tally : (a : Place) (xs : List Place) → 1 ≤ tally a xs → In a xs
in_tally a [] h = absurd (omega arith)
in_tally a (x ∷ xs) h =
    ⊎_elim
    (λ (t : same a x ≡ true). inl (same_is a x t))
    (λ (t : same a x ≡ false). let z = ap one t in inr (in_tally a xs (omega arith)))
    (cases_Bool (same a x))

here : (x : Place) (xs : List Place) → 1 ≤ tally x (x ∷ xs)
here x xs = let z = ap one (is_same x) in omega arith

module _ (before : Place → Place → Bool) where
  tally_insert : (a x : Place) (ys : List Place) → tally a (insert before x ys) ≡ one (same a x) + tally a ys
  tally_insert a x [] = refl
  tally_insert a x (y ∷ ys) =
      let IH = tally_insert a x ys in
      ⊎_elim
      (λ (t : before y x ≡ true). rw t (omega arith))
      (λ (t : before y x ≡ false). rw t (omega arith))
      (cases_Bool (before y x))

  tally_ordered : (a : Place) (xs : List Place) → tally a (ordered before xs) ≡ tally a xs
  tally_ordered a [] = refl
  tally_ordered a (x ∷ xs) = tally_insert a x (ordered before xs) ∙ ap (λ n. one (same a x) + n) (tally_ordered a xs)

  module _ (total : (a b : Place) → before b a ≡ false → (before a b ≡ true) ⊎ (a ≡ b)) where
    first_same : (x : Place) (xs : List Place) (y : Place) (ys : List Place) → Sorted before (x ∷ xs) → Sorted before (y ∷ ys) → In x (y ∷ ys) → In y (x ∷ xs) → x ≡ y
    first_same x xs y ys sx sy (inl e) w = e
    first_same x xs y ys sx sy (inr v) (inl e) = sym e
    first_same x xs y ys sx sy (inr v) (inr w) =
        ⊎_elim
        (λ (t : before x y ≡ true). absurd (true≢false (sym t ∙ sy.0 x v)))
        (λ e. e)
        (total x y (sx.0 y w))

    unique : (xs ys : List Place) → Sorted before xs → Sorted before ys → ((a : Place) → tally a xs ≡ tally a ys) → xs ≡ ys
    unique [] [] sx sy h = refl
    unique [] (y ∷ ys) sx sy h = let z = h y in let w = here y ys in absurd (omega arith)
    unique (x ∷ xs) [] sx sy h = let z = h x in let w = here x xs in absurd (omega arith)
    unique (x ∷ xs) (y ∷ ys) sx sy h =
        let e = first_same x xs y ys sx sy
        (in_tally x (y ∷ ys) (let z = h x in let w = here x xs in omega arith))
        (in_tally y (x ∷ xs) (let z = h y in let w = here y ys in omega arith)) in
        let rest = unique xs ys sx.1 sy.1 (λ a. let z = h a in let s = ap (λ b. one (same a b)) e in omega arith) in
        ap (λ z. z ∷ xs) e ∙ ap (λ zs. y ∷ zs) rest

    -- what is in order and has the same elements is the list in order
    pub ordered_is : (xs ys : List Place) → Sorted before (ordered before xs) → Sorted before ys → ((a : Place) → tally a ys ≡ tally a xs) → ys ≡ ordered before xs
    ordered_is xs ys so sy h = unique ys (ordered before xs) sy so (λ a. h a ∙ sym (tally_ordered a xs))
