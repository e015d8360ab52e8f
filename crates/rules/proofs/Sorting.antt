-- Insertion sort: the same elements, each once, in order. Assumes nothing.
use Rattle.std.proofs.Common.{◌≡◌, ℕ, zero, suc, ◌+◌, Bool, true, false, cond, ◌⊎◌, List, [], ◌∷◌, length, take, filter, sym, refl, ap, ◌∙◌, subst, inl, inr, ⊎_elim, arith}
use Rattle.std.proofs.lemmas.Bool.{cases_Bool}
use Rattle.rules.specs.Choose.{insert, ordered}
use Rattle.rules.specs.Reports.{In, Once}

-- no element stands before an earlier one
abbrev pub Sorted : {X : Type 0} → (X → X → Bool) → List X → Type 0
Sorted before [] = Unit {0}
Sorted {X} before (x ∷ xs) = ((b : X) → In b xs → before b x ≡ false) × Sorted before xs

pub in_taken : {X : Type 0} (a : X) (k : ℕ) (xs : List X) → In a (take k xs) → In a xs
in_taken a zero xs w = absurd w
in_taken a (suc k) [] w = absurd w
in_taken a (suc k) (x ∷ xs) (inl e) = inl e
in_taken a (suc k) (x ∷ xs) (inr w) = inr (in_taken a k xs w)

pub once_taken : {X : Type 0} (k : ℕ) (xs : List X) → Once xs → Once (take k xs)
once_taken zero xs o = tt
once_taken (suc k) [] o = tt
once_taken (suc k) (x ∷ xs) o = ((λ w. o.0 (in_taken x k xs w)), once_taken k xs o.1)

pub in_kept : {X : Type 0} (f : X → Bool) (a : X) (xs : List X) → In a (filter f xs) → In a xs
in_kept f a [] w = w
in_kept f a (x ∷ xs) w =
    ⊎_elim
    (λ (t : f x ≡ true). ⊎_elim (λ e. inl e) (λ v. inr (in_kept f a xs v)) (subst (λ b. In a (cond b (x ∷ filter f xs) (filter f xs))) t w))
    (λ (t : f x ≡ false). inr (in_kept f a xs (subst (λ b. In a (cond b (x ∷ filter f xs) (filter f xs))) t w)))
    (cases_Bool (f x))

pub once_kept : {X : Type 0} (f : X → Bool) (xs : List X) → Once xs → Once (filter f xs)
once_kept f [] o = tt
once_kept f (x ∷ xs) o =
    ⊎_elim
    (λ (t : f x ≡ true). subst (λ b. Once (cond b (x ∷ filter f xs) (filter f xs))) (sym t) ((λ w. o.0 (in_kept f x xs w)), once_kept f xs o.1))
    (λ (t : f x ≡ false). subst (λ b. Once (cond b (x ∷ filter f xs) (filter f xs))) (sym t) (once_kept f xs o.1))
    (cases_Bool (f x))

module _ {X : Type 0} (before : X → X → Bool) where
  -- the elements of an insertion
  in_insert : (a x : X) (ys : List X) → In a (insert before x ys) → (a ≡ x) ⊎ In a ys
  in_insert a x [] (inl e) = inl e
  in_insert a x [] (inr w) = absurd w
  in_insert a x (y ∷ ys) w =
      ⊎_elim
      (λ (t : before y x ≡ true).
      ⊎_elim
      (λ e. inr (inl e))
      (λ v. ⊎_elim (λ e. inl e) (λ u. inr (inr u)) (in_insert a x ys v))
      (subst (λ b. In a (cond b (y ∷ insert before x ys) (x ∷ y ∷ ys))) t w))
      (λ (t : before y x ≡ false). subst (λ b. In a (cond b (y ∷ insert before x ys) (x ∷ y ∷ ys))) t w)
      (cases_Bool (before y x))

  insert_in : (a x : X) (ys : List X) → (a ≡ x) ⊎ In a ys → In a (insert before x ys)
  insert_in a x [] w = w
  insert_in a x (y ∷ ys) w =
      ⊎_elim
      (λ (t : before y x ≡ true).
      subst (λ b. In a (cond b (y ∷ insert before x ys) (x ∷ y ∷ ys))) (sym t)
      (⊎_elim
      (λ e. inr (insert_in a x ys (inl e)))
      (λ v. ⊎_elim (λ e. inl e) (λ u. inr (insert_in a x ys (inr u))) v)
      w))
      (λ (t : before y x ≡ false). subst (λ b. In a (cond b (y ∷ insert before x ys) (x ∷ y ∷ ys))) (sym t) w)
      (cases_Bool (before y x))

  pub in_ordered : (a : X) (xs : List X) → In a (ordered before xs) → In a xs
  in_ordered a [] w = w
  in_ordered a (x ∷ xs) w = ⊎_elim (λ e. inl e) (λ v. inr (in_ordered a xs v)) (in_insert a x (ordered before xs) w)

  pub ordered_in : (a : X) (xs : List X) → In a xs → In a (ordered before xs)
  ordered_in a [] w = w
  ordered_in a (x ∷ xs) (inl e) = insert_in a x (ordered before xs) (inl e)
  ordered_in a (x ∷ xs) (inr v) = insert_in a x (ordered before xs) (inr (ordered_in a xs v))

  length_insert : (x : X) (ys : List X) → length (insert before x ys) ≡ length ys + 1
  length_insert x [] = refl
  length_insert x (y ∷ ys) =
      let IH = length_insert x ys in
      ⊎_elim
      (λ (t : before y x ≡ true). rw t (omega arith))
      (λ (t : before y x ≡ false). rw t (omega arith))
      (cases_Bool (before y x))

  pub length_ordered : (xs : List X) → length (ordered before xs) ≡ length xs
  length_ordered [] = refl
  length_ordered (x ∷ xs) = omega (arith, length_insert x (ordered before xs), length_ordered xs)

  once_insert : (x : X) (ys : List X) → (In x ys → ⊥) → Once ys → Once (insert before x ys)
  once_insert x [] new o = ((λ w. w), tt)
  once_insert x (y ∷ ys) new o =
      ⊎_elim
      (λ (t : before y x ≡ true).
      subst (λ b. Once (cond b (y ∷ insert before x ys) (x ∷ y ∷ ys))) (sym t) (
        (λ w. ⊎_elim (λ (e : y ≡ x). new (inl (sym e))) (λ v. o.0 v) (in_insert y x ys w)),
        once_insert x ys (λ w. new (inr w)) o.1,
      ))
      (λ (t : before y x ≡ false). subst (λ b. Once (cond b (y ∷ insert before x ys) (x ∷ y ∷ ys))) (sym t) (new, o))
      (cases_Bool (before y x))

  pub once_ordered : (xs : List X) → Once xs → Once (ordered before xs)
  once_ordered [] o = tt
  once_ordered (x ∷ xs) o = once_insert x (ordered before xs) (λ w. o.0 (in_ordered x xs w)) (once_ordered xs o.1)

  -- in order, where the test is a strict order whose ties are an equivalence
  module _ (asym : (a b : X) → before a b ≡ true → before b a ≡ false) (ties : (a b c : X) → before a b ≡ false → before b c ≡ false → before a c ≡ false) where
    sorted_insert : (x : X) (ys : List X) → Sorted before ys → Sorted before (insert before x ys)
    sorted_insert x [] s = ((λ b w. absurd w), tt)
    sorted_insert x (y ∷ ys) s =
        ⊎_elim
        (λ (t : before y x ≡ true).
        subst (λ b. Sorted before (cond b (y ∷ insert before x ys) (x ∷ y ∷ ys))) (sym t) (
          (λ b w. ⊎_elim (λ (e : b ≡ x). ap (λ z. before z y) e ∙ asym y x t) (λ v. s.0 b v) (in_insert b x ys w)),
          sorted_insert x ys s.1,
        ))
        (λ (t : before y x ≡ false).
        subst (λ b. Sorted before (cond b (y ∷ insert before x ys) (x ∷ y ∷ ys))) (sym t) (
          (λ b w. ⊎_elim (λ (e : b ≡ y). ap (λ z. before z x) e ∙ t) (λ v. ties b y x (s.0 b v) t) w),
          s,
        ))
        (cases_Bool (before y x))

    pub sorted_ordered : (xs : List X) → Sorted before (ordered before xs)
    sorted_ordered [] = tt
    sorted_ordered (x ∷ xs) = sorted_insert x (ordered before xs) (sorted_ordered xs)

  -- what is not among the first k of a sorted list does not stand before one that is
  pub behind : (k : ℕ) (xs : List X) → Sorted before xs → (a b : X) → In a (take k xs) → In b xs → (In b (take k xs) → ⊥) → before b a ≡ false
  behind zero xs s a b w v out = absurd w
  behind (suc k) [] s a b w v out = absurd w
  behind (suc k) (x ∷ xs) s a b (inl e) (inl f) out = absurd (out (inl f))
  behind (suc k) (x ∷ xs) s a b (inl e) (inr v) out = ap (before b) e ∙ s.0 b v
  behind (suc k) (x ∷ xs) s a b (inr w) (inl f) out = absurd (out (inl f))
  behind (suc k) (x ∷ xs) s a b (inr w) (inr v) out = behind k xs s.1 a b w v (λ u. out (inr u))
