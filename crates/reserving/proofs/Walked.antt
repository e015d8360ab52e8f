-- A walk over a list that writes each element at most once. Assumes nothing.
use Rattle.std.proofs.Common.{◌≡◌, ℕ, ◌+◌, ◌<◌, ◌≤◌, ◌≢◌, List, length, get_or, set, sym, ◌∙◌, subst, arith, get_or-set_other, get_or-set_same, below_more}

-- the elements before place i are what the walk makes of them, and the others are as they were
abbrev pub Walked : {A : Type 0} → A → (ℕ → A → A → Type 0) → ℕ → List A → List A → Type 0
Walked d R i xs ys = ((j : ℕ) → j < i → R j (get_or xs j d) (get_or ys j d)) × ((j : ℕ) → i ≤ j → get_or ys j d ≡ get_or xs j d)

pub walked_skip : {A : Type 0} (d : A) (R : ℕ → A → A → Type 0) (i : ℕ) (xs ys : List A) → Walked d R i xs ys → R i (get_or xs i d) (get_or xs i d) → Walked d R (i + 1) xs ys
walked_skip d R i xs ys w here = (
  below_more (λ j. R j (get_or xs j d) (get_or ys j d)) i w.0 (subst (λ v. R i (get_or xs i d) v) (sym (w.1 i (omega arith))) here),
  λ j h. w.1 j (omega arith),
)

pub walked_set : {A : Type 0} (d : A) (R : ℕ → A → A → Type 0) (i : ℕ) (v : A) (xs ys : List A) → i < length ys → Walked d R i xs ys → R i (get_or xs i d) v → Walked d R (i + 1) xs (set ys i v)
walked_set d R i v xs ys l w here = (
  below_more (λ j. R j (get_or xs j d) (get_or (set ys i v) j d)) i
      (λ j h. let ne : j ≢ i = omega arith in subst (λ u. R j (get_or xs j d) u) (sym (get_or-set_other ys i j v d ne)) (w.0 j h))
      (subst (λ u. R i (get_or xs i d) u) (sym (get_or-set_same ys i v d l)) here),
  λ j h. let ne : j ≢ i = omega arith in get_or-set_other ys i j v d ne ∙ w.1 j (omega arith),
)
