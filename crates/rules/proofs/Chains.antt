-- The tests of every and of some element, by std's words for what a chain computes. Assumes nothing.
use Rattle.std.proofs.Common.{◌≡◌, ℕ, ◌+◌, ◌-◌, ◌<◌, ◌≤◌, Bool, true, false, not, ◌&&◌, ◌||◌, List, [], ◌∷◌, Decides, refl, sym, ap, ◌∙◌, subst, arith}
use Rattle.std.specs.List.{list_all, list_any, range_with_len}
use Rattle.std.proofs.lemmas.Bool.{not-true}
use Rattle.std.proofs.lemmas.List.FromFn.{length-range_with_len, get_or-range_with_len}
use Rattle.rules.specs.Counting.{any, every}
use Rattle.rules.proofs.Lists.{every_at, every_from}

pub every_is : {X : Type 0} (p : X → Bool) (xs : List X) → list_all p xs ≡ every p xs
every_is p [] = refl
every_is p (x ∷ xs) = ap (λ b. p x && b) (every_is p xs)

pub any_is : {X : Type 0} (p : X → Bool) (xs : List X) → list_any p xs ≡ any p xs
any_is p [] = refl
any_is p (x ∷ xs) = ap (λ b. p x || b) (any_is p xs)

-- a test that no number from a to b passes
pub none_between : (p : ℕ → Bool) (a b : ℕ) (r : Bool) → r ≡ list_all (λ i. not (p i)) (range_with_len a (b - a)) → Decides r ((i : ℕ) → a ≤ i → i < b → p i ≡ false)
none_between p a b r e =
    let fails : ℕ → Bool = λ i. not (p i) in
    let range = range_with_len a (b - a) in
    let is : r ≡ every fails range = e ∙ every_is fails range in (
      (λ t i low high.
          let here = get_or-range_with_len a (b - a) (i - a) 0 (omega arith) in
          let back : a + (i - a) ≡ i = omega arith in
          not-true _ (subst (λ j. fails j ≡ true) (here ∙ back) (every_at fails range 0 (sym is ∙ t) (i - a) (omega (arith, length-range_with_len a (b - a)))))),
      (λ h.
          is
          ∙ every_from fails range 0 (λ k l.
          let less = length-range_with_len a (b - a) in
          let here = get_or-range_with_len a (b - a) k 0 (omega arith) in
          ap (λ j. fails j) here ∙ ap not (h (a + k) (omega arith) (omega arith)))),
    )
