-- Some of a list, in its order, without one of them. Assumes nothing.
use Rattle.std.proofs.Common.{ℕ, zero, suc, List, [], ◌∷◌, ◌++◌, take, drop, refl, inl, inr}
use Rattle.selecting.specs.Entries.{SomeOf}
use Rattle.selecting.specs.declared.Place.{Place}

pub some_all : (xs : List Place) → SomeOf xs xs
some_all [] = tt
some_all (x ∷ xs) = inl (refl, some_all xs)

-- of a longer list too
more : (xs : List Place) (y : Place) (ys : List Place) → SomeOf xs ys → SomeOf xs (y ∷ ys)
more [] y ys s = tt
more (x ∷ xs) y ys s = inr s

pub some_fewer : (xs ys : List Place) (i : ℕ) → SomeOf xs ys → SomeOf (take i xs ++ drop (suc i) xs) ys
some_fewer [] ys zero s = tt
some_fewer [] ys (suc i) s = tt
some_fewer (x ∷ xs) [] i s = absurd s
some_fewer (x ∷ xs) (y ∷ ys) zero (inl s) = more xs y ys s.1
some_fewer (x ∷ xs) (y ∷ ys) zero (inr s) = more xs y ys (some_fewer (x ∷ xs) ys zero s)
some_fewer (x ∷ xs) (y ∷ ys) (suc i) (inl s) = inl (s.0, some_fewer xs ys i s.1)
some_fewer (x ∷ xs) (y ∷ ys) (suc i) (inr s) = inr (some_fewer (x ∷ xs) ys (suc i) s)
