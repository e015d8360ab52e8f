-- The law of a report, in the subject's words. Assumes nothing.
use Rattle.std.specs.Prelude.{◌≡◌, ℕ, ◌-◌, ◌*◌, ◌<◌, ◌≤◌, true, ◌⊎◌, List, [], ◌∷◌, length}
use Rattle.rules.specs.Calendar.{Pool}
use Rattle.rules.specs.Choose.{Question, Place, candidates, survivors, ahead, earlier, enough, report}
use Rattle.rules.specs.Configure.{within}
use Rattle.rules.specs.Sensing.{Meaning}

-- x is an element
abbrev pub In : {X : Type 0} → X → List X → Type 0
In x [] = ⊥
In x (y ∷ ys) = (x ≡ y) ⊎ In x ys

-- no element is there twice
abbrev pub Once : {X : Type 0} → List X → Type 0
Once [] = Unit {0}
Once (x ∷ xs) = (In x xs → ⊥) × Once xs

-- each stands before all that follow
abbrev pub InOrder : List Place → Type 0
InOrder [] = Unit {0}
InOrder (a ∷ rest) = ((b : Place) → In b rest → earlier a b ≡ true) × InOrder rest

-- a report of a raise: survivors only, each once, by index and sub-channel; the smallest fifth; and every survivor that is left
-- out stands behind every one that is reported
pub record Reported (p : Pool) (now : ℕ) (m : Meaning) (q : Question) (raise : ℕ) (places : List Place) : Type 0 where
  pub surviving : (a : Place) → In a places → In a (survivors p now m q raise)
  pub in_order : InOrder places
  pub at_least : length (candidates p now q) ≤ 5 * length places
  pub no_more : 5 * (length places - 1) < length (candidates p now q)
  pub best : (a b : Place) → In a places → In b (survivors p now m q raise) → (In b places → ⊥) → ahead p m q a b ≡ true

-- the report that the definition gives is one, for every pool within its limits and a raise that leaves a fifth
abbrev pub ReportLaw : Type 0
ReportLaw = (p : Pool) (now : ℕ) (m : Meaning) (q : Question) (raise : ℕ) → within p ≡ true → 0 < length (candidates p now q) → enough p now m q raise ≡ true → Reported p now m q raise (report p now m q raise)
