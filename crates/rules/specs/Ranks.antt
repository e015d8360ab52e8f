-- An ordering by a test, and lists that are in order by it. Assumes nothing.
use Rattle.std.specs.Prelude.{Bool, true, cond, not, ◌&&◌, List, [], ◌∷◌}
use Rattle.std.specs.declared.cmp.Ordering.TheVariants.{Less, Equal, Greater}
use Rattle.std.specs.declared.cmp.Ordering.{Ordering}
use Rattle.rules.specs.Counting.{every}

-- what stands before is less; where neither stands before the other they are tied
abbrev pub rank_by : {X : Type 0} → (X → X → Bool) → X → X → Ordering
rank_by before a b = cond (before a b) Less (cond (before b a) Greater Equal)

-- does no element stand before an earlier one?
abbrev pub rising : {X : Type 0} → (X → X → Bool) → List X → Bool
rising before [] = true
rising before (x ∷ xs) = every (λ y. not (before y x)) xs && rising before xs
