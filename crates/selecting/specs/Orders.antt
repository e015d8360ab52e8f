-- The orders of entries and of places are total: the laws of `cmp`. Assumes nothing.
use Rattle.std.specs.Prelude.{◌≡◌, true, false, Some, None, Option}
use Rattle.std.specs.Cmp.{IsTotalOrder}
use Rattle.rules.specs.Ranks.{rank_by}
use Rattle.rules.proofs.Orders.{earlier_asym, earlier_ties, SomeUnder, by_asym, by_ties}
use Rattle.rules.proofs.Totals.{total}
use Rattle.measuring.specs.Means.{fraction_of}
use Rattle.measuring.specs.declared.Mean.{Mean}
use Rattle.selecting.specs.Entries.{before, candidate_of, sooner, place_of}
use Rattle.selecting.specs.declared.Entry.{Entry}
use Rattle.selecting.specs.declared.Place.{Place}

pub sooner_asym : (a b : Place) → sooner a b ≡ true → sooner b a ≡ false
sooner_asym a b = earlier_asym (place_of a) (place_of b)

pub sooner_ties : (a b c : Place) → sooner a b ≡ false → sooner b c ≡ false → sooner a c ≡ false
sooner_ties a b c = earlier_ties (place_of a) (place_of b) (place_of c)

abbrev pub sooner_total : IsTotalOrder (rank_by sooner)
sooner_total = total sooner sooner_asym sooner_ties

-- every mean of the code divides by something
some_under : (o : Option Mean) → SomeUnder (fraction_of o)
some_under None = tt
some_under (Some a) = a.some

pub before_asym : (a b : Entry) → before a b ≡ true → before b a ≡ false
before_asym = by_asym (λ e. fraction_of e.mean) candidate_of

pub before_ties : (a b c : Entry) → before a b ≡ false → before b c ≡ false → before a c ≡ false
before_ties = by_ties (λ e. fraction_of e.mean) candidate_of (λ e. some_under e.mean)

abbrev pub before_total : IsTotalOrder (rank_by before)
before_total = total before before_asym before_ties
