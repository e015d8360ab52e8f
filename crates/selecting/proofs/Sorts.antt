-- What is sorted by the orders of entries and of places rises. Assumes nothing.
use Rattle.std.proofs.Common.{◌≡◌, ℕ, true, List, length}
use Rattle.std.specs.Ordering.{is_lt}
use Rattle.std.specs.List.Sorted.{IsSortedWithin}
use Rattle.rules.specs.Ranks.{rank_by, rising}
use Rattle.rules.proofs.Totals.{sorted_by, sorted_rising}
use Rattle.selecting.specs.Entries.{before, sooner}
use Rattle.selecting.specs.Orders.{sooner_asym, sooner_ties, before_asym, before_ties}
use Rattle.selecting.specs.declared.Entry.{Entry}
use Rattle.selecting.specs.declared.Place.{Place}

pub sooner_rising : (xs : List Place) (n : ℕ) → length xs ≡ n → IsSortedWithin (λ a b. is_lt (rank_by sooner a b)) xs 0 n → rising sooner xs ≡ true
sooner_rising xs n long up = sorted_rising sooner xs (sorted_by sooner sooner_asym sooner_ties xs n long up)

pub before_rising : (xs : List Entry) (n : ℕ) → length xs ≡ n → IsSortedWithin (λ a b. is_lt (rank_by before a b)) xs 0 n → rising before xs ≡ true
before_rising xs n long up = sorted_rising before xs (sorted_by before before_asym before_ties xs n long up)
