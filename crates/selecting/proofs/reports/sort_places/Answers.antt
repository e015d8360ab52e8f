use Rattle.std.proofs.Common.{refl}
use Rattle.selecting.proofs.Sorts.{sooner_rising}
use Rattle.selecting.proofs.reports.sort_places.Goals as goal

pub returns-clause-ordered : goal.returns-clause-ordered
returns-clause-ordered c = sooner_rising c.sort_unstable.new.self _ refl c.sort_unstable.ensures.sorted
