use Rattle.std.proofs.Common.{rules, refl}
use Rattle.std.specs.Ordering.{is_lt}
use Rattle.std.proofs.lemmas.List.Sorted.{answers_always, ranks_by}
use Rattle.rules.specs.Ranks.{rank_by}
use Rattle.selecting.specs.Entries.{before}
use Rattle.selecting.specs.Orders.{before_total}
use Rattle.selecting.specs.declared.Entry.{Entry}
use Rattle.selecting.proofs.Sorts.{before_rising}
use Rattle.selecting.proofs.reports.rank_all.Goals as goal

pub returns-clause-ordered : goal.returns-clause-ordered
returns-clause-ordered c =
    before_rising c.sort_unstable_by.new.self _ refl
    (c.sort_unstable_by.ensures.sorted (λ a b. is_lt (rank_by before a b)) (ranks_by before_total (λ (e : Entry). e)) (answers_always _ _ _ (λ f a r g called. search rules)))
