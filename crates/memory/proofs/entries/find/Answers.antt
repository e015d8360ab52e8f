use Rattle.std.proofs.Common.{rules}
use Rattle.std.proofs.iter.runs.Made.{chains}
use borrow.Author.Tests.{tests}
use Rattle.memory.proofs.EntryPutting.{found}
use Rattle.memory.proofs.entries.find.Goals as goal

pub returns : goal.returns
returns c =
    found c.args.index c.args.resource c.args.places.now c.find_map.result
    (λ e k l. search (rules, chains, tests))
    (λ x e. search (rules, chains, tests))
