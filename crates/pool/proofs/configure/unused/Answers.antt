use Rattle.std.proofs.Common.{eqb, ◌∙◌, rules}
use Rattle.std.proofs.lemmas.Iterator.{YieldsList-from_slice}
use Rattle.std.proofs.lemmas.Iterator.Search.{all_from_yields_List}
use borrow.Author.Tests.{tests}
use Rattle.rules.proofs.Chains.{every_is}
use Rattle.pool.proofs.configure.unused.Goals as goal

pub returns : goal.returns
returns c =
    all_from_yields_List (λ o. eqb o 0) _ _ c.all.result c.all.ensures.ran (YieldsList-from_slice c.args.places.now cc) (λ x b q k. search (rules, tests))
    ∙ every_is _ c.args.places.now
