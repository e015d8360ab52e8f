use Rattle.std.proofs.Common.{eqb, ap, ◌∙◌, ◌%◌, rules}
use Rattle.std.proofs.lemmas.Iterator.{YieldsList-from_slice}
use Rattle.std.proofs.lemmas.Iterator.Search.{any_from_yields_List}
use borrow.Author.Tests.{tests}
use Rattle.rules.specs.Counting.{among}
use Rattle.rules.proofs.Chains.{any_is}
use Rattle.pool.proofs.Offsets.has.Goals as goal

pub returns : goal.returns
returns c =
    let place = c.args.d % 160 in
    let all = c.all.result.now in
    any_from_yields_List (λ o. eqb o place) _ _ c.any.result c.any.ensures.ran (YieldsList-from_slice all cc) (λ x b q k. search (rules, tests))
    ∙ any_is _ all
    ∙ ap (among place) c.all.ensures.value
