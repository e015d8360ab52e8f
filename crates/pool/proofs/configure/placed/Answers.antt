use Rattle.std.proofs.Common.{◌∙◌, rules}
use Rattle.std.proofs.lemmas.Iterator.{YieldsList-from_slice}
use Rattle.std.proofs.lemmas.Iterator.Search.{all_from_yields_List}
use borrow.Author.Tests.{tests}
use Rattle.rules.specs.Configure.{offset_ok}
use Rattle.rules.proofs.Chains.{every_is}
use Rattle.pool.proofs.configure.placed.Goals as goal

pub returns : goal.returns
returns c =
    all_from_yields_List (offset_ok c.args.uplink) _ _ c.all.result c.all.ensures.ran (YieldsList-from_slice c.args.offsets.now cc) (λ x b q k. search (rules, tests))
    ∙ every_is _ c.args.offsets.now
