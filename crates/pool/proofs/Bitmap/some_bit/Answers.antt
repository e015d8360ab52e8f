use Rattle.std.proofs.Common.{ltb, ◌∙◌, rules}
use lib.Count.{ones}
use Rattle.std.proofs.lemmas.Iterator.{YieldsList-from_slice}
use Rattle.std.proofs.lemmas.Iterator.Search.{any_from_yields_List}
use borrow.Author.Tests.{tests}
use Rattle.rules.proofs.Chains.{any_is}
use Rattle.pool.proofs.Bitmap.some_bit.Goals as goal

pub returns : goal.returns
returns c =
    any_from_yields_List (λ w. ltb 0 (ones w)) _ _ c.any.result c.any.ensures.ran (YieldsList-from_slice c.args.self.now.words cc) (λ x b q k. search (rules, tests))
    ∙ any_is _ c.args.self.now.words
