use Rattle.std.proofs.Common.{◌-◌, not, refl, rules}
use Rattle.std.proofs.lemmas.Iterator.{YieldsList-from_range}
use Rattle.std.proofs.lemmas.Iterator.Search.{all_from_yields_List}
use borrow.Author.Tests.{tests}
use Rattle.rules.specs.Closed.{word_bit}
use Rattle.rules.proofs.Chains.{none_between}
use Rattle.pool.proofs.Bitmap.rest_zero.Goals as goal

pub returns : goal.returns
returns c =
    let b = c.args.self.now.size in
    let bit = word_bit c.args.self.now.words in
    none_between bit b 104 c.all.result
    (all_from_yields_List (λ i. not (bit i)) _ _ c.all.result c.all.ensures.ran (YieldsList-from_range b 104 (104 - b) refl refl) (λ x b q k. search (rules, tests)))
