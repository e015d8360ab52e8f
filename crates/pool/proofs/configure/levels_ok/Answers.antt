use Rattle.std.proofs.Common.{leb, sym, arith, below_more}
use Rattle.std.proofs.lemmas.Bool.{le-leb}
use Rattle.rules.proofs.Lists.{every_from}
use Rattle.pool.proofs.configure.levels_ok.Goals as goal

pub loop-level-preserved : goal.loop-level-preserved
loop-level-preserved c = below_more _ _ c.loop-level.invariant (le-leb _ _ (omega arith))

pub returns : goal.returns
returns c = sym (every_from (λ l. leb l 66) c.args.levels.now 0 (λ k h. c.loop-level.invariant k (omega arith)))
