use Rattle.std.proofs.Common.{leb, sym, arith, below_more}
use Rattle.std.proofs.lemmas.Bool.{le-leb, eq-eqb, and_from}
use Rattle.rules.proofs.Lists.{every_from}
use Rattle.sensing.proofs.readings_ok.Goals as goal

pub loop-reading-preserved : goal.loop-reading-preserved
loop-reading-preserved c = below_more _ _ c.loop-reading.invariant (le-leb _ _ (omega arith))

pub returns : goal.returns
returns c =
    sym (and_from _ _ (eq-eqb _ _ (omega arith)) (every_from (λ r. leb r 4000000000) c.args.readings.now 0 (λ k h. c.loop-reading.invariant k (omega arith))))
