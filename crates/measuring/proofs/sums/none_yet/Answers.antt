use Rattle.std.proofs.Common.{rules}
use Rattle.choosing.specs.Fits.{index_of}
use Rattle.measuring.specs.Sums.{NoneYet}
use Rattle.measuring.proofs.Made.{from_each}
use Rattle.measuring.proofs.sums.none_yet.Goals as goal

pub returns : goal.returns
returns c = λ i h d. from_each _ _ (λ j s. NoneYet (index_of c.args.slots.now j) s) (λ j y q called. let z = called.met in (search rules, search rules)) c.from_fn.result 100 c.from_fn.ensures.items i d h
