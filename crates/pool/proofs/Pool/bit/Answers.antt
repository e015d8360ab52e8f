use Rattle.std.proofs.Common.{false, sym, ◌∙◌, arith}
use Rattle.std.proofs.lemmas.Bool.{le-ltb}
use Rattle.std.proofs.lemmas.List.FromFn.{get_or-map-range_with_len}
use Rattle.std.proofs.lemmas.List.{get_or_past}
use Rattle.rules.specs.Closed.{word_bit}
use Rattle.pool.specs.Pools.{meaning}
use Rattle.pool.proofs.Kept.{small, size_is}
use Rattle.pool.proofs.Pool.bit.Goals as goal

pub word_bit-requires : goal.word_bit-requires
word_bit-requires c = omega (arith, small c.args.self.now)

pub returns-then-i-self : goal.returns-then-i-self
returns-then-i-self c =
    let p = c.args.self.now in
    c.word_bit.ensures ∙ sym (get_or-map-range_with_len (word_bit p.bitmap.words) 0 p.bitmap.size c.args.i c.args.i false (omega arith) (omega arith))

pub returns-else-i-self : goal.returns-else-i-self
returns-else-i-self c =
    let p = c.args.self.now in
    le-ltb c.args.i p.bitmap.size (omega arith) ∙ sym (get_or_past (meaning p).bits c.args.i false (omega (arith, size_is p)))
