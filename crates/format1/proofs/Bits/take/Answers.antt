-- A shift and a mask are a quotient and a remainder by powers of two.
use Rattle.std.proofs.Common.{◌+◌, ◌-◌, ◌/◌, ◌^◌, refl, ap, ◌∙◌, arith}
use lib.Bits.{bit_and}
use Rattle.std.proofs.lemmas.Nat.{one_shl, and_mask}
use Rattle.rules.specs.Format.{bits}
use Rattle.rules.proofs.Reader.{bits_small}
use Rattle.format1.proofs.Bits.take.Goals as goal

pub returns : goal.returns
unfolding bits
returns c =
    let size = c.args.size in
    let from = c.args.self.now.at in
    let x = c.args.self.now.word / 2 ^ (32 - (from + size)) in
    let e = ap (λ m. bit_and x (m - 1)) (one_shl size 32 (omega arith)) ∙ and_mask x size in
    record { value = e; small = omega (arith, e, bits_small c.args.self.now.word from size); word = refl; at = refl }
