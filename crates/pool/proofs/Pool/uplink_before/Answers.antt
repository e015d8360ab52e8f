use Rattle.std.proofs.Common.{◌≡◌, ◌+◌, ◌-◌, ◌*◌, ◌/◌, ◌%◌, ◌^◌, ◌<◌, ap, ◌∙◌, arith}
use lib.Bits.{bit_and}
use lib.Count.{ones}
use Rattle.std.proofs.lemmas.Nat.{one_shl, and_mask}
use Rattle.rules.specs.Closed.{uplink_before, positions_below}
use Rattle.rules.proofs.Limits.{limits}
use Rattle.rules.proofs.Masks.{mask_below}
use Rattle.pool.specs.Pools.{meaning}
use Rattle.pool.proofs.Pool.uplink_before.Goals as goal

pub returns : goal.returns
unfolding uplink_before
returns c =
    let p = c.args.self.now in
    let d = c.args.d in
    let l = limits (meaning p) p.limits in
    let less : d % 10 < 10 = omega arith in
    let shift = one_shl (d % 10) 16 (omega arith) in
    let low : ones (bit_and c.mask_of.result (1 * 2 ^ (d % 10) % 65536 - 1)) ≡ positions_below p.uplink (d % 10) =
    ap (λ m. ones (bit_and c.mask_of.result (m - 1))) shift ∙ ap ones (and_mask c.mask_of.result (d % 10)) ∙ ap (λ m. ones (m % 2 ^ (d % 10))) c.mask_of.ensures ∙ mask_below p.uplink (d % 10) l.coded less in
    record {
      value = ap (λ q. c.positions.result * q + ones (bit_and c.mask_of.result (1 * 2 ^ (d % 10) % 65536 - 1))) c.from.ensures ∙ ap (λ n. c.positions.result * (d / 10) + n) low ∙ ap (λ n. n * (d / 10) + positions_below p.uplink (d % 10)) c.positions.ensures.value;
    }
