use Rattle.std.proofs.Common.{◌/◌, ◌%◌, ◌^◌, eqb, ap, ◌∙◌, arith}
use Rattle.rules.proofs.Masks.{mask_bit}
use Rattle.pool.proofs.calendar.on_uplink.Goals as goal

pub returns : goal.returns
returns c =
    let r = c.args.d % 10 in
    ap (λ m. eqb (m / 2 ^ r % 2) 1) c.mask_of.ensures ∙ mask_bit c.args.code r (omega arith)
