use Rattle.std.proofs.Common.{◌≡◌, ◌<◌, ◌/◌, length, get_or, take, sym, ap, ◌∙◌, arith}
use Rattle.std.proofs.lemmas.List.{get_or-take, length-take, length-set}
use Rattle.rules.specs.Configure.{byte_bit}
use Rattle.console.proofs.Bits.{with_bit_other, taken_more, taken_none}
use Rattle.console.proofs.packed.Goals as goal
use Rattle.console.proofs.packed.Goals.{then-digit-eq49, else-digit-eq49}

pub loop-i-preserved : goal.loop-i-preserved
loop-i-preserved c =
    let digits = c.args.digits.now in
    let bytes = c.loop-i.bytes in
    let i = c.loop-i.i in
    let cut = length-take c.min.result digits in
    let inside : i < 104 = omega arith in
    let room : i / 8 < length bytes = omega arith in
    let here : get_or (take c.min.result digits) i 0 ≡ get_or digits i 0 = get_or-take _ digits i 0 (omega arith) in
    record {
      whole = elim c.if-digit-eq49.branch [
        | then-digit-eq49 w ↦ ap length w.bytes-is ∙ length-set bytes (i / 8) _ ∙ c.loop-i.invariant.whole
        | else-digit-eq49 w ↦ ap length w.bytes-is ∙ c.loop-i.invariant.whole
      ];
      taken = λ k less. elim c.if-digit-eq49.branch [
        | then-digit-eq49 w ↦
            ap (λ b. byte_bit b k) w.bytes-is
            ∙ taken_more bytes digits i k room (sym here ∙ w.if-digit-eq49.true) c.loop-i.invariant.taken less
        | else-digit-eq49 w ↦
            ap (λ b. byte_bit b k) w.bytes-is
            ∙ taken_none bytes digits i k (λ e. w.if-digit-eq49.false (here ∙ e)) (c.loop-i.invariant.left i inside (omega arith)) c.loop-i.invariant.taken less
      ];
      left = λ k within above. elim c.if-digit-eq49.branch [
        | then-digit-eq49 w ↦
            ap (λ b. byte_bit b k) w.bytes-is
            ∙ with_bit_other bytes i k room (omega arith) ∙ c.loop-i.invariant.left k within (omega arith)
        | else-digit-eq49 w ↦ ap (λ b. byte_bit b k) w.bytes-is ∙ c.loop-i.invariant.left k within (omega arith)
      ];
    }
