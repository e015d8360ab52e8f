use Rattle.std.proofs.Common.{sym, refl}
use Rattle.pool.proofs.Made.{made}
use Rattle.pool.proofs.Pool.configure.Goals as goal

pub invariant_of-self : goal.invariant_of-self
invariant_of-self c =
    let m = made c.args.s.now c.in_ok-bitmap.bitmap c.in_ok-bitmap.ensures.bits (sym c.in_ok-bitmap.ensures.answer) in
    record { few = m.few }

pub invariant_of-self-2 : goal.invariant_of-self-2
invariant_of-self-2 c =
    let m = made c.args.s.now c.in_ok-bitmap.bitmap c.in_ok-bitmap.ensures.bits (sym c.in_ok-bitmap.ensures.answer) in
    record { limits = m.limits; some = m.some; whole = m.whole }

pub returns : goal.returns
returns c =
    let m = made c.args.s.now c.in_ok-bitmap.bitmap c.in_ok-bitmap.ensures.bits (sym c.in_ok-bitmap.ensures.answer) in
    record { answer = c.in_ok-bitmap.ensures.answer; done = λ _. m.same; refused = λ no. absurd (no refl) }
