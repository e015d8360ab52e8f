use Rattle.std.proofs.Common.{sym, ap, ◌∙◌, arith, Ok}
use Rattle.sensing.proofs.Examine.{same_lists, other_lists, reading_of}
use Rattle.sensing.proofs.same_readings.Goals as goal

pub returns-then-held-reading : goal.returns-then-held-reading
returns-then-held-reading g c ks w e long =
    let m = g.M.Asking.meaning c.args.m.now in
    let r = reading_of m c.args.index c.loop-a.a c.in-Ok-Some.held ks e (ap (λ h. Ok h) (sym c.in-Ok-Some.field-0-is) ∙ c.in-Ok-Some.ensures) in
    sym (other_lists ks c.args.readings.now c.loop-a.a (omega arith) (λ same. c.if-held-reading.true (r ∙ same)) long)

pub returns : goal.returns
returns g c ks w e long = sym (same_lists ks c.args.readings.now long (λ k l. c.loop-a.invariant ks e k (omega arith)))
