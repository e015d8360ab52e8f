-- The bits of the highest RIV are the smallest width.
use Rattle.std.proofs.Common.{◌≡◌, ℕ, suc, ◌+◌, ◌-◌, ◌*◌, ◌^◌, ◌<◌, ◌≤◌, pow-suc, arith}
use Rattle.std.proofs.lemmas.Nat.{leading_length, pow_pos}
use Rattle.rules.specs.Format.{pairs, Width}
use Rattle.rules.proofs.Width.{pow_le, width_is, width_small}
use Rattle.format1.proofs.width_of.Goals as goal

smallest : (n x m : ℕ) → x ≡ pairs n - 1 → x < 2 ^ m → 2 ^ m ≤ 2 * x + 1 → Width n m
smallest n x m is less more =
    record { enough = omega arith; least = λ v h. let p = pow_le (suc v) m (omega arith) in omega (arith, pow-suc 2 v, pow_pos v) }

pub returns : goal.returns
returns c =
    let n = c.args.n in
    let x = c.saturating_sub.result in
    let w = leading_length 16 x c.saturating_sub.type_inv in
    let m = w.0 in
    let e = width_is n m (smallest n x m (omega arith) w.2 w.3) in
    let few = width_small n (omega arith) in
    record { value = omega (arith, w.1); few = omega (arith, w.1) }
