use Rattle.std.proofs.Common.{rules, ◌≡◌, ℕ, ◌<◌, get_or, sum_by, arith, mul-le-mul_right}
use Rattle.std.proofs.lemmas.List.{get_or_default}
use Rattle.std.proofs.lemmas.List.Sums.{sum_by-le}
use Rattle.std.proofs.iter.runs.Made.{chains}
use Rattle.measuring.proofs.sums.sum_of.Goals as goal

pub returns-clause-few : goal.returns-clause-few
returns-clause-few c =
    let value : c.sum.result ≡ sum_by (λ r. r) c.args.readings.now = search (rules, chains) in
    let xs = c.args.readings.now in
    let small : (k : ℕ) → get_or xs k 0 < 4294967296 = λ k. search rules in
    let each = sum_by-le (λ r. r) 4294967295 xs (λ k d h. omega (arith, small k, get_or_default xs k d 0 h)) in
    omega (arith, mul-le-mul_right 4294967295 c.requires)
