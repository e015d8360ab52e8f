use Rattle.std.proofs.Common.{rules, ◌≡◌, ◌+◌, ◌-◌, take, drop, sum_by, ap, ◌∙◌, arith}
use Rattle.measuring.proofs.Adding.{total_of}
use Rattle.measuring.proofs.sums.power.Goals as goal

pub returns-clause-value : goal.returns-clause-value
returns-clause-value c = λ h.
    let xs = c.args.readings.now in
    let x = c.args.x in
    let n = c.args.n in
    let part : c.in-Some.part.now ≡ take (x + n - x) (drop x xs) = search rules in
    let long : x + n - x ≡ n = omega arith in
    c.sum_of.ensures.value ∙ ap (sum_by (λ r. r)) part ∙ ap (λ k. sum_by (λ r. r) (take k (drop x xs))) long ∙ total_of xs x n (omega arith)
