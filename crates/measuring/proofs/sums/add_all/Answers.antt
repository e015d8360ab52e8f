use Rattle.std.proofs.Common.{◌≡◌, ℕ, ◌<◌, ◌≢◌, length, get_or, sym, ap, ◌∙◌, subst, arith, below_more, get_or-set_other, get_or-set_same}
use Rattle.std.proofs.lemmas.List.{get_or_default}
use Rattle.measuring.specs.declared.Sum.{Sum}
use Rattle.measuring.specs.Sums.{lies, More}
use Rattle.measuring.proofs.sums.add_all.Goals as goal

pub add-requires : goal.add-requires
add-requires c =
    let i = c.loop-sum.sum-index in
    let same = ap (λ (s : Sum). s.under) (c.loop-sum.invariant.1 i (omega arith) c.sum-item.result) in
    omega (arith, c.requires i c.loop-sum-test.true c.sum-item.result)

pub loop-sum-preserved : goal.loop-sum-preserved
loop-sum-preserved c =
    let xs = c.loop-sum.sums in
    let ys = c.args.sums.now in
    let i = c.loop-sum.sum-index in
    let lt : i < length xs = omega arith in
    let new = c.add.new.self in
    let row : ℕ → ℕ = λ x. get_or c.args.powers.now.from x 0 in
    let step = c.args.step in
    let z = c.args.z in (
      below_more _ _
          (λ j h d. let ne : j ≢ i = omega arith in subst (More (lies step z (get_or ys j d).at) row (get_or ys j d)) (sym (get_or-set_other xs i j new d ne)) (c.loop-sum.invariant.0 j h d))
          (λ d.
          let was : get_or xs i c.sum-item.result ≡ get_or ys i d = c.loop-sum.invariant.1 i (omega arith) c.sum-item.result ∙ get_or_default ys i c.sum-item.result d (omega arith) in
          subst (More (lies step z (get_or ys i d).at) row (get_or ys i d)) (sym (get_or-set_same xs i new d lt))
          (subst (λ (s : Sum). More (lies step z s.at) row s new) was c.add.ensures)),
      (λ j h d. let ne : j ≢ i = omega arith in get_or-set_other xs i j new d ne ∙ c.loop-sum.invariant.1 j (omega arith) d),
    )
