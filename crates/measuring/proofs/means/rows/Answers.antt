use Rattle.std.proofs.Common.{◌≡◌, ◌<◌, ◌≢◌, [], length, get_or, sym, subst, ◌∙◌, rules, arith, length-set, get_or-set_other, get_or-set_same, below_more}
use Rattle.std.proofs.lemmas.List.{get_or_default}
use Rattle.measuring.specs.Means.{MeansOf}
use Rattle.measuring.proofs.means.rows.Goals as goal

pub loop-i-preserved : goal.loop-i-preserved
loop-i-preserved c =
    let sums = c.args.sums.now in
    let rows = c.loop-i.rows in
    let i = c.loop-i.i in
    let v = c.means.result in
    let s = c.index-sums-i.result in
    let long = c.loop-i.invariant.1 in
    let few = c.requires in
    let here : i < length sums = c.loop-i-test.true in
    let lt : i < length rows = omega arith in
    let item : s ≡ get_or sums i s = search rules in (
      below_more _ _
          (λ j h d. let ne : j ≢ i = omega arith in subst (λ row. MeansOf (get_or sums j d) row) (sym (get_or-set_other rows i j v [] ne)) (c.loop-i.invariant.0 j h d))
          (λ d.
          subst (λ row. MeansOf (get_or sums i d) row) (sym (get_or-set_same rows i v [] lt))
          (subst (λ t. MeansOf t v) (item ∙ get_or_default sums i s d here) c.means.ensures)),
      length-set rows i v ∙ long,
    )
