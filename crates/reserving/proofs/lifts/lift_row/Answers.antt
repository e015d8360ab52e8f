use Rattle.std.proofs.Common.{◌≡◌, ℕ, ◌+◌, ◌<◌, Bool, true, false, ◌&&◌, ◌||◌, length, get_or, sym, refl, ap, ◌∙◌, subst, arith, length-set}
use Rattle.std.specs.Ordering.{ord_max}
use Rattle.std.proofs.Math.Bool.{or-true, or-false, and-true, and-false}
use Rattle.std.proofs.lemmas.Bool.Decides.{nat_tests}
use Rattle.rules.specs.Choose.{share}
use Rattle.reserving.specs.contracts.NeedOrd.TheImpl.{cmp-value}
use Rattle.reserving.specs.Lifts.{by_share}
use Rattle.reserving.specs.Needs.{bars}
use Rattle.reserving.specs.declared.Need.{Need}
use Rattle.reserving.specs.declared.Need.TheVariants.{From, Never}
use Rattle.reserving.proofs.Walked.{Walked, walked_set}
use Rattle.reserving.proofs.lifts.lift_row.Goals as goal
use Rattle.reserving.proofs.lifts.lift_row.Goals.{then-shares, else-shares}

-- the greater of two needs bars the raises that one of them does
bars_max : (a b : Need) (r : ℕ) → bars (ord_max cmp-value.it a b) r ≡ (bars a r || bars b r)
bars_max (From k) (From j) r = grind (arith, nat_tests)
bars_max (From k) Never r = sym (or-true _)
bars_max Never (From j) r = refl
bars_max Never Never r = refl

lift_there : (a n : Need) (r : ℕ) (s : Bool) → s ≡ true → bars (ord_max cmp-value.it a n) r ≡ (bars a r || (bars n r && s))
lift_there a n r s e = bars_max a n r ∙ ap (λ b. bars a r || b) (sym (and-true (bars n r)) ∙ ap (λ t. bars n r && t) (sym e))

lift_nowhere : (a n : Need) (r : ℕ) (s : Bool) → s ≡ false → bars a r ≡ (bars a r || (bars n r && s))
lift_nowhere a n r s e = sym (ap (λ b. bars a r || b) (ap (λ t. bars n r && t) e ∙ and-false (bars n r)) ∙ or-false (bars a r))

pub loop-x-preserved : goal.loop-x-preserved
loop-x-preserved c =
    let a = c.args in
    let old = a.row.now in
    let x = c.loop-x.x in
    let R : ℕ → Need → Need → Type 0 = λ x b d. (r : ℕ) → bars d r ≡ (bars b r || by_share a.wide a.taken.first a.taken.many a.need r x) in
    let s = share x a.wide a.taken.first a.taken.many in
    let walked = c.loop-x.invariant.0 in
    let long = c.loop-x.invariant.1 in
    let l : x < length c.loop-x.row = omega arith in
    let same = walked.1 x (omega arith) in
    elim c.if-shares.branch [
      | then-shares w ↦ (
        subst (λ ys. Walked (From 0) R (x + 1) old ys) (sym w.row-is)
            (walked_set (From 0) R x w.max.result old c.loop-x.row l walked
            (λ r. ap (λ v. bars v r) (w.max.ensures ∙ ap (λ b. ord_max cmp-value.it b a.need) same) ∙ lift_there (get_or old x (From 0)) a.need r s (sym w.if-shares.ensures))),
        ap length w.row-is ∙ length-set c.loop-x.row x w.max.result ∙ long,
      )
      | else-shares w ↦ (
        subst (λ ys. Walked (From 0) R (x + 1) old ys) (sym w.row-is)
            (walked_set (From 0) R x (get_or c.loop-x.row x (From 0)) old c.loop-x.row l walked
            (λ r. ap (λ v. bars v r) same ∙ lift_nowhere (get_or old x (From 0)) a.need r s (sym w.if-shares.ensures))),
        ap length w.row-is ∙ length-set c.loop-x.row x (get_or c.loop-x.row x (From 0)) ∙ long,
      )
    ]
