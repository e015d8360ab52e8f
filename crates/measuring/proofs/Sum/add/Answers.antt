use Rattle.std.proofs.Common.{rules, ◌≡◌, ℕ, ◌+◌, ◌<◌, ◌≤◌, cond, get_or, refl, ap, ◌∙◌, ⊎_elim, arith, add-mul, one-mul}
use Rattle.std.proofs.lemmas.Bool.{cases_lt}
use Rattle.std.proofs.lemmas.List.{get_or_past}
use Rattle.measuring.specs.Bounds.{most}
use Rattle.measuring.proofs.Made.{from_each}
use Rattle.measuring.proofs.Sum.add.Goals as goal

pub invariant_of-self-clause-small : goal.invariant_of-self-clause-small
invariant_of-self-clause-small c =
    let s = c.args.self.now in
    let p = c.args.powers.now in
    let made : (x d : ℕ) → x < 20 → get_or c.from_fn.result x d ≡ get_or s.over x 0 + get_or p.from x 0 = from_each _ _ (λ j y. y ≡ get_or s.over j 0 + get_or p.from j 0) (λ j y q called. let z = called.met in (search rules, search rules)) c.from_fn.result 20 c.from_fn.ensures.items in
    let long = c.from_fn.ensures.items.long in
    λ x.
    ⊎_elim
    (λ (h : x < 20). omega (arith, made x 0 h, s.small x, p.few x, add-mul s.under 1 most, one-mul most))
    (λ (h : 20 ≤ x). omega (arith, get_or_past c.from_fn.result x 0 (omega arith)))
    (cases_lt x 20)

pub returns : goal.returns
returns c =
    let s = c.args.self.now in
    let p = c.args.powers.now in
    let sample = c.if-not-has.ensures in
    let made : (x d : ℕ) → x < 20 → get_or c.from_fn.result x d ≡ get_or s.over x 0 + get_or p.from x 0 = from_each _ _ (λ j y. y ≡ get_or s.over j 0 + get_or p.from j 0) (λ j y q called. let z = called.met in (search rules, search rules)) c.from_fn.result 20 c.from_fn.ensures.items in
    record {
      at = refl;
      under = ap (λ b. s.under + cond b 1 0) sample;
      over = λ x h. made x 0 h ∙ ap (λ b. get_or s.over x 0 + cond b (get_or p.from x 0) 0) sample;
    }
