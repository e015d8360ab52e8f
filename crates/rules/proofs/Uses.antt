-- The test of what a record uses says what the rule says. Assumes nothing.
use Rattle.std.proofs.Common.{◌≡◌, ℕ, ◌+◌, ◌<◌, ◌≤◌, true, ◌&&◌, ltb, leb, inl, inr, ⊎_elim}
use Rattle.std.proofs.lemmas.Bool.{and_parts, and_from, or_cases, or_left, or_right, leb-true, ltb-true, eqb-true, le-leb, lt-ltb, eq-eqb}
use Rattle.rules.specs.Format.{Record, Partner, Uses, partner, uses, Tested}

between : (a b c : ℕ) → (leb a c && ltb c b) ≡ true → (a ≤ c) × (c < b)
between a b c t = let w = and_parts _ _ t in (leb-true a c w.0, ltb-true c b w.1)

partner_is : (r : Record) (b index : ℕ) → partner r b index ≡ true → Partner r b index
partner_is r b index t =
    ⊎_elim
    (λ u. let w = and_parts _ _ u in inl (eqb-true _ _ w.0, eqb-true _ _ w.1))
    (λ u. let w = and_parts _ _ u in inr (eqb-true _ _ w.0, eqb-true _ _ w.1))
    (or_cases _ _ t)

partner_test : (r : Record) (b index : ℕ) → Partner r b index → partner r b index ≡ true
partner_test r b index (inl w) = or_left _ _ (and_from _ _ (eq-eqb _ _ w.0) (eq-eqb _ _ w.1))
partner_test r b index (inr w) = or_right _ _ (and_from _ _ (eq-eqb _ _ w.0) (eq-eqb _ _ w.1))

pub uses_is : (r : Record) (a b channel index : ℕ) → uses r a b channel index ≡ true → Uses r a b channel index
unfolding uses
uses_is r a b channel index t =
    ⊎_elim
    (λ u.
    let w = and_parts _ _ u in
    let c = between a (a + r.length) channel w.1 in
    inl (eqb-true index b w.0, c.0, c.1))
    (λ u.
    let w = and_parts _ _ u in
    let v = and_parts _ _ w.1 in
    let c = between r.start (r.start + r.length) channel v.1 in
    inr (ltb-true 0 r.gap w.0, partner_is r b index v.0, c.0, c.1))
    (or_cases _ _ t)

pub uses_test : (r : Record) (a b channel index : ℕ) → Uses r a b channel index → uses r a b channel index ≡ true
unfolding uses
uses_test r a b channel index (inl w) =
    or_left _ _ (and_from _ _ (eq-eqb _ _ w.0) (and_from _ _ (le-leb _ _ w.1) (lt-ltb _ _ w.2)))
uses_test r a b channel index (inr w) =
    or_right _ _
    (and_from _ _ (lt-ltb _ _ w.0) (and_from _ _ (partner_test r b index w.1) (and_from _ _ (le-leb _ _ w.2) (lt-ltb _ _ w.3))))

pub tested : Tested
tested r a b channel index = (uses_is r a b channel index, uses_test r a b channel index)
