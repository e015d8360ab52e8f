-- Two records that test the same are the same. Assumes nothing.
use Rattle.std.proofs.Common.{◌≡◌, ℕ, Bool, true, false, ◌&&◌, eqb, nat_eq, ℤ, refl, ap, ◌∙◌, ⊎_elim, arith}
use Rattle.std.specs.Ordering.{int_eq}
use Rattle.std.proofs.lemmas.Cmp.{int_eq_equiv}
use lib.Signed.{le_z}
use Rattle.std.proofs.lemmas.Int.{ints}
use Rattle.std.proofs.lemmas.Bool.{and_parts, eqb-true, eq-eqb, cases_Bool}
use Rattle.rules.specs.Sensing.{same_held}
use Rattle.sensing.specs.Memories.{held_of}
use Rattle.sensing.specs.declared.Held.{Held}

abbrev made : ℕ → ℕ → ℕ → ℕ → ℕ → ℕ → ℕ → ℤ → Held
made p c s l g m a x = record { what = record { priority = p; code = c; start = s; length = l; gap = g; mcs = m; again = a }; rsrp = x }

between : (x y : ℤ) → le_z x y ≡ true → le_z y x ≡ true → x ≡ y
between x y p q = grind (arith, ints)

pub held_same : (h k : Held) → same_held (held_of h) (held_of k) ≡ true → h ≡ k
held_same h k t =
    let w = and_parts _ _ t in
    let r = and_parts _ _ w.1 in
    let a = and_parts _ _ w.0 in
    let m = and_parts _ _ a.0 in
    let g = and_parts _ _ m.0 in
    let l = and_parts _ _ g.0 in
    let s = and_parts _ _ l.0 in
    let c = and_parts _ _ s.0 in
    ap (λ x. made x h.what.code h.what.start h.what.length h.what.gap h.what.mcs h.what.again h.rsrp) (eqb-true _ _ c.0)
    ∙ ap (λ x. made k.what.priority x h.what.start h.what.length h.what.gap h.what.mcs h.what.again h.rsrp) (eqb-true _ _ c.1)
    ∙ ap (λ x. made k.what.priority k.what.code x h.what.length h.what.gap h.what.mcs h.what.again h.rsrp) (eqb-true _ _ s.1)
    ∙ ap (λ x. made k.what.priority k.what.code k.what.start x h.what.gap h.what.mcs h.what.again h.rsrp) (eqb-true _ _ l.1)
    ∙ ap (λ x. made k.what.priority k.what.code k.what.start k.what.length x h.what.mcs h.what.again h.rsrp) (eqb-true _ _ g.1)
    ∙ ap (λ x. made k.what.priority k.what.code k.what.start k.what.length k.what.gap x h.what.again h.rsrp) (eqb-true _ _ m.1)
    ∙ ap (λ x. made k.what.priority k.what.code k.what.start k.what.length k.what.gap k.what.mcs x h.rsrp) (eqb-true _ _ a.1)
    ∙ ap (λ x. made k.what.priority k.what.code k.what.start k.what.length k.what.gap k.what.mcs k.what.again x) (between _ _ r.0 r.1)

pub held_other : (h k : Held) → (h ≡ k → ⊥) → same_held (held_of h) (held_of k) ≡ false
held_other h k ne = ⊎_elim (λ t. absurd (ne (held_same h k t))) (λ f. f) (cases_Bool (same_held (held_of h) (held_of k)))

le_self : (x : ℤ) → le_z x x ≡ true
le_self x = grind (arith, ints)

pub held_self : (h : Held) → same_held (held_of h) (held_of h) ≡ true
held_self h =
    let e : (n : ℕ) → eqb n n ≡ true = λ n. eq-eqb n n refl in
    rw (e h.what.priority, e h.what.code, e h.what.start, e h.what.length, e h.what.gap, e h.what.mcs, e h.what.again, le_self h.rsrp)

-- what `==` computes of two records
abbrev pub fields_eq : Held → Held → Bool
fields_eq h k =
    (nat_eq h.what.priority k.what.priority && (nat_eq h.what.code k.what.code && (nat_eq h.what.start k.what.start && (nat_eq h.what.length k.what.length && (nat_eq h.what.gap k.what.gap && (nat_eq h.what.mcs k.what.mcs && nat_eq h.what.again k.what.again))))))
    && int_eq h.rsrp k.rsrp

pub fields_self : (h : Held) → fields_eq h h ≡ true
fields_self h =
    let e : (n : ℕ) → nat_eq n n ≡ true = λ n. eq-eqb n n refl in
    rw (e h.what.priority, e h.what.code, e h.what.start, e h.what.length, e h.what.gap, e h.what.mcs, e h.what.again, int_eq_equiv.refl h.rsrp)
