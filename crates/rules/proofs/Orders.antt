-- The orders of means, of places and of choosing. Assumes nothing.
use Rattle.std.proofs.Common.{◌≡◌, ℕ, ◌*◌, ◌<◌, ◌≤◌, Bool, true, false, not, ◌&&◌, ◌||◌, eqb, ◌⊎◌, length, Some, None, Option, sym, refl, ap, ◌∙◌, inl, inr, ⊎_elim, mul-le-mul_right, mul_right_comm, le_of_mul-le-mul_right, arith}
use Rattle.std.proofs.lemmas.Bool.{ltb-true, ltb-false, le-ltb, eqb-false, true≢false, or_parts, or_from, or_left, or_right, and_left, and_right, and_from, and_parts, cases_Bool, cases_order, not_from_true, not_from_false, not-true}
use Rattle.std.proofs.lemmas.Bool.Decides.{nat_tests}
use Rattle.rules.specs.Calendar.{Pool}
use Rattle.rules.specs.Choose.{Question, Place, Fraction, samples, mean, lower, earlier, ahead}
use Rattle.rules.specs.Sensing.{Meaning}

-- a mean divides by something
abbrev pub SomeUnder : Option Fraction → Type 0
SomeUnder None = Unit {0}
SomeUnder (Some f) = 1 ≤ f.under

mean_under : (p : Pool) (m : Meaning) (q : Question) (c : Place) → SomeUnder (mean p m q c)
unfolding mean
mean_under p m q c =
    ⊎_elim
    (λ (t : eqb (length (samples p m q c.at)) 0 ≡ true). rw t tt)
    (λ (t : eqb (length (samples p m q c.at)) 0 ≡ false). rw t (omega (arith, eqb-false _ _ t)))
    (cases_Bool (eqb (length (samples p m q c.at)) 0))

lower_asym : (a b : Option Fraction) → lower a b ≡ true → lower b a ≡ false
lower_asym None b t = absurd (true≢false (sym t))
lower_asym (Some a) None t = refl
lower_asym (Some a) (Some b) t = le-ltb _ _ (omega (arith, ltb-true _ _ t))

fractions : (a p b q c r : ℕ) → 0 < q → b * p ≤ a * q → c * q ≤ b * r → c * p ≤ a * r
fractions a p b q c r hq x y =
    let x' = mul-le-mul_right r x in
    let y' = mul-le-mul_right p y in
    le_of_mul-le-mul_right {k = q} (omega (arith, mul_right_comm a q r, mul_right_comm b p r, mul_right_comm c q p, x', y')) hq

lower_ties : (a b c : Option Fraction) → SomeUnder b → lower a b ≡ false → lower b c ≡ false → lower a c ≡ false
lower_ties None b c u x y = refl
lower_ties (Some a) None c u x y = absurd (true≢false x)
lower_ties (Some a) (Some b) None u x y = absurd (true≢false y)
lower_ties (Some a) (Some b) (Some c) u x y =
    le-ltb _ _ (fractions a.over a.under b.over b.under c.over c.under u (ltb-false _ _ x) (ltb-false _ _ y))

pub earlier_asym : (a b : Place) → earlier a b ≡ true → earlier b a ≡ false
earlier_asym a b t = grind (arith, nat_tests)

pub earlier_ties : (a b c : Place) → earlier a b ≡ false → earlier b c ≡ false → earlier a c ≡ false
earlier_ties a b c x y = grind (arith, nat_tests)

pub earlier_total : (a b : Place) → earlier b a ≡ false → (earlier a b ≡ true) ⊎ (a ≡ b)
earlier_total a b t =
    ⊎_elim
    (λ (e : a.at ≡ b.at).
    ⊎_elim
    (λ (f : a.channel ≡ b.channel). inr (ap (λ x. record { channel = x; at = a.at }) f ∙ ap (λ y. record { channel = b.channel; at = y }) e))
    (⊎_elim
    (λ (h : a.channel < b.channel). inl (grind (arith, nat_tests)))
    (λ (h : b.channel < a.channel). let z : earlier b a ≡ true = grind (arith, nat_tests) in absurd (true≢false (sym z ∙ t))))
    (cases_order a.channel b.channel))
    (⊎_elim
    (λ (h : a.at < b.at). inl (grind (arith, nat_tests)))
    (λ (h : b.at < a.at). let z : earlier b a ≡ true = grind (arith, nat_tests) in absurd (true≢false (sym z ∙ t))))
    (cases_order a.at b.at)

-- things by their means, and then by where they lie
module _ {X : Type 0} (mean-of : X → Option Fraction) (place : X → Place) where
  abbrev low : X → X → Bool
  low a b = lower (mean-of a) (mean-of b)

  -- a stands before b: the lower mean, then the lower index, then the lower sub-channel
  abbrev pub ahead_by : X → X → Bool
  ahead_by a b = low a b || (not (low b a) && earlier (place a) (place b))

  -- what does not stand ahead: its mean is not lower, and the other's is or it is not earlier
  not_ahead : (a b : X) → ahead_by a b ≡ false → (low a b ≡ false) × ((low b a ≡ true) ⊎ (earlier (place a) (place b) ≡ false))
  not_ahead a b t =
      let w = or_parts (low a b) (not (low b a) && earlier (place a) (place b)) t in
      (w.0, ⊎_elim (λ (e : low b a ≡ true). inl e) (λ (e : low b a ≡ false). inr (ap (λ x. not x && earlier (place a) (place b)) (sym e) ∙ w.1)) (cases_Bool (low b a)))

  ahead_not : (a b : X) → low a b ≡ false → (low b a ≡ true) ⊎ (earlier (place a) (place b) ≡ false) → ahead_by a b ≡ false
  ahead_not a b x (inl e) = or_from (low a b) _ x (and_left _ (earlier (place a) (place b)) (not_from_true _ e))
  ahead_not a b x (inr e) = or_from (low a b) _ x (and_right (not (low b a)) (earlier (place a) (place b)) e)

  pub by_asym : (a b : X) → ahead_by a b ≡ true → ahead_by b a ≡ false
  by_asym a b t =
      ⊎_elim
      (λ (e : low a b ≡ true). ahead_not b a (lower_asym (mean-of a) (mean-of b) e) (inl e))
      (λ (e : low a b ≡ false).
      let w = and_parts (not (low b a)) (earlier (place a) (place b)) (ap (λ x. x || (not (low b a) && earlier (place a) (place b))) (sym e) ∙ t) in
      ahead_not b a (not-true _ w.0) (inr (earlier_asym (place a) (place b) w.1)))
      (cases_Bool (low a b))

  module _ (under : (x : X) → SomeUnder (mean-of x)) where
    low_ties : (a b c : X) → low a b ≡ false → low b c ≡ false → low a c ≡ false
    low_ties a b c = lower_ties (mean-of a) (mean-of b) (mean-of c) (under b)

    pub by_ties : (a b c : X) → ahead_by a b ≡ false → ahead_by b c ≡ false → ahead_by a c ≡ false
    by_ties a b c x y =
        let u = not_ahead a b x in
        let v = not_ahead b c y in
        let first = low_ties a b c u.0 v.0 in
        let lowest : (low b a ≡ true) → low c a ≡ true =
        λ e. ⊎_elim (λ t. t) (λ (f : low c a ≡ false). absurd (true≢false (sym e ∙ low_ties b c a v.0 f))) (cases_Bool (low c a)) in
        let lowest' : (low c b ≡ true) → low c a ≡ true =
        λ e. ⊎_elim (λ t. t) (λ (f : low c a ≡ false). absurd (true≢false (sym e ∙ low_ties c a b f u.0))) (cases_Bool (low c a)) in
        ahead_not a c first
        (⊎_elim
        (λ e. inl (lowest e))
        (λ e. ⊎_elim (λ f. inl (lowest' f)) (λ f. inr (earlier_ties (place a) (place b) (place c) e f)) v.1)
        u.1)

  pub by_total : (a b : X) → ahead_by b a ≡ false → (ahead_by a b ≡ true) ⊎ (place a ≡ place b)
  by_total a b t =
      let u = not_ahead b a t in
      ⊎_elim
      (λ (e : low a b ≡ true). inl (or_left _ _ e))
      (λ (e : earlier (place b) (place a) ≡ false).
      ⊎_elim
      (λ (f : earlier (place a) (place b) ≡ true). inl (or_right (low a b) _ (and_from _ _ (not_from_false _ u.0) f)))
      (λ f. inr f)
      (earlier_total (place a) (place b) e))
      u.1

module _ (p : Pool) (m : Meaning) (q : Question) where
  pub ahead_asym : (a b : Place) → ahead p m q a b ≡ true → ahead p m q b a ≡ false
  ahead_asym = by_asym (mean p m q) (λ c. c)

  pub ahead_ties : (a b c : Place) → ahead p m q a b ≡ false → ahead p m q b c ≡ false → ahead p m q a c ≡ false
  ahead_ties = by_ties (mean p m q) (λ c. c) (mean_under p m q)

  pub ahead_total : (a b : Place) → ahead p m q b a ≡ false → (ahead p m q a b ≡ true) ⊎ (a ≡ b)
  ahead_total = by_total (mean p m q) (λ c. c)
