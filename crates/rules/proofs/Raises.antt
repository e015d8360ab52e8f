-- How raises act. Assumes nothing.
use Rattle.std.proofs.Common.{◌≡◌, ℕ, ◌+◌, ◌-◌, ◌*◌, ◌≤◌, true, false, cond, not, ◌&&◌, eqb, ℤ, pos, ◌+ℤ◌, Some, None, Option, sym, refl, ap, ◌∙◌, ⊎_elim, arith}
use lib.Signed.{lt_z, le_z}
use Rattle.std.specs.List.{range_with_len}
use Rattle.std.proofs.lemmas.Int.{ints}
use Rattle.std.proofs.lemmas.Bool.{and_parts, and_from, cases_Bool, not-true, not_from_false, true≢false, eqb-false}
use Rattle.rules.specs.Counting.{any}
use Rattle.rules.specs.Calendar.{Pool, window, distance, threshold}
use Rattle.rules.specs.Sensing.{Meaning, Held, Fair}
use Rattle.rules.specs.Choose.{Question, Place, interval, repeats, takes, held_reserves, reserved_at, blinded, survives, level_of, above}
use Rattle.rules.specs.ChooseLaws.{FairHeld, FairWindow}
use Rattle.rules.proofs.Turns.{any_weaker, any_counted, any_below}

-- records that are within their limits wherever they are held, are so in the window
pub fair_window : (p : Pool) (m : Meaning) → FairHeld p m → FairWindow p m
fair_window p m fair z a h low high below e = fair z a h below e

-- a threshold that rises lets fewer records pass
less_loud : (v r s : ℕ) (x : ℤ) → r ≤ s → lt_z (threshold v +ℤ pos (30 * s)) x ≡ true → lt_z (threshold v +ℤ pos (30 * r)) x ≡ true
less_loud v r s x h t = grind (arith, ints)

above_less : (v r s : ℕ) (x : ℤ) → r ≤ s → above v s x ≡ true → above v r x ≡ true
above_less v r s x h t =
    elim (eqb v 0) as (λ b. cond b true (cond (eqb v 66) false (lt_z (threshold v +ℤ pos (30 * s)) x)) ≡ true → cond b true (cond (eqb v 66) false (lt_z (threshold v +ℤ pos (30 * r)) x)) ≡ true) [
      | true ↦ λ t. refl
      | false ↦ λ t.
          elim (eqb v 66) as (λ b. cond b false (lt_z (threshold v +ℤ pos (30 * s)) x) ≡ true → cond b false (lt_z (threshold v +ℤ pos (30 * r)) x) ≡ true)
          [ true ↦ λ t. t | false ↦ λ t. less_loud v r s x h t ] t
    ] t

held_less : (p : Pool) (m : Meaning) (q : Question) (r s : ℕ) (c : Place) (z a : ℕ) (o : Option Held) → r ≤ s → held_reserves p m q s c z a o ≡ true → held_reserves p m q r c z a o ≡ true
held_less p m q r s c z a None h t = t
held_less p m q r s c z a (Some k) h t =
    let w = and_parts (above (level_of p q.priority k.what.priority) s k.rsrp) (any (λ i. takes q (interval p q) c k.what a (z + i * distance p k.what.code)) (range_with_len 0 (repeats p k.what.code (m.next - z) + 1))) t in
    and_from _ _ (above_less (level_of p q.priority k.what.priority) r s k.rsrp h w.0) w.1

-- what is reserved at a raise is reserved at every lower one
reserved_less : (p : Pool) (m : Meaning) (q : Question) (r s : ℕ) (c : Place) → r ≤ s → reserved_at p m q s c ≡ true → reserved_at p m q r c ≡ true
unfolding reserved_at
reserved_less p m q r s c h t =
    any_weaker _ (λ z. any (λ a. held_reserves p m q r c z a (m.held z a)) (range_with_len 0 p.channels)) (range_with_len (m.next - window p) (window p))
    (λ z. any_weaker (λ a. held_reserves p m q s c z a (m.held z a)) (λ a. held_reserves p m q r c z a (m.held z a)) (range_with_len 0 p.channels) (λ a. held_less p m q r s c z a (m.held z a) h)) t

pub survives_more : (p : Pool) (m : Meaning) (q : Question) (r s : ℕ) (c : Place) → r ≤ s → survives p m q r c ≡ true → survives p m q s c ≡ true
survives_more p m q r s c h t =
    let w = and_parts (not (blinded p m q c.at)) (not (reserved_at p m q r c)) t in
    let free = not-true _ w.1 in
    and_from _ _ w.0
    (⊎_elim
    (λ e. absurd (true≢false (sym (reserved_less p m q r s c h e) ∙ free)))
    (λ e. not_from_false _ e)
    (cases_Bool (reserved_at p m q s c)))

-- from 43 raises on no finite threshold is below an RSRP
silent : (v r : ℕ) (x : ℤ) → 1 ≤ v → 43 ≤ r → le_z x (pos 0) ≡ true → lt_z (threshold v +ℤ pos (30 * r)) x ≡ false
silent v r x some h low = grind (arith, ints)

above_last : (v r : ℕ) (x : ℤ) → 43 ≤ r → le_z x (pos 0) ≡ true → above v r x ≡ above v 43 x
above_last v r x h low =
    ⊎_elim
    (λ (e : eqb v 0 ≡ true). rw e)
    (λ (e : eqb v 0 ≡ false).
    let some : 1 ≤ v = omega (arith, eqb-false v 0 e) in
    let a = silent v r x some h low in
    let b = silent v 43 x some (omega arith) low in
    rw (e, a, b))
    (cases_Bool (eqb v 0))

held_last : (p : Pool) (m : Meaning) (q : Question) (r : ℕ) (c : Place) (z a : ℕ) (o : Option Held) → ((h : Held) → o ≡ Some h → Fair p.channels a h) → 43 ≤ r → held_reserves p m q r c z a o ≡ held_reserves p m q 43 c z a o
held_last p m q r c z a None fair h = refl
held_last p m q r c z a (Some k) fair h =
    ap (λ b. b && any (λ i. takes q (interval p q) c k.what a (z + i * distance p k.what.code)) (range_with_len 0 (repeats p k.what.code (m.next - z) + 1)))
    (above_last (level_of p q.priority k.what.priority) r k.rsrp h (and_parts _ _ (fair k refl).rsrp).1)

pub survives_last : (p : Pool) (m : Meaning) (q : Question) (r : ℕ) (c : Place) → FairWindow p m → 43 ≤ r → survives p m q r c ≡ survives p m q 43 c
unfolding reserved_at
survives_last p m q r c fair h =
    ap (λ b. not (blinded p m q c.at) && not b)
    (any_counted _ _ (m.next - window p) (window p)
    (λ z low high.
    any_below (λ a. held_reserves p m q r c z a (m.held z a)) (λ a. held_reserves p m q 43 c z a (m.held z a)) p.channels
    (λ a below. held_last p m q r c z a (m.held z a) (λ k e. fair z a k low high below e) h)))
