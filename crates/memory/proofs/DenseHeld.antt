-- What a write to a ring and places leaves of the records. Assumes nothing.
use Rattle.std.proofs.Common.{◌≡◌, ℕ, zero, suc, ◌+◌, ◌*◌, ◌/◌, ◌%◌, ◌<◌, ◌≤◌, true, false, cond, ◌⊎◌, List, length, get_or, replicate, None, Option, sym, refl, ap, ◌∙◌, subst, inl, inr, ⊎_elim, arith}
use borrow.Rule.Slice.PartMut.{put_mid}
use Rattle.std.proofs.lemmas.Nat.{div-mul-add, mod-mul-add}
use Rattle.std.proofs.lemmas.List.{length-replicate}
use Rattle.std.proofs.lemmas.Slice.{put_mid-paste}
use Rattle.std.proofs.lemmas.Grind.{elements}
use Rattle.std.proofs.lemmas.Bool.{cases_lt, cases_Bool, cases_eq, cond-true, cond-false, ne_eqb}
use Rattle.sensing.specs.Memories.{option_held_of}
use Rattle.sensing.specs.declared.Held.{Held}
use Rattle.memory.specs.declared.ring.Ring.{Ring}
use Rattle.memory.specs.RowCells.{row_at}
use Rattle.memory.specs.Rings.{stamped, place, Claimed}
use Rattle.memory.specs.DensePlaces.{held_at, Owned}
use Rattle.memory.proofs.RowCells.{slots_apart, slot_below, blocks_apart}
use Rattle.memory.proofs.RingSteps.{place_same, claimed_here, claimed_other}

-- places that are one are of one row and one resource
pub place_one : (n k s a b : ℕ) → a < n → b < n → k * n + b ≡ s * n + a → (k ≡ s) × (b ≡ a)
place_one n k s a b l h e = (
  sym (div-mul-add k n b h) ∙ ap (λ x. x / n) e ∙ div-mul-add s n a l,
  sym (mod-mul-add k n b h) ∙ ap (λ x. x % n) e ∙ mod-mul-add s n a l,
)

-- the record goes by the stamp and the place alone
pub held_same : (r r' : Ring) (places places' : List (Option Held)) (j a : ℕ) → stamped r' j ≡ stamped r j → get_or places' (place r' j a) None ≡ get_or places (place r j a) None → held_at r' places' j a ≡ held_at r places j a
unfolding held_at
held_same r r' places places' j a e f =
    ap (λ b. cond b (option_held_of (get_or places' (place r' j a) None)) None) e ∙ ap (λ (o : Option Held). cond (stamped r j) (option_held_of o) None) f

pub held_stamped : (r : Ring) (places : List (Option Held)) (i a : ℕ) → stamped r i ≡ true → held_at r places i a ≡ option_held_of (get_or places (place r i a) None)
unfolding held_at
held_stamped r places i a e = cond-true _ _ _ e

pub held_unstamped : (r : Ring) (places : List (Option Held)) (i a : ℕ) → stamped r i ≡ false → held_at r places i a ≡ None
unfolding held_at
held_unstamped r places i a e = cond-false _ _ _ e

-- the row of index i is claimed
module _ (i : ℕ) (r r' : Ring) (places : List (Option Held)) (done : Claimed i r r') where
  -- it was the index's already
  pub owns_already : stamped r i ≡ true → Owned i r places r' places
  owns_already was =
      record {
        same = done.same;
        here = claimed_here i r r' done;
        cells = done.cells;
        held = λ j a near l.
            held_same r r' places places j a
            (⊎_elim
            (λ e. subst (λ k. stamped r' k ≡ stamped r k) (sym e) (claimed_here i r r' done ∙ sym was))
            (λ ne. claimed_other i r r' done j near ne)
            (cases_eq j i))
            (ap (λ k. get_or places k None) (place_same r.next r r' done.same j a));
      }

  -- it was another's, and its places are cleared
  pub owns_now : (places' : List (Option Held)) → stamped r i ≡ false → ((k : ℕ) → place r' i 0 ≤ k → k < place r' i 0 + r'.channels → get_or places' k None ≡ None) → ((k : ℕ) → (k < place r' i 0) ⊎ (place r' i 0 + r'.channels ≤ k) → get_or places' k None ≡ get_or places k None) → Owned i r places r' places'
  owns_now places' was gone others =
      let at = i % (r.window + 1) * r.channels in
      let start : place r' i 0 ≡ at = place_same r.next r r' done.same i 0 ∙ omega arith in
      let same = done.same in
      record {
        same = same;
        here = claimed_here i r r' done;
        cells = done.cells;
        held = λ j a near l.
            ⊎_elim
            (λ e.
            subst
            (λ k. held_at r' places' k a ≡ held_at r places k a)
            (sym e)
            (held_stamped r' places' i a (claimed_here i r r' done)
            ∙ ap option_held_of (gone (place r' i a) (omega arith) (omega (arith, same.channels)))
            ∙ sym (held_unstamped r places i a was)))
            (λ ne.
            held_same r r' places places' j a (claimed_other i r r' done j near ne)
            (others
            (place r' j a)
            (⊎_elim
            (λ (h : j % (r.window + 1) < i % (r.window + 1)). inl (omega (arith, start, place_same r.next r r' same j a, blocks_apart r.channels (j % (r.window + 1)) (i % (r.window + 1)) h)))
            (λ (h : i % (r.window + 1) ≤ j % (r.window + 1)).
            let more : i % (r.window + 1) < j % (r.window + 1) = omega (arith, slots_apart r.window i j near ne) in
            inr (omega (arith, start, same.channels, place_same r.next r r' same j a, blocks_apart r.channels (i % (r.window + 1)) (j % (r.window + 1)) more)))
            (cases_lt (j % (r.window + 1)) (i % (r.window + 1))))
            ∙ ap (λ k. get_or places k None) (place_same r.next r r' same j a)))
            (cases_eq j i);
      }

-- a part of the places, after it was cleared
module _ (at n : ℕ) (places part : List (Option Held)) (room : at + n ≤ length places) (is : part ≡ replicate n None) where
  pub part_gone : (k : ℕ) → at ≤ k → k < at + n → get_or (put_mid at n places part) k None ≡ None
  part_gone k low high = let e = put_mid-paste at n places part (replicate n None) n is refl (sym (length-replicate n None)) in grind (arith, elements)

  pub part_others : (k : ℕ) → (k < at) ⊎ (at + n ≤ k) → get_or (put_mid at n places part) k None ≡ get_or places k None
  part_others k side = let e = put_mid-paste at n places part (replicate n None) n is refl (sym (length-replicate n None)) in grind (arith, elements)

-- no record is of an index past next, and where every place is cleared none is held
pub past_unstamped : (r : Ring) (i : ℕ) → r.next < i → stamped r i ≡ false
past_unstamped r i past =
    let low : (row_at r.window r.rows.now i).index ≤ r.next = r.upto (i % (r.window + 1)) (slot_below r.window i (length r.rows.now) r.long) in
    ne_eqb _ _ (λ (e : (row_at r.window r.rows.now i).index ≡ i). omega arith)

all_none : (n k : ℕ) → get_or (replicate {A = Option Held} n None) k None ≡ None
all_none zero k = refl
all_none (suc n) zero = refl
all_none (suc n) (suc k) = all_none n k

pub empty_none : (r : Ring) (n : ℕ) (places : List (Option Held)) (i a : ℕ) → places ≡ replicate n None → held_at r places i a ≡ None
unfolding held_at
empty_none r n places i a is =
    let o : option_held_of (get_or places (place r i a) None) ≡ None = ap option_held_of (ap (λ l. get_or l (place r i a) None) is ∙ all_none n (place r i a)) in
    ⊎_elim (λ e. cond-true _ _ _ e ∙ o) (λ e. cond-false _ _ _ e) (cases_Bool (stamped r i))
