-- What one call does to a dense memory. Assumes nothing.
use Rattle.std.proofs.Common.{◌≡◌, ℕ, ◌+◌, ◌*◌, ◌%◌, ◌<◌, ◌≤◌, List, length, get_or, set, replicate, Some, None, Option, sym, refl, ap, ◌∙◌, subst, ⊎_elim, mul-le-mul_right, one-mul, arith}
use Rattle.std.proofs.lemmas.List.{get_or-set_same, get_or-set_other}
use Rattle.std.proofs.lemmas.Bool.{cases_eq}
use Rattle.rules.specs.Sensing.{Cell, Inside, New, Sound, Moved, Added, Changed, held_count}
use Rattle.rules.proofs.HeldCount.{held_count_le}
use Rattle.sensing.specs.Memories.{option_held_of, held_of}
use Rattle.sensing.specs.declared.Held.{Held}
use Rattle.sensing.specs.declared.State.{State}
use Rattle.memory.specs.declared.ring.Ring.{Ring}
use Rattle.memory.specs.RowCells.{Near}
use Rattle.memory.specs.Rings.{alone, stamped, place, Same, Slid, Written}
use Rattle.memory.proofs.RowCells.{slots_apart, block_below}
use Rattle.memory.proofs.RingSteps.{near, frame, place_same, room_same, written_here, written_other, slid_cells, slid_stamped, slid_past, empty_sound}
use Rattle.memory.specs.DensePlaces.{meant, held_at, Owned}
use Rattle.memory.proofs.DenseHeld.{held_same, held_stamped, held_unstamped, place_one, past_unstamped, empty_none}

-- a dense memory has a place for each record that can be held
pub room_enough : (r : Ring) (places : List (Option Held)) → held_count (meant r places) ≤ (r.window + 1) * r.channels
room_enough r places = held_count_le (meant r places)

-- a slide only sets the next index
pub moves : (to : ℕ) (r r' : Ring) (places : List (Option Held)) → Slid to r r' → Moved (meant r places) to (meant r' places)
moves to r r' places s =
    record {
      frame = frame to r r' s.same _ _ (held_at r places) (held_at r' places) (room_same to r r' s.same);
      cells = λ i inside low. slid_cells to r r' s i;
      records = λ i a inside low less. held_same r r' places places i a (slid_stamped to r r' s i) (ap (λ k. get_or places k None) (place_same to r r' s.same i a));
      fresh = λ i inside past. slid_past to r r' s i past;
      clear = λ i a inside past less. held_unstamped r' places i a (slid_stamped to r r' s i ∙ past_unstamped r i past);
    }

-- the row of index i was made its own, and then
module _ (i : ℕ) (r r₁ : Ring) (places places₁ : List (Option Held)) (inside : Inside (alone r) i) (own : Owned i r places r₁ places₁) where
  beside : (j : ℕ) → Inside (alone r) j → Near r₁.window i j
  beside j in-j = let w = near r i j inside in-j in (omega (arith, w.0, own.same.window), omega (arith, w.1, own.same.window))

  -- another cell is written
  module _ (s : State) (c : Cell) (r₂ : Ring) (done : Written i s c r₁ r₂) where
    pub same_after : Same r.next r r₂
    same_after = record { channels = done.same.channels ∙ own.same.channels; window = done.same.window ∙ own.same.window; next = done.same.next ∙ own.same.next }

    stamp : (j : ℕ) → Inside (alone r) j → stamped r₂ j ≡ stamped r₁ j
    stamp j in-j =
        ⊎_elim
        (λ e. subst (λ k. stamped r₂ k ≡ stamped r₁ k) (sym e) (written_here i s c r₁ r₂ done ∙ sym own.here))
        (λ ne. written_other i s c r₁ r₂ done j (beside j in-j) ne)
        (cases_eq j i)

    pub cell_changed : Changed (meant r places) i c (meant r₂ places₁)
    cell_changed =
        record {
          frame = frame r.next r r₂ same_after _ _ (held_at r places) (held_at r₂ places₁) (room_same r.next r r₂ same_after);
          here = done.here;
          others = λ j in-j ne. done.others j (beside j in-j) ne ∙ own.cells j (near r i j inside in-j);
          records = λ j a in-j l.
              held_same r₁ r₂ places₁ places₁ j a (stamp j in-j) (ap (λ k. get_or places₁ k None) (place_same r₁.next r₁ r₂ done.same j a))
              ∙ own.held j a (near r i j inside in-j) l;
        }

  -- a record is written
  module _ (a : ℕ) (h : Held) (below : a < r.channels) (deep : (r.window + 1) * r.channels ≤ length places₁) where
    pub record_added : Added (meant r places) i a (held_of h) (meant r₁ (set places₁ (place r₁ i a) (Some h)))
    record_added =
        let at = place r₁ i a in
        let less : a < r₁.channels = omega (arith, own.same.channels) in
        let fits : (r₁.window + 1) * r₁.channels ≤ length places₁ = omega (arith, room_same r.next r r₁ own.same) in
        record {
          frame = frame r.next r r₁ own.same _ _ (held_at r places) (held_at r₁ (set places₁ at (Some h))) (room_same r.next r r₁ own.same);
          cells = λ j in-j. own.cells j (near r i j inside in-j);
          here =
              held_stamped r₁ (set places₁ at (Some h)) i a own.here
              ∙ ap option_held_of (get_or-set_same places₁ at (Some h) None (omega (arith, block_below r₁.window r₁.channels i (length places₁) fits)));
          others = λ j b in-j l ne.
              held_same r₁ r₁ places₁ (set places₁ at (Some h)) j b refl
              (get_or-set_other places₁ at (place r₁ j b) (Some h) None
              (λ e.
              let one = place_one r₁.channels (j % (r₁.window + 1)) (i % (r₁.window + 1)) a b less (omega (arith, own.same.channels)) e in
              ⊎_elim (λ p. ne (p, one.1)) (λ p. slots_apart r₁.window i j (beside j in-j) p one.0) (cases_eq j i)))
              ∙ own.held j b (near r i j inside in-j) l;
        }

-- a new memory
module _ (n w k : ℕ) (r : Ring) (places : List (Option Held)) (ring : New n w 0 (alone r)) (none : places ≡ replicate k None) where
  pub new_room : (r.window + 1) * r.channels ≡ (w + 1) * n
  new_room = ap (λ x. (x + 1) * r.channels) ring.window ∙ ap (λ x. (w + 1) * x) ring.channels

  pub is_new : New n w ((w + 1) * n) (meant r places)
  is_new =
      record {
        channels = ring.channels;
        window = ring.window;
        next = ring.next;
        places = new_room;
        nothing = record { cells = ring.nothing.cells; records = λ i a in-i l. empty_none r k places i a none };
      }

  pub new_sound : 1 ≤ n → n ≤ 20 → Sound (meant r places)
  new_sound some few =
      let one : 1 ≤ r.window + 1 = omega arith in
      let many : 1 ≤ r.channels = omega (arith, ring.channels) in
      empty_sound (meant r places) is_new.nothing many (omega (arith, ring.channels)) r.short (omega (arith, ring.window, ring.next)) (omega (arith, mul-le-mul_right r.channels one, one-mul r.channels)) (room_enough r places)
