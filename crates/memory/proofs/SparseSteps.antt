-- What one call does to a sparse memory. Assumes nothing.
use Rattle.std.proofs.Common.{◌≡◌, ℕ, ◌-◌, ◌<◌, ◌≤◌, Bool, true, false, cond, ltb, List, length, Some, None, Option, refl, ap, ◌∙◌, arith}
use Rattle.std.proofs.lemmas.List.{length-map}
use Rattle.std.proofs.lemmas.Bool.{le-ltb, lt-ltb, le-leb, and_from, cond-false}
use Rattle.rules.specs.Sensing.{Cell, listened, sent, Inside, Sound, Fair, New, Moved, Added, Changed, readings_ok, held_count}
use Rattle.rules.proofs.Soundness.{moved_sound, added_sound, listened_sound, sent_sound}
use Rattle.sensing.specs.Memories.{held_of, option_held_of}
use Rattle.sensing.specs.declared.Held.{Held}
use Rattle.sensing.specs.declared.State.{State}
use Rattle.memory.specs.declared.ring.Ring.{Ring}
use Rattle.memory.specs.Rings.{alone, cells, Same, Slid, Written}
use Rattle.memory.proofs.RingSteps.{frame, changed, slid_cells, slid_past, empty_sound}
use Rattle.memory.specs.EntryPlaces.{find, apart, live, used, kept_from, Put, Dropped, Emptied}
use Rattle.memory.specs.declared.entries.Entry.{Entry}
use Rattle.memory.proofs.EntryPutting.{used_le}
use Rattle.memory.proofs.EntryLiving.{none_past}
use Rattle.memory.proofs.EntryCounted.{counted}
use Rattle.memory.specs.SparseParts.{held_at, meant}

-- what holds of the ring and the places of every memory
pub record Whole (r : Ring) (ps : List (Option Entry)) : Type 0 where
  pub keys : apart ps ≡ true
  pub lives : live r.channels (r.next - r.window) r.next ps ≡ true
  pub sound : Sound (meant r ps)

-- entries that live in the window of a ring live in that of another with the same numbers
live_same : (n : ℕ) (r r' : Ring) (ps : List (Option Entry)) → Same n r r' → live r.channels (n - r.window) n ps ≡ true → live r'.channels (r'.next - r'.window) r'.next ps ≡ true
live_same n r r' ps same t =
    ap (λ k. live k (r'.next - r'.window) r'.next ps) same.channels
    ∙ ap (λ w. live r.channels (r'.next - w) r'.next ps) same.window
    ∙ ap (λ m. live r.channels (m - r.window) m ps) same.next
    ∙ t

-- as many records are held as places are taken
pub held_used : (r : Ring) (ps : List (Option Entry)) → r.window ≤ r.next → apart ps ≡ true → live r.channels (r.next - r.window) r.next ps ≡ true → held_count (meant r ps) ≡ used ps
unfolding held_count held_at
held_used r ps old keys lives = counted r.channels r.window r.next ps old keys lives

within_room : (r : Ring) (ps : List (Option Entry)) → r.window ≤ r.next → apart ps ≡ true → live r.channels (r.next - r.window) r.next ps ≡ true → held_count (meant r ps) ≤ length ps
within_room r ps old keys lives = let e = held_used r ps old keys lives in let l = used_le ps in omega arith

pub found_none : (ps : List (Option Entry)) (i a : ℕ) → held_at ps i a ≡ None → find ps i a ≡ None
unfolding held_at
found_none ps i a e = none (find ps i a) e where
  none : (o : Option Held) → option_held_of o ≡ None → o ≡ None
  none None e = refl
  none (Some h) e = let z : ◌≡◌ {A = ℕ} 0 1 = cc in absurd (omega arith)

cond_none : {A : Type 0} (b : Bool) (o : Option A) → o ≡ None → cond b None o ≡ None
cond_none true o e = refl
cond_none false o e = e

-- slide
module _ (r r' : Ring) (to : ℕ) (ps qs : List (Option Entry)) (whole : Whole r ps) (on : r.next ≤ to) (s : Slid to r r') (d : Dropped (to - r.window) ps qs) where
  pub slid : Moved (meant r ps) to (meant r' qs)
  unfolding held_at
  slid =
      record {
        frame = frame to r r' s.same (length ps) (length qs) (held_at ps) (held_at qs) (ap length d.places ∙ length-map ps (kept_from (to - r.window)));
        cells = λ i in-i l. slid_cells to r r' s i;
        records = λ i a in-i l b.
            let low : to - r.window ≤ i = omega (arith, in-i.0, s.same.window, s.same.next) in
            ap option_held_of (d.found i a ∙ cond-false _ None (find ps i a) (le-ltb i (to - r.window) low));
        fresh = λ i in-i l. slid_past to r r' s i l;
        clear = λ i a in-i l b. ap option_held_of (d.found i a ∙ cond_none (ltb i (to - r.window)) (find ps i a) (none_past r.channels (r.next - r.window) r.next ps i a whole.lives l));
      }

  pub slid_whole : Whole r' qs
  slid_whole =
      let keys : apart qs ≡ true = d.keys whole.keys in
      let lives = live_same to r r' qs s.same (d.lives r.channels (r.next - r.window) r.next to whole.lives on) in
      let old : r'.window ≤ r'.next = omega (arith, whole.sound.old, s.same.window, s.same.next) in
      record { keys = keys; lives = lives; sound = moved_sound _ to _ whole.sound on slid (within_room r' qs old keys lives) }

-- keep record, in a free place
module _ (r : Ring) (i a : ℕ) (h : Held) (ps qs : List (Option Entry)) (whole : Whole r ps) (inside : Inside (alone r) i) (below : a < r.channels) (fair : Fair r.channels a (held_of h)) (quiet : cells r i ≡ sent → ⊥) (free : find ps i a ≡ None) (p : Put ps (record { index = i; resource = a; held = h }) qs) where
  pub put_added : Added (meant r ps) i a (held_of h) (meant r qs)
  unfolding held_at
  put_added =
      record {
        frame = record { channels = refl; window = refl; places = p.size; next = refl };
        cells = λ j in-j. refl;
        here = ap option_held_of (p.here free);
        others = λ j b in-j l ne. ap option_held_of (p.others j b ne);
      }

  pub put_whole : Whole r qs
  put_whole =
      let low : r.next - r.window ≤ i = let l = inside.0 in omega arith in
      let keys : apart qs ≡ true = p.keys whole.keys free in
      let in_window = and_from _ _ (le-leb _ _ low) (and_from _ _ (le-leb _ _ inside.1) (lt-ltb _ _ below)) in
      let lives : live r.channels (r.next - r.window) r.next qs ≡ true = p.lives r.channels (r.next - r.window) r.next whole.lives in_window in
      record {
        keys = keys;
        lives = lives;
        sound = added_sound _ i a (held_of h) _ whole.sound fair quiet put_added (within_room r qs whole.sound.old keys lives);
      }

-- another cell: keep readings and mark sent
module _ (i : ℕ) (s : State) (c : Cell) (r r' : Ring) (ps : List (Option Entry)) (whole : Whole r ps) (inside : Inside (alone r) i) (d : Written i s c r r') where
  pub written : Changed (meant r ps) i c (meant r' ps)
  written = changed i s c r r' d inside (length ps) (length ps) (held_at ps) (held_at ps) refl (λ j a in-j l. refl)

  lives_still : live r'.channels (r'.next - r'.window) r'.next ps ≡ true
  lives_still = live_same r.next r r' ps d.same whole.lives

  written_whole : Sound (meant r' ps) → Whole r' ps
  written_whole sound = record { keys = whole.keys; lives = lives_still; sound = sound }

  room_after : held_count (meant r' ps) ≤ length ps
  room_after = within_room r' ps (omega (arith, whole.sound.old, d.same.window, d.same.next)) whole.keys lives_still

pub sent_whole : (i : ℕ) (s : State) (r r' : Ring) (ps : List (Option Entry)) (whole : Whole r ps) (inside : Inside (alone r) i) → ((a : ℕ) → a < r.channels → held_at ps i a ≡ None) → Written i s sent r r' → Whole r' ps
sent_whole i s r r' ps whole inside none d =
    written_whole i s sent r r' ps whole inside d
    (sent_sound _ i _ whole.sound none (written i s sent r r' ps whole inside d) (room_after i s sent r r' ps whole inside d))

pub heard_whole : (i : ℕ) (s : State) (rs : List ℕ) (r r' : Ring) (ps : List (Option Entry)) (whole : Whole r ps) (inside : Inside (alone r) i) → readings_ok r.channels rs ≡ true → Written i s (listened rs) r r' → Whole r' ps
heard_whole i s rs r r' ps whole inside ok d =
    written_whole i s (listened rs) r r' ps whole inside d
    (listened_sound _ i rs _ whole.sound ok (written i s (listened rs) r r' ps whole inside d) (room_after i s (listened rs) r r' ps whole inside d))

-- a new memory
module _ (n w : ℕ) (r : Ring) (ps : List (Option Entry)) (ring : New n w 0 (alone r)) (bare : Emptied ps) where
  pub is_new : New n w (length ps) (meant r ps)
  unfolding held_at
  is_new =
      record {
        channels = ring.channels;
        window = ring.window;
        next = ring.next;
        places = refl;
        nothing = record { cells = ring.nothing.cells; records = λ i a in-i l. ap option_held_of (bare.found i a) };
      }

  pub new_whole : 1 ≤ n → n ≤ 20 → 1 ≤ length ps → Whole r ps
  new_whole some few deep =
      let lives = bare.lives r.channels (r.next - r.window) r.next in
      let old : r.window ≤ r.next = omega (arith, ring.window, ring.next) in
      record {
        keys = bare.keys;
        lives = lives;
        sound = empty_sound (meant r ps) is_new.nothing (omega (arith, ring.channels)) (omega (arith, ring.channels)) r.short old deep (within_room r ps old bare.keys lives);
      }
