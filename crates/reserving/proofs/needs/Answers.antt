use Rattle.std.proofs.Common.{◌≡◌, ℕ, ◌-◌, ◌<◌, ◌≤◌, Bool, true, false, not, ◌&&◌, ◌||◌, List, [], length, get_or, replicate, refl, ap, ◌∙◌, subst, arith}
use Rattle.std.specs.List.{range_with_len}
use Rattle.std.proofs.lemmas.List.{get_or-replicate}
use Rattle.std.proofs.lemmas.Bool.{le-ltb}
use Rattle.rules.specs.Calendar.{Pool}
use Rattle.rules.specs.Choose.{Question, Place, reserved_at, blinded}
use Rattle.rules.specs.Counting.{any}
use Rattle.rules.specs.Sensing.{Meaning}
use Rattle.pool.specs.Pools.{meaning}
use Rattle.choosing.specs.Asked.{question_of}
use Rattle.choosing.specs.Fits.{Fit, place_of}
use Rattle.choosing.specs.Found.{slots_of}
use Rattle.choosing.specs.Searches.{asked, slots}
use Rattle.choosing.specs.declared.Slot.{Slot}
use Rattle.reserving.specs.Lifts.{Lifted, by_resource, by_window}
use Rattle.reserving.specs.Needs.{bars, at}
use Rattle.reserving.specs.declared.Need.{Need}
use Rattle.reserving.specs.declared.Need.TheVariants.{From}
use Rattle.reserving.proofs.needs.Goals as goal

neither : (w b : Bool) → not ((false || w) || b) ≡ (not b && not w)
neither true true = refl
neither true false = refl
neither false true = refl
neither false false = refl

-- a need that barred nothing, then by what is reserved and then by what is blinded
settled : (r : ℕ) (old mid new : Need) (w w' b b' : Bool) → bars old r ≡ false → bars mid r ≡ (bars old r || w) → bars new r ≡ (bars mid r || b) → w ≡ w' → b ≡ b' → not (bars new r) ≡ (not b' && not w')
settled r old mid new w w' b b' none first second same same' =
    ap not (second ∙ ap (λ t. t || b) (first ∙ ap (λ t. t || w) none))
    ∙ neither w b
    ∙ ap (λ t. not t && not w) same'
    ∙ ap (λ t. not b' && not t) same

-- before anything is lifted, no need bars
empty : (i x r : ℕ) → i < 100 → x < 20 → bars (at (replicate 100 (replicate 20 (From 0))) i x) r ≡ false
empty i x r l k =
    ap (λ row. bars (get_or row x (From 0)) r) (get_or-replicate 100 i (replicate 20 (From 0)) [] l)
    ∙ ap (λ n. bars n r) (get_or-replicate 20 x (From 0) (From 0) k)
    ∙ le-ltb r 0 (omega arith)

-- what the window of a memory that fits reserves is reserved
all_reserved : (p : Pool) (m : Meaning) (q : Question) (r : ℕ) (c : Place) → Fit p m → by_window p m q (m.next - m.window) m.window r c ≡ reserved_at p m q r c
unfolding reserved_at
all_reserved p m q r c fit =
    ap (λ n. any (λ z. any (λ a. by_resource p m q z a r c) (range_with_len 0 n)) (range_with_len (m.next - m.window) m.window)) fit.channels
    ∙ ap (λ w. any (λ z. any (λ a. by_resource p m q z a r c) (range_with_len 0 p.channels)) (range_with_len (m.next - w) w)) fit.window

pub returns : goal.returns
returns g c fit low i x r l k =
    let e = c.new.ensures in
    let s = c.new.result in
    let m = g.M.Asking.meaning c.args.m.now in
    let p = meaning c.args.pool.now in
    let q = question_of c.args.q.now in
    let found = slots_of c.args.c.now in
    let place = place_of found i x in
    let zeros : List (List Need) = replicate 100 (replicate 20 (From 0)) in
    let most : length found ≤ 100 = subst (λ xs. length xs ≤ 100) e.slots s.few in
    let By : Pool → Question → List Slot → Type 0 = λ p q xs. Lifted xs (by_window p m q (m.next - m.window) m.window) zeros c.lift_window.new.rows in
    let lifted : By p q found = subst (By p q) e.slots (subst (λ t. By p (question_of t) (slots s)) e.question (subst (λ t. By (meaning t) (asked s) (slots s)) e.pool c.lift_window.ensures)) in
    settled r (at zeros i x) (at c.lift_window.new.rows i x) (at c.lift_blinded.new.rows i x) (by_window p m q (m.next - m.window) m.window r place) (reserved_at p m q r place) (get_or c.blinded-flags.result i false) (blinded p m q place.at)
    (empty i x r (omega arith) k)
    (lifted i x r l k)
    (c.lift_blinded.ensures i x r (omega arith) k)
    (all_reserved p m q r place fit)
    (c.blinded-flags.ensures fit.early fit.window i l)
