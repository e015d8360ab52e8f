use Rattle.std.proofs.Common.{◌≡◌, ℕ, ◌+◌, ◌-◌, ◌<◌, false, ◌||◌, List, length, get_or, replicate, sym, ap, ◌∙◌, subst, arith}
use Rattle.std.specs.List.{range_with_len}
use Rattle.std.proofs.lemmas.List.{get_or-replicate}
use Rattle.rules.specs.Calendar.{Pool, window}
use Rattle.rules.specs.Choose.{Question, blinds, blinded}
use Rattle.rules.specs.Counting.{any}
use Rattle.pool.specs.Pools.{meaning}
use Rattle.choosing.specs.Asked.{question_of}
use Rattle.choosing.specs.Fits.{index_of}
use Rattle.choosing.specs.Found.{slots_of}
use Rattle.choosing.specs.Searches.{pool_of, asked, slots}
use Rattle.choosing.specs.declared.Slot.{Slot}
use Rattle.choosing.proofs.Marking.{marked_more}
use Rattle.choosing.proofs.blinds.blinded.Goals as goal

pub loop-z-preserved : goal.loop-z-preserved
loop-z-preserved g c =
    let s = c.new-search.result in
    let m = g.M.Asking.meaning c.args.m.now in
    let low = c.next_index-next.result - c.window.result in
    let z = c.loop-z.z in
    let from = c.loop-z.auto.z in
    marked_more (slots s) (λ z y. blinds (pool_of s) m (asked s) y z) low (z - low) (z + 1 - low) z (replicate 100 false) c.loop-z.flags c.mark_index.new.flags (omega arith) (omega arith)
    c.loop-z.invariant
    c.mark_index.ensures

pub returns : goal.returns
unfolding blinded
returns g c early fits i l =
    let e = c.new-search.ensures in
    let s = c.new-search.result in
    let inside : i < length (slots s) = subst (λ xs. i < length xs) (sym e.slots) l in
    let few = s.few in
    let found = slots_of c.args.c.now in
    let m = g.M.Asking.meaning c.args.m.now in
    let p = meaning c.args.pool.now in
    let q = question_of c.args.q.now in
    let low = c.next_index-next.result - c.window.result in
    let n = c.next_index-next.ensures in
    let w = c.window.ensures in
    let old = (g.M.Asking.sound c.args.m.now).old in
    let first : low ≡ m.next - window p = omega arith in
    let many : c.loop-z.z - low ≡ window p = omega arith in
    let blank : get_or (replicate 100 false) i false ≡ false = get_or-replicate 100 i false false (omega arith) in
    let Said : Pool → Question → List Slot → ℕ → ℕ → Type 0 = λ p q xs a n. get_or c.loop-z.flags i false ≡ (get_or (replicate 100 false) i false || any (λ z. blinds p m q (index_of xs i) z) (range_with_len a n)) in
    let walked : Said (pool_of s) (asked s) (slots s) low (c.loop-z.z - low) = c.loop-z.invariant i inside in
    let by_question : Said p q (slots s) low (c.loop-z.z - low) = subst (λ t. Said p (question_of t) (slots s) low (c.loop-z.z - low)) e.question (subst (λ t. Said (meaning t) (asked s) (slots s) low (c.loop-z.z - low)) e.pool walked) in
    let by_slots : Said p q found low (c.loop-z.z - low) = subst (λ xs. Said p q xs low (c.loop-z.z - low)) e.slots by_question in
    let by_window : Said p q found (m.next - window p) (window p) = subst (Said p q found (m.next - window p)) many (subst (λ a. Said p q found a (c.loop-z.z - low)) first by_slots) in
    by_window ∙ ap (λ b. b || any (λ z. blinds p m q (index_of found i) z) (range_with_len (m.next - window p) (window p))) blank
