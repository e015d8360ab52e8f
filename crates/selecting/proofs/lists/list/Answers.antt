use Rattle.std.proofs.Common.{◌≡◌, ◌+◌, ◌*◌, [], ◌∷◌, ◌++◌, map, length, get_or, drop, sym, ap, ◌∙◌, add-mul, one-mul, arith, length-append}
use Rattle.std.specs.List.{range_with_len}
use Rattle.std.proofs.lemmas.List.{length_push}
use Rattle.std.proofs.lemmas.List.FromFn.{length-map-range_with_len}
use Rattle.choosing.specs.Found.{slots_of}
use Rattle.choosing.specs.Slots.{origin}
use Rattle.selecting.specs.Lists.{entry_at, row_of, rows_of}
use Rattle.selecting.proofs.Rows.{rows_more, turn}
use Rattle.selecting.proofs.lists.list.Goals as goal

pub loop-slot-preserved : goal.loop-slot-preserved
loop-slot-preserved c =
    let a = c.args in
    let v = c.loop-slot.invariant in
    let w = c.in-Some.ensures.steps in
    let n = length c.loop-slot.yielded in
    let slots = slots_of a.found.now in
    let width = c.width-width.result in
    let before = c.loop-slot.entries.items in
    let slot = turn slots _ _ c.in-Some.slot.now n v.2 w.0.0 in
    let needs = turn a.needs.now _ _ c.in-Some.needs.now n v.3 w.0.1 in
    let means = turn a.means.now _ _ c.in-Some.means.now n v.4 w.1 in
    let made = entry_at c.in-Some.slot.now c.in-Some.needs.now c.in-Some.means.now in
    let more = length_push c.loop-slot.yielded ((c.in-Some.slot, c.in-Some.needs), c.in-Some.means) in
    let next : length (c.loop-slot.yielded ++ ((c.in-Some.slot, c.in-Some.needs), c.in-Some.means) ∷ []) ≡ n + 1 = omega arith in (
      c.list_slot.ensures
          ∙ ap (λ s. before ++ map (entry_at s c.in-Some.needs.now c.in-Some.means.now) (range_with_len 0 width)) (slot.0 origin)
          ∙ ap (λ k. before ++ map (entry_at (get_or slots n origin) k c.in-Some.means.now) (range_with_len 0 width)) (needs.0 [])
          ∙ ap (λ m. before ++ map (entry_at (get_or slots n origin) (get_or a.needs.now n []) m) (range_with_len 0 width)) (means.0 [])
          ∙ ap (λ xs. xs ++ row_of slots width a.needs.now a.means.now n) v.0
          ∙ sym (rows_more (row_of slots width a.needs.now a.means.now) n)
          ∙ ap (rows_of slots width a.needs.now a.means.now) (sym next),
      omega (arith, ap length c.list_slot.ensures, length-append before (map made (range_with_len 0 width)), length-map-range_with_len made 0 width, v.1, ap (λ k. k * width) next, add-mul n 1 width, one-mul width),
      slot.1 ∙ ap (λ k. drop k slots) (sym next),
      needs.1 ∙ ap (λ k. drop k a.needs.now) (sym next),
      means.1 ∙ ap (λ k. drop k a.means.now) (sym next),
    )
