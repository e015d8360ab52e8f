use Rattle.std.proofs.Common.{◌≡◌, ◌<◌, get_or, Some, Ok, sym, refl, ap, ◌∙◌, arith, rules}
use Rattle.std.proofs.lemmas.Bool.{ltb-true}
use Rattle.rules.specs.Sensing.{resource_questions, reading_in}
use Rattle.rules.proofs.Accepted.{yes_at, answer_yes}
use Rattle.sensing.specs.Memories.{mark_of}
use Rattle.sensing.specs.declared.State.TheVariants.{Listened}
use Rattle.sensing.proofs.Said.{stated}
use Rattle.memory.specs.Rings.{alone}
use Rattle.memory.proofs.RowCells.{reading_there}
use Rattle.memory.proofs.ring.Ring.reading.Goals as goal

pub returns : goal.returns
returns c =
    let r = c.args.self.now in
    let m = alone r in
    let i = c.args.index in
    let a = c.args.resource in
    let asked = sym c.in_ok-ask_at.ensures in
    let below : a < r.channels = ltb-true _ _ (yes_at (resource_questions m i a) refl asked 1 (omega arith)) in
    let is : c.in_ok-state.field-0 ≡ Listened = search rules in
    let heard = sym (ap mark_of is) ∙ (stated m i _ c.in_ok-state.ensures).value in
    ap (λ k. Ok (Some (get_or r.readings.now k 0))) c.place.ensures
    ∙ ap (λ o. Ok o) (reading_there r.channels r.window r.rows.now r.readings.now i a below heard)
    ∙ sym (answer_yes (resource_questions m i a) (reading_in (m.cell i) a) refl asked)
