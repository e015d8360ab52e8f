use Rattle.std.proofs.Common.{Ok, sym, refl, ap, ◌∙◌}
use Rattle.rules.specs.Sensing.{mark, index_questions}
use Rattle.rules.proofs.Accepted.{answer_yes}
use Rattle.sensing.specs.Memories.{mark_of}
use Rattle.memory.specs.Rings.{alone}
use Rattle.memory.proofs.RowCells.{stood_cell, blank_cell}
use Rattle.memory.proofs.ring.Ring.state.Goals as goal

pub returns-then-not-stands : goal.returns-then-not-stands
returns-then-not-stands c =
    let r = c.args.self.now in
    let m = alone r in
    let i = c.args.index in
    ap (λ x. Ok (mark x)) (sym (blank_cell r.channels r.window r.rows.now r.readings.now i (sym c.if-not-stands.ensures)))
    ∙ sym (answer_yes (index_questions m i) (mark (m.cell i)) refl (sym c.in_ok-ask.ensures))

pub returns : goal.returns
returns c =
    let r = c.args.self.now in
    let m = alone r in
    let i = c.args.index in
    ap (λ row. Ok (mark_of row.state)) c.read.ensures
    ∙ ap (λ x. Ok x) (sym (stood_cell r.channels r.window r.rows.now r.readings.now i (sym c.if-not-stands.ensures)))
    ∙ sym (answer_yes (index_questions m i) (mark (m.cell i)) refl (sym c.in_ok-ask.ensures))
