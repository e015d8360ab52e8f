use Rattle.std.proofs.Common.{true, false, not, [], ◌∷◌, sym, ap, ◌∙◌}
use Rattle.std.proofs.lemmas.Result.{err_from_is_err_and}
use Rattle.rules.specs.Sensing.{readings_ok, sent?, quiet_for}
use Rattle.rules.proofs.Answers.{inside_from}
use Rattle.sensing.specs.Memories.{mark_of}
use Rattle.sensing.proofs.Said.{stated}
use Rattle.sensing.proofs.Examine.{out_first, compared}
use Rattle.sensing.proofs.examine_readings.Goals as goal

pub returns-in_err-state : goal.returns-in_err-state
returns-in_err-state g c =
    let m = g.M.Asking.meaning c.args.m.now in
    let i = c.args.index in
    let rs = c.args.readings.now in
    let p = err_from_is_err_and c.from_residual.result c.from_residual.ensures.1 in
    rw (p.1, p.2)
    (out_first m i c.in_err-state.field-0.0 ((readings_ok m.channels rs, 32) ∷ (not (sent? (m.cell i)), 29) ∷ (quiet_for (m.cell i) rs, 33) ∷ []) c.in_err-state.ensures)

pub returns-in-Listened-2 : goal.returns-in-Listened-2
returns-in-Listened-2 g c =
    let m = g.M.Asking.meaning c.args.m.now in
    let s = stated m c.args.index _ c.in_ok-state.ensures in
    let ok = ap (λ n. readings_ok n c.args.readings.now) (sym c.channels.ensures) ∙ sym c.if-not-readings_ok.ensures in
    (compared m c.args.index c.args.readings.now false (g.M.Asking.sound c.args.m.now) s.inside (sym (ap mark_of c.in-Listened.is) ∙ s.value) ok c.if-same_readings.ensures).0

pub returns-in-Listened : goal.returns-in-Listened
returns-in-Listened g c =
    let m = g.M.Asking.meaning c.args.m.now in
    let s = stated m c.args.index _ c.in_ok-state.ensures in
    let ok = ap (λ n. readings_ok n c.args.readings.now) (sym c.channels.ensures) ∙ sym c.if-not-readings_ok.ensures in
    let w = compared m c.args.index c.args.readings.now true (g.M.Asking.sound c.args.m.now) s.inside (sym (ap mark_of c.in-Listened.is) ∙ s.value) ok c.if-same_readings.ensures in
    (w.0, inside_from m c.args.index s.inside, w.1)
