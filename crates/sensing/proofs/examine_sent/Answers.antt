use Rattle.std.proofs.Common.{not, ◌&&◌, [], ◌∷◌, is_some}
use Rattle.std.proofs.lemmas.Result.{err_from_is_err_and}
use Rattle.rules.specs.Counting.{all_below}
use Rattle.rules.specs.Sensing.{blank?}
use Rattle.sensing.proofs.Examine.{out_first}
use Rattle.sensing.proofs.examine_sent.Goals as goal

pub returns-in_err-state : goal.returns-in_err-state
returns-in_err-state g c =
    let m = g.M.Asking.meaning c.args.m.now in
    let i = c.args.index in
    let p = err_from_is_err_and c.from_residual.result c.from_residual.ensures.1 in
    rw (p.1, p.2)
    (out_first m i c.in_err-state.field-0.0 ((blank? (m.cell i) && all_below (λ a. not (is_some (m.held i a))) m.channels, 48) ∷ []) c.in_err-state.ensures)
