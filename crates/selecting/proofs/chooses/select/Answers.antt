use Rattle.std.proofs.Common.{◌≡◌, ◌≤◌, true, List, length, subst, ◌∙◌}
use Rattle.std.proofs.lemmas.Result.{err_from_is_err_and}
use Rattle.choosing.specs.Found.{slots_of}
use Rattle.selecting.specs.Lists.{rows_of}
use Rattle.selecting.specs.Lifts.{leaves, NoneBelow}
use Rattle.selecting.specs.declared.Entry.{Entry}
use Rattle.selecting.proofs.Picked.{picked}
use Rattle.selecting.proofs.chooses.select.Goals as goal

pub returns-in_err-lift : goal.returns-in_err-lift
returns-in_err-lift c =
    let p = err_from_is_err_and c.from_residual.result c.from_residual.ensures.1 in
    let w = c.in_err-lift.ensures in
    let all = c.deref.ensures.0 ∙ c.list.ensures in
    rw (p.1, p.2) (w.0, subst (λ (es : List Entry). NoneBelow es 44) all w.1)

pub returns : goal.returns
returns c =
    let f = c.args.found.now in
    let n = c.lift.new.raise.steps in
    let up = subst (λ (es : List Entry). (n ≤ 43) × (leaves es n ≡ true) × NoneBelow es n) c.deref.ensures.0 c.in_ok-lift.ensures in
    picked c.list.new.entries.items (rows_of (slots_of f) f.width c.args.needs.now c.args.means.now (length (slots_of f))) n c.args.q.now c.args.apart c.report.result c.list.ensures up c.report.ensures
