use Rattle.std.proofs.Common.{◌≡◌, ℕ, List, ℤ, Ok, Err, Result, sym, ◌∙◌, subst, w16, SFits, to_z, of_z, rules}
use Rattle.std.proofs.lemmas.Result.{err_from_is_err_and}
use Rattle.std.proofs.lemmas.Int.{to_z-of_z}
use Rattle.answer.specs.declared.Refusal.{Refusal}
use Rattle.sensing.specs.declared.Held.{Held}
use Rattle.rules.specs.Sensing.{Meaning}
use Rattle.std.proofs.lemmas.Bool.{true≢false}
use Rattle.answer.specs.Numbers.{number}
use Rattle.sensing.specs.declared.State.TheVariants.{Sent}
use Rattle.sensing.specs.Memories.{Heard}
use Rattle.sensing.proofs.Said.{told, stated, unstated, sent_is, sent_not}
use Rattle.sensing.proofs.Examine.{no_place, no_record, no_sent, finish}
use Rattle.sensing.proofs.examine_record.Goals as goal

-- what `heard` answered, for the memory's N and the RSRP as it came
as_heard : (m : Meaning) (a : ℕ) (bs : List ℕ) (x : ℤ) (r : Result Held Refusal) (n : ℕ) → n ≡ m.channels → SFits w16 x → Heard n a bs (to_z w16 (of_z w16 x)) r → Heard m.channels a bs x r
as_heard m a bs x r n e fits h = subst (λ n. Heard n a bs x r) e (subst (λ z. Heard n a bs z r) (to_z-of_z w16 x fits) h)

pub returns-in_err-held : goal.returns-in_err-held
returns-in_err-held g c =
    let p = err_from_is_err_and c.from_residual.result c.from_residual.ensures.1 in
    rw (p.1, p.2) (no_place (g.M.Asking.meaning c.args.m.now) c.args.index c.args.resource c.args.bytes c.args.rsrp (number c.in_err-held.field-0.0) c.in_err-held.ensures)

pub returns-in_err-new : goal.returns-in_err-new
returns-in_err-new g c =
    let m = g.M.Asking.meaning c.args.m.now in
    let t = told m c.args.index c.args.resource c.in_ok-held.held c.in_ok-held.ensures in
    let p = err_from_is_err_and c.from_residual-in_err-new.result c.from_residual-in_err-new.ensures.1 in
    let h = as_heard m c.args.resource c.args.bytes c.args.rsrp (Err c.in_err-new.field-0.0) _ c.channels.ensures c.ranges.rsrp c.in_err-new.ensures in
    rw (p.1, p.2)
    (no_record m c.args.index c.args.resource c.args.bytes c.args.rsrp t.inside t.below c.in_err-new.field-0.0 h)

pub returns-in_err-state : goal.returns-in_err-state
returns-in_err-state g c =
    let m = g.M.Asking.meaning c.args.m.now in
    let t = told m c.args.index c.args.resource c.in_ok-held.held c.in_ok-held.ensures in
    let u = unstated m c.args.index (number c.in_err-state.field-0.0) c.in_err-state.ensures in
    absurd (true≢false (sym t.inside ∙ u.0))

pub returns-then-eq : goal.returns-then-eq
returns-then-eq g c =
    let m = g.M.Asking.meaning c.args.m.now in
    let t = told m c.args.index c.args.resource c.in_ok-held.held c.in_ok-held.ensures in
    let s = stated m c.args.index _ c.in_ok-state.ensures in
    let is : c.in_ok-state.state ≡ Sent = search rules in
    let h = as_heard m c.args.resource c.args.bytes c.args.rsrp (Ok c.in_ok-new.new) _ c.channels.ensures c.ranges.rsrp c.in_ok-new.ensures in
    no_sent m c.args.index c.args.resource c.args.bytes c.args.rsrp t.inside t.below h.0 (sent_is (m.cell c.args.index) c.in_ok-state.state s.value is)

pub returns : goal.returns
returns g c =
    let m = g.M.Asking.meaning c.args.m.now in
    let i = c.args.index in
    let t = told m i c.args.resource c.in_ok-held.held c.in_ok-held.ensures in
    let s = stated m i _ c.in_ok-state.ensures in
    let h = as_heard m c.args.resource c.args.bytes c.args.rsrp (Ok c.in_ok-new.new) _ c.channels.ensures c.ranges.rsrp c.in_ok-new.ensures in
    finish m i c.args.resource c.args.bytes c.args.rsrp t.inside t.below c.in_ok-held.held t.value c.in_ok-new.new h.0 h.1 h.2 (sent_not (m.cell i) c.in_ok-state.state s.value (let h : c.in_ok-state.state ≡ Sent → ⊥ = search rules in h)) c.beside.result c.beside.ensures
