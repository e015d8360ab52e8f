use Rattle.std.proofs.Common.{◌≡◌, true, not, is_some, sym, ap, ◌∙◌, arith}
use Rattle.std.proofs.lemmas.Bool.{and_right}
use Rattle.rules.specs.Sensing.{inside}
use Rattle.rules.proofs.Answers.{all_fails, inside_from}
use Rattle.sensing.proofs.Said.{told, same_some, bare_from}
use Rattle.sensing.proofs.Asking.bare_at.Goals as goal

pub returns-then-is_some : goal.returns-then-is_some
returns-then-is_some g c =
    let m = g.Self.Asking.meaning c.args.self.now in
    let i = c.args.index in
    let a = c.loop-resource.resource in
    let t = told m i a c.in-Ok.held c.in-Ok.ensures in
    let some : is_some (m.held i a) ≡ true = ap is_some (sym t.value) ∙ same_some c.in-Ok.held ∙ sym c.if-is_some.ensures in
    sym (and_right (inside m i) _ (all_fails (λ a. not (is_some (m.held i a))) m.channels a (omega arith) (ap not some)))

pub returns : goal.returns
returns g c =
    let m = g.Self.Asking.meaning c.args.self.now in
    let i = c.args.index in
    let s = g.Self.Asking.sound c.args.self.now in
    let one = s.some in
    let n = c.channels-resource-end.ensures in
    sym (bare_from m i (inside_from m i (c.loop-resource.invariant.1 (omega arith))) (λ a l. c.loop-resource.invariant.0 a (omega arith)))
