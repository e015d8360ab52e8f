use Rattle.std.proofs.Common.{◌≡◌, refl, ap, ◌∙◌, sym}
use Rattle.std.proofs.lemmas.Bool.{false≢true}
use Rattle.rules.specs.Sensing.{free_for}
use Rattle.sensing.specs.Memories.{option_held_of, held_of}
use Rattle.sensing.proofs.Same.{held_other, fields_eq, fields_self}
use Rattle.sensing.proofs.beside.Goals as goal

pub returns : goal.returns
returns c =
    let h = c.in-Some.old in
    let ne : h ≡ c.args.new → ⊥ = λ e. false≢true (sym c.if-eq.false ∙ c.eq.ensures ∙ ap (fields_eq h) (sym e) ∙ fields_self h) in
    (refl, ap (λ o. free_for (option_held_of o) (held_of c.args.new)) c.in-Some.is ∙ held_other h c.args.new ne)
