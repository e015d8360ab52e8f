use Rattle.std.proofs.Common.{◌≡◌, ◌<◌, ◌≤◌, true, sym, refl, ap, ◌∙◌, subst, ⊎_elim, arith}
use Rattle.std.proofs.lemmas.Bool.{true≢false, cases_lt}
use Rattle.rules.specs.Sensing.{Inside, blank, bare}
use Rattle.sensing.specs.Memories.{mark_of}
use Rattle.sensing.proofs.Said.{bare_from, nothing_from, stated, blank_is}
use Rattle.sensing.proofs.Asking.nothing_held.Goals as goal

pub returns-then-not-bare_at : goal.returns-then-not-bare_at
returns-then-not-bare_at g c =
    let m = g.Self.Asking.meaning c.args.self.now in
    let s = g.Self.Asking.sound c.args.self.now in
    let old = s.old in
    let i = c.loop-index.index in
    let w : Inside m i = (omega arith, omega arith) in (
      (λ f. absurd (true≢false (sym f))),
      (λ nothing. c.if-not-bare_at.ensures ∙ bare_from m i w (λ a l. nothing.records i a w l)),
    )

pub returns-else-not-bare_at : goal.returns-else-not-bare_at
returns-else-not-bare_at g c =
    let m = g.Self.Asking.meaning c.args.self.now in
    let last = c.loop-index.index in
    let here : (m.cell last ≡ blank) × (bare m last ≡ true) = (
      blank_is _ (sym (ap mark_of c.in-Ok-Blank.field-0-is) ∙ (stated m last _ c.in-Ok-Blank.ensures).value),
      sym c.if-not-bare_at.ensures,
    ) in (
      (λ _.
          nothing_from m
          (λ i w.
          ⊎_elim
          (λ (l : i < last). c.loop-index.invariant i (omega arith) l)
          (λ (l : last ≤ i). let e : last ≡ i = omega arith in subst (λ j. (m.cell j ≡ blank) × (bare m j ≡ true)) e here)
          (cases_lt i last))),
      (λ _. refl),
    )
