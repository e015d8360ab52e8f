use Rattle.std.proofs.Common.{◌≡◌, ℕ, get_or, None, Ok, Option, sym, refl, ap, ◌∙◌}
use Rattle.rules.specs.Counting.{first_no}
use Rattle.rules.specs.Sensing.{Meaning, Held, resource_questions, asked_record}
use Rattle.rules.proofs.Accepted.{answer_yes}
use Rattle.sensing.specs.Memories.{option_held_of}
use Rattle.memory.specs.DenseMemory.{dense}
use Rattle.memory.proofs.DenseHeld.{held_stamped, held_unstamped}
use Rattle.memory.proofs.dense.asks.DenseAsking.record.Goals as goal

-- what both questions lead to
answers : (m : Meaning) (i a : ℕ) (o : Option Held) → 0 ≡ first_no (resource_questions m i a) → m.held i a ≡ o → Ok o ≡ asked_record m i a
answers m i a o asked is = ap (λ x. Ok x) (sym is) ∙ sym (answer_yes (resource_questions m i a) (m.held i a) refl (sym asked))

pub returns-then-not-stands : goal.returns-then-not-stands
returns-then-not-stands c =
    let s = c.args.self.now in
    answers (dense s) c.args.index c.args.resource _ c.in_ok-ask_at.ensures (held_unstamped s.ring s.places.now c.args.index c.args.resource (sym c.if-not-stands.ensures))

pub returns : goal.returns
returns c =
    let s = c.args.self.now in
    answers (dense s) c.args.index c.args.resource _ c.in_ok-ask_at.ensures
    (held_stamped s.ring s.places.now c.args.index c.args.resource (sym c.if-not-stands.ensures) ∙ ap (λ k. option_held_of (get_or s.places.now k None)) (sym c.place.ensures))
