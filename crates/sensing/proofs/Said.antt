-- What a memory's answers say of its meaning. Assumes nothing.
use Rattle.std.proofs.Common.{◌≡◌, ℕ, ◌<◌, true, false, cond, not, ltb, is_some, Some, None, Ok, Err, Option, sym, refl, ap, ◌∙◌, arith}
use Rattle.std.proofs.lemmas.Bool.{and_parts, and_from, lt-ltb, not-true, true≢false}
use Rattle.rules.specs.Sensing.{Meaning, Cell, blank, listened, sent, mark, Mark, is_blank, is_listened, is_sent, Held as Meant, Inside, inside, asked_mark, asked_record, index_questions, resource_questions, bare, Nothing, sent?}
use Rattle.rules.proofs.Answers.{answer_ok, from_inside, all_from}
use Rattle.rules.proofs.Limits.{all_at}
use Rattle.sensing.specs.Memories.{option_held_of, mark_of}
use Rattle.sensing.specs.declared.Held.{Held}
use Rattle.sensing.specs.declared.State.{State}
use Rattle.sensing.specs.declared.State.TheVariants.{Blank, Listened, Sent}

module _ (m : Meaning) (i : ℕ) where
  -- the state of an index was answered
  pub record Stated (c : Mark) : Type 0 where
    pub inside : inside m i ≡ true
    pub value : c ≡ mark (m.cell i)

  pub stated : (c : Mark) → Ok c ≡ asked_mark m i → Stated c
  stated c e =
      let w = answer_ok (index_questions m i) (mark (m.cell i)) c e in
      record { inside = (and_parts _ _ w.0).0; value = w.1 }

  pub unstated : (n : ℕ) → Err n ≡ asked_mark m i → (inside m i ≡ false) × (n ≡ 23)
  unstated n e = elim (inside m i) as (λ b. Err n ≡ cond b (Ok (mark (m.cell i))) (Err 23) → (b ≡ false) × (n ≡ 23)) [ true ↦ λ e. let z : ◌≡◌ {A = ℕ} 0 1 = cc in absurd (omega arith) | false ↦ λ e. (refl, cc) ] e

  -- the record of a resource was answered
  pub record Told (a : ℕ) (h : Option Held) : Type 0 where
    pub inside : inside m i ≡ true
    pub below : ltb a m.channels ≡ true
    pub value : option_held_of h ≡ m.held i a

  pub told : (a : ℕ) (h : Option Held) → Ok (option_held_of h) ≡ asked_record m i a → Told a h
  told a h e =
      let w = answer_ok (resource_questions m i a) (m.held i a) (option_held_of h) e in
      let u = and_parts _ _ w.0 in
      record { inside = u.0; below = (and_parts _ _ u.1).0; value = w.1 }

  pub untold : (a n : ℕ) → a < m.channels → Err n ≡ asked_record m i a → inside m i ≡ false
  untold a n h e =
      let t = lt-ltb a m.channels h in
      elim (inside m i) as (λ b. Err n ≡ cond b (cond (ltb a m.channels) (Ok (m.held i a)) (Err 24)) (Err 23) → b ≡ false) [
        | true ↦ λ e. let f : Err n ≡ Ok (m.held i a) = e ∙ ap (λ b. cond b (Ok (m.held i a)) (Err 24)) t in let z : ◌≡◌ {A = ℕ} 0 1 = cc in absurd (omega arith)
        | false ↦ λ e. refl
      ] e

-- a record is there as the memory's type has it or as the rules do
pub same_some : (h : Option Held) → is_some (option_held_of h) ≡ is_some h
same_some None = refl
same_some (Some h) = refl

pub blank_is : (c : Cell) → is_blank ≡ mark c → c ≡ blank
blank_is blank e = refl
blank_is (listened rs) e = let z : ◌≡◌ {A = ℕ} 0 1 = cc in absurd (omega arith)
blank_is sent e = let z : ◌≡◌ {A = ℕ} 0 1 = cc in absurd (omega arith)

pub held_none : (x : Option Meant) → is_some x ≡ false → x ≡ None
held_none None e = refl
held_none (Some x) e = absurd (true≢false e)

-- an index without records, both ways
pub bare_from : (m : Meaning) (i : ℕ) → Inside m i → ((a : ℕ) → a < m.channels → m.held i a ≡ None) → bare m i ≡ true
bare_from m i w h =
    and_from (inside m i) _ (from_inside m i w)
    (all_from (λ a. not (is_some (m.held i a))) m.channels (λ a l. ap (λ x. not (is_some x)) (h a l)))

pub from_bare : (m : Meaning) (i : ℕ) → bare m i ≡ true → (a : ℕ) → a < m.channels → m.held i a ≡ None
from_bare m i t a h =
    held_none _ (not-true _ (all_at (λ a. not (is_some (m.held i a))) m.channels (and_parts (inside m i) _ t).1 a h))

-- nothing is held where every index of the window is blank and without records
pub nothing_from : (m : Meaning) → ((i : ℕ) → Inside m i → (m.cell i ≡ blank) × (bare m i ≡ true)) → Nothing m
nothing_from m h = record { cells = λ i w. (h i w).0; records = λ i a w l. from_bare m i (h i w).1 a l }

-- a state that is Sent, or is not, says so of the cell
pub sent_is : (c : Cell) (s : State) → mark_of s ≡ mark c → s ≡ Sent → sent? c ≡ true
sent_is blank s e is = let z : ◌≡◌ {A = Mark} is_sent is_blank = sym (ap mark_of is) ∙ e in let z' : ◌≡◌ {A = ℕ} 0 1 = cc in absurd (omega arith)
sent_is (listened rs) s e is = let z : ◌≡◌ {A = Mark} is_sent is_listened = sym (ap mark_of is) ∙ e in let z' : ◌≡◌ {A = ℕ} 0 1 = cc in absurd (omega arith)
sent_is sent s e is = refl

pub sent_not : (c : Cell) (s : State) → mark_of s ≡ mark c → (s ≡ Sent → ⊥) → sent? c ≡ false
sent_not blank s e ne = refl
sent_not (listened rs) s e ne = refl
sent_not sent Blank e ne = let z : ◌≡◌ {A = ℕ} 0 1 = cc in absurd (omega arith)
sent_not sent Listened e ne = let z : ◌≡◌ {A = ℕ} 0 1 = cc in absurd (omega arith)
sent_not sent Sent e ne = absurd (ne refl)
