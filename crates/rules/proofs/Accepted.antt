-- The answers of keep record and keep readings, by their questions. Assumes nothing.
use Rattle.std.proofs.Common.{◌≡◌, ℕ, ◌<◌, Bool, true, false, cond, ltb, List, [], ◌∷◌, length, get_or, ℤ, Some, None, Ok, sym, refl, ap, ◌∙◌, arith}
use Rattle.std.proofs.lemmas.Bool.{and_parts, cond-true, cond-false, eq-eqb, ne_eqb, ltb-true, not-true, true≢false}
use Rattle.rules.proofs.Lists.{every_at}
use Rattle.rules.specs.Counting.{every, first_no}
use Rattle.rules.specs.Sensing.{Meaning, Held, Cell, sent, sent?, listened?, held_count, answer, room_answer, record_questions, record_answer, readings_ok, readings_questions, readings_answer}

-- where no question is answered no, each is answered yes
all_yes : (qs : List (Bool × ℕ)) → every (λ q. ltb 0 q.1) qs ≡ true → first_no qs ≡ 0 → every (λ q. q.0) qs ≡ true
all_yes [] t e = refl
all_yes ((true, k) ∷ qs) t e = all_yes qs (and_parts (ltb 0 k) _ t).1 e
all_yes ((false, k) ∷ qs) t e = absurd (omega (arith, ltb-true 0 k (and_parts (ltb 0 k) _ t).0))

pub yes_at : (qs : List (Bool × ℕ)) → every (λ q. ltb 0 q.1) qs ≡ true → first_no qs ≡ 0 → (k : ℕ) → k < length qs → (get_or qs k (true, 0)).0 ≡ true
yes_at qs t e = every_at (λ q. q.0) qs (true, 0) (all_yes qs t e)

-- and the answer is given
pub answer_yes : {X : Type 0} (qs : List (Bool × ℕ)) (x : X) → every (λ q. ltb 0 q.1) qs ≡ true → first_no qs ≡ 0 → answer qs x ≡ Ok x
answer_yes [] x t e = refl
answer_yes ((true, k) ∷ qs) x t e = answer_yes qs x (and_parts (ltb 0 k) _ t).1 e
answer_yes ((false, k) ∷ qs) x t e = absurd (omega (arith, ltb-true 0 k (and_parts (ltb 0 k) _ t).0))

unsent : (c : Cell) → sent? c ≡ false → c ≡ sent → ⊥
unsent c t e = true≢false (sym (ap sent? e) ∙ t)

module _ (m : Meaning) (i a : ℕ) (bytes : List ℕ) (rsrp : ℤ) where
  abbrev asked : ℕ
  asked = first_no (record_questions m i a bytes rsrp)

  pub record_refused : (n : ℕ) → asked ≡ n → (n ≡ 0 → ⊥) → record_answer m i a bytes rsrp ≡ n
  unfolding record_answer
  record_refused n e ne = cond-false _ _ _ (ne_eqb _ _ (λ z. ne (sym e ∙ z))) ∙ e

  asked_room : asked ≡ 0 → record_answer m i a bytes rsrp ≡ room_answer m (m.held i a)
  unfolding record_answer
  asked_room e = cond-true _ _ _ (eq-eqb _ _ e)

  pub record_already : (h : Held) → asked ≡ 0 → m.held i a ≡ Some h → record_answer m i a bytes rsrp ≡ 1
  record_already h e is = asked_room e ∙ ap (room_answer m) is

  pub record_new : asked ≡ 0 → m.held i a ≡ None → held_count m < m.places → record_answer m i a bytes rsrp ≡ 0
  record_new e is less = asked_room e ∙ ap (room_answer m) is ∙ cond-false _ _ _ (ne_eqb _ _ (λ (z : held_count m ≡ m.places). omega arith))

  pub record_full : asked ≡ 0 → m.held i a ≡ None → held_count m ≡ m.places → record_answer m i a bytes rsrp ≡ 31
  record_full e is full = asked_room e ∙ ap (room_answer m) is ∙ cond-true _ _ _ (eq-eqb _ _ full)

  -- a record that is accepted is of an index that was not sent in
  pub record_unsent : asked ≡ 0 → m.cell i ≡ sent → ⊥
  record_unsent e =
      unsent (m.cell i) (not-true _ (yes_at (record_questions m i a bytes rsrp) refl e 6 (omega arith)))

module _ (m : Meaning) (i : ℕ) (rs : List ℕ) where
  abbrev put : ℕ
  put = first_no (readings_questions m i rs)

  pub readings_refused : (n : ℕ) → put ≡ n → (n ≡ 0 → ⊥) → readings_answer m i rs ≡ n
  unfolding readings_answer
  readings_refused n e ne = cond-false _ _ _ (ne_eqb _ _ (λ z. ne (sym e ∙ z))) ∙ e

  pub readings_asked : (b : Bool) → put ≡ 0 → listened? (m.cell i) ≡ b → readings_answer m i rs ≡ cond b 1 0
  unfolding readings_answer
  readings_asked b e is = cond-true _ _ _ (eq-eqb _ _ e) ∙ ap (λ x. cond x 1 0) is

  -- readings that are accepted are as readings have to be
  pub readings_fine : put ≡ 0 → readings_ok m.channels rs ≡ true
  readings_fine e = yes_at (readings_questions m i rs) refl e 1 (omega arith)
