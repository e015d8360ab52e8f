-- What the questions before a free place answer. Assumes nothing.
use Rattle.std.proofs.Common.{◌≡◌, ℕ, zero, suc, ◌<◌, Bool, true, false, cond, not, eqb, ltb, List, [], ◌∷◌, ◌++◌, length, get_or, ℤ, Some, None, Ok, Err, Option, Result, sym, refl, ap, ◌∙◌, subst, arith}
use Rattle.std.proofs.lemmas.Bool.{eqb-true, eq-eqb, ne_eqb, lt-ltb, ltb-true, and_from, and_parts, and_left, and_right}
use Rattle.answer.specs.declared.Refusal.{Refusal}
use Rattle.answer.specs.Numbers.{number}
use Rattle.answer.proofs.Some.{number_some}
use Rattle.rules.specs.Counting.{first_no}
use Rattle.rules.specs.Format.{Record as Fields, joined, record_of, reading, questions}
use Rattle.rules.specs.Sensing.{Meaning, Inside, inside, asked_record, rsrp_ok, Fair, heard_as, heard_questions, record_questions, sent?, free_for, same_held, same_list, resource_questions, asked_mark, asked_reading, reading_in, Cell, blank, listened, sent, mark, is_listened, listened?, quiet_for, readings_ok, readings_questions, Sound}
use Rattle.rules.proofs.Answers.{stops, passes, answer_ok, inside_from, from_inside}
use Rattle.sensing.specs.Memories.{held_of, option_held_of, Compared, Examined, Passed, SameReadings}
use Rattle.sensing.specs.declared.Held.{Held}
use Rattle.sensing.proofs.Said.{unstated}
use Rattle.sensing.proofs.Same.{held_self}

-- the record that the reader gives is that of the bytes
pub reading_ok : (n a : ℕ) (bs : List ℕ) (r : Fields) → Ok r ≡ reading n a bs → r ≡ record_of n (joined bs)
unfolding reading
reading_ok n a bs r e =
    elim (eqb (first_no (questions n a bs)) 0) as (λ b. Ok r ≡ cond b (Ok (record_of n (joined bs))) (Err (first_no (questions n a bs))) → r ≡ record_of n (joined bs))
    [ true ↦ λ e. cc | false ↦ λ e. let z : ◌≡◌ {A = ℕ} 0 1 = cc in absurd (omega arith) ] e

pub heard_no : (n a : ℕ) (bs : List ℕ) (x : ℤ) (e : Refusal) → number e ≡ first_no (questions n a bs) → first_no (heard_questions n a bs x) ≡ number e
heard_no n a bs x e is = stops (questions n a bs) ((rsrp_ok x, 28) ∷ []) (number e) (omega (arith, number_some e)) (sym is)

pub heard_far : (n a : ℕ) (bs : List ℕ) (x : ℤ) → 0 ≡ first_no (questions n a bs) → rsrp_ok x ≡ false → first_no (heard_questions n a bs x) ≡ 28
heard_far n a bs x is t = passes (questions n a bs) ((rsrp_ok x, 28) ∷ []) refl (sym is) ∙ ap (λ b. cond b 0 28) t

pub heard_yes : (n a : ℕ) (bs : List ℕ) (x : ℤ) → 0 ≡ first_no (questions n a bs) → rsrp_ok x ≡ true → first_no (heard_questions n a bs x) ≡ 0
heard_yes n a bs x is t = passes (questions n a bs) ((rsrp_ok x, 28) ∷ []) refl (sym is) ∙ ap (λ b. cond b 0 28) t

module _ (m : Meaning) (i a : ℕ) (bs : List ℕ) (x : ℤ) where
  abbrev last : List (Bool × ℕ)
  last = (not (sent? (m.cell i)), 29) ∷ (free_for (m.held i a) (heard_as m.channels bs x), 30) ∷ []

  abbrev all : ℕ
  all = first_no (record_questions m i a bs x)

  -- past the index and the resource
  entered : inside m i ≡ true → ltb a m.channels ≡ true → all ≡ first_no (heard_questions m.channels a bs x ++ last)
  entered p q = ap (λ b. cond b (cond (ltb a m.channels) (first_no (heard_questions m.channels a bs x ++ last)) 24) 23) p ∙ ap (λ b. cond b (first_no (heard_questions m.channels a bs x ++ last)) 24) q

  pub no_place : (n : ℕ) → Err n ≡ asked_record m i a → all ≡ n
  no_place n e =
      elim (inside m i) as (λ b. Err n ≡ cond b (cond (ltb a m.channels) (Ok (m.held i a)) (Err 24)) (Err 23) → cond b (cond (ltb a m.channels) (first_no (heard_questions m.channels a bs x ++ last)) 24) 23 ≡ n) [
        | true ↦ λ e.
            elim (ltb a m.channels) as (λ b. Err n ≡ cond b (Ok (m.held i a)) (Err 24) → cond b (first_no (heard_questions m.channels a bs x ++ last)) 24 ≡ n)
            [ true ↦ λ e. let z : ◌≡◌ {A = ℕ} 0 1 = cc in absurd (omega arith) | false ↦ λ e. cc ] e
        | false ↦ λ e. cc
      ] e

  module _ (p : inside m i ≡ true) (q : ltb a m.channels ≡ true) where
    pub no_record : (e : Refusal) → first_no (heard_questions m.channels a bs x) ≡ number e → all ≡ number e
    no_record e is = entered p q ∙ stops (heard_questions m.channels a bs x) last (number e) (omega (arith, number_some e)) is

    read_on : first_no (heard_questions m.channels a bs x) ≡ 0 → all ≡ first_no last
    read_on is = entered p q ∙ passes (heard_questions m.channels a bs x) last refl is

    pub no_sent : first_no (heard_questions m.channels a bs x) ≡ 0 → sent? (m.cell i) ≡ true → all ≡ 29
    no_sent is t = read_on is ∙ ap (λ b. cond (not b) (first_no ((free_for (m.held i a) (heard_as m.channels bs x), 30) ∷ [])) 29) t

    pub by_record : first_no (heard_questions m.channels a bs x) ≡ 0 → sent? (m.cell i) ≡ false → all ≡ cond (free_for (m.held i a) (heard_as m.channels bs x)) 0 30
    by_record is t = read_on is ∙ ap (λ b. cond (not b) (first_no ((free_for (m.held i a) (heard_as m.channels bs x), 30) ∷ [])) 29) t

  -- a record that was read, beside what is held: what is answered in the end
  module _ (p : inside m i ≡ true) (q : ltb a m.channels ≡ true) (held : Option Held) (value : option_held_of held ≡ m.held i a)
      (new : Held) (asked : first_no (heard_questions m.channels a bs x) ≡ 0) (is : held_of new ≡ heard_as m.channels bs x) (fair : Fair m.channels a (held_of new))
      (quiet : sent? (m.cell i) ≡ false) where
    passed : free_for (m.held i a) (heard_as m.channels bs x) ≡ true → Passed m i a bs x
    passed t =
        record {
          answer = by_record p q asked quiet ∙ ap (λ b. cond b 0 30) t;
          inside = inside_from m i p;
          below = ltb-true _ _ q;
          fair = subst (Fair m.channels a) is fair;
        }

    pub finish : (r : Result (Option Held) Refusal) → Compared held new r → Examined m i a bs x r
    finish (Ok (Some h)) w =
        let none : m.held i a ≡ None = sym value ∙ ap option_held_of w.0 in
        (passed (ap (λ o. free_for o (heard_as m.channels bs x)) none), none, ap held_of w.1 ∙ is)
    finish (Ok None) w =
        let here : m.held i a ≡ Some (heard_as m.channels bs x) = sym value ∙ ap option_held_of w ∙ ap (λ h. Some h) is in
        let self : same_held (heard_as m.channels bs x) (heard_as m.channels bs x) ≡ true = ap (λ h. same_held h h) (sym is) ∙ held_self new in
        (passed (ap (λ o. free_for o (heard_as m.channels bs x)) here ∙ self), here)
    finish (Err e) w =
        let other : free_for (m.held i a) (heard_as m.channels bs x) ≡ false = ap (λ o. free_for o (heard_as m.channels bs x)) (sym value) ∙ ap (free_for (option_held_of held)) (sym is) ∙ w.1 in
        by_record p q asked quiet ∙ ap (λ b. cond b 0 30) other ∙ sym w.0

-- an index outside is answered 23 first
pub out_first : (m : Meaning) (i : ℕ) (e : Refusal) (qs : List (Bool × ℕ)) → Err (number e) ≡ asked_mark m i → first_no ((inside m i, 23) ∷ qs) ≡ number e
out_first m i e qs said =
    let u = unstated m i (number e) said in
    ap (λ b. cond b (first_no qs) 23) u.0 ∙ sym u.1

-- lists that are compared element by element
pub same_lists : (xs ys : List ℕ) → length xs ≡ length ys → ((k : ℕ) → k < length ys → get_or xs k 0 ≡ get_or ys k 0) → same_list xs ys ≡ true
same_lists [] [] e h = refl
same_lists [] (y ∷ ys) e h = absurd (omega arith)
same_lists (x ∷ xs) [] e h = absurd (omega arith)
same_lists (x ∷ xs) (y ∷ ys) e h = and_from (eqb x y) (same_list xs ys) (eq-eqb x y (h 0 (omega arith))) (same_lists xs ys (omega arith) (λ k l. h (suc k) (omega arith)))

pub other_lists : (xs ys : List ℕ) (k : ℕ) → k < length ys → (get_or xs k 0 ≡ get_or ys k 0 → ⊥) → length xs ≡ length ys → same_list xs ys ≡ false
other_lists xs [] k h ne e = absurd (omega arith)
other_lists [] (y ∷ ys) k h ne e = refl
other_lists (x ∷ xs) (y ∷ ys) zero h ne e = and_left (eqb x y) (same_list xs ys) (ne_eqb x y ne)
other_lists (x ∷ xs) (y ∷ ys) (suc k) h ne e = and_right (eqb x y) (same_list xs ys) (other_lists xs ys k (omega arith) ne (omega arith))

-- the reading that was answered for an index that was listened to
pub reading_of : (m : Meaning) (i a r : ℕ) (ks : List ℕ) → m.cell i ≡ listened ks → Ok (Some r) ≡ asked_reading m i a → r ≡ get_or ks a 0
reading_of m i a r ks e said =
    let w = answer_ok (resource_questions m i a) (reading_in (m.cell i) a) (Some r) said in
    let s : Some r ≡ Some (get_or ks a 0) = w.1 ∙ ap (λ c. reading_in c a) e in
    cc

pub reading_none : (m : Meaning) (i a : ℕ) (ks : List ℕ) → m.cell i ≡ listened ks → Ok None ≡ asked_reading m i a → ⊥
reading_none m i a ks e said =
    let w = answer_ok (resource_questions m i a) (reading_in (m.cell i) a) None said in
    let s : None ≡ Some (get_or ks a 0) = w.1 ∙ ap (λ c. reading_in c a) e in
    let z : ◌≡◌ {A = ℕ} 0 1 = cc in
    omega arith

pub reading_out : (m : Meaning) (i a n : ℕ) → Inside m i → a < m.channels → Err n ≡ asked_reading m i a → ⊥
reading_out m i a n w h said =
    let p = from_inside m i w in
    let q = lt-ltb a m.channels h in
    let s : Err n ≡ Ok (reading_in (m.cell i) a) = said ∙ ap (λ b. cond b (cond (ltb a m.channels) (Ok (reading_in (m.cell i) a)) (Err 24)) (Err 23)) p ∙ ap (λ b. cond b (Ok (reading_in (m.cell i) a)) (Err 24)) q in
    let z : ◌≡◌ {A = ℕ} 0 1 = cc in
    omega arith

listened_cell : (c : Cell) → is_listened ≡ mark c → (ks : List ℕ) × (c ≡ listened ks)
listened_cell blank e = let z : ◌≡◌ {A = ℕ} 0 1 = cc in absurd (omega arith)
listened_cell (listened ks) e = (ks, refl)
listened_cell sent e = let z : ◌≡◌ {A = ℕ} 0 1 = cc in absurd (omega arith)

-- readings for an index that was listened to: the comparison decides
pub compared : (m : Meaning) (i : ℕ) (rs : List ℕ) (r : Bool) → Sound m → inside m i ≡ true → is_listened ≡ mark (m.cell i) → readings_ok m.channels rs ≡ true → SameReadings m i rs r → (first_no (readings_questions m i rs) ≡ cond r 0 33) × (listened? (m.cell i) ≡ true)
compared m i rs r sound p e ok same =
    let w = listened_cell (m.cell i) e in
    let ks = w.0 in
    let is = w.1 in
    let inn = inside_from m i p in
    let long = eqb-true _ _ (and_parts _ _ (sound.heard i ks inn is)).0 in
    let long' = eqb-true _ _ (and_parts _ _ ok).0 in
    let decides : r ≡ same_list ks rs = same ks inn is (long ∙ sym long') in
    let quiet : quiet_for (m.cell i) rs ≡ r = ap (λ c. quiet_for c rs) is ∙ sym decides in
    let unsent : sent? (m.cell i) ≡ false = ap sent? is in
    (rw (p, ok, unsent, quiet), ap listened? is)
