-- The slots, one subframe more, and how many candidates they make. Assumes nothing.
use Rattle.std.proofs.Common.{◌≡◌, ℕ, zero, suc, ◌+◌, ◌-◌, ◌*◌, ◌<◌, ◌≤◌, Bool, true, false, cond, ◌&&◌, ltb, leb, List, [], ◌∷◌, ◌++◌, map, length, take, Some, None, filter, sym, refl, ap, ◌∙◌, ⊎_elim, add-zero, add-mul, one-mul, zero-mul, add-one, arith, length-append, length-take}
use Rattle.std.proofs.lemmas.List.{append-nil, length-map}
use Rattle.std.specs.List.{range_with_len}
use Rattle.std.proofs.lemmas.List.FromFn.{length-map-range_with_len}
use Rattle.std.proofs.lemmas.Bool.{cases_Bool, and_parts, leb-true, lt-ltb}
use Rattle.answer.specs.declared.Refusal.{Refusal}
use Rattle.answer.specs.Numbers.{number}
use Rattle.answer.proofs.Some.{number_some}
use Rattle.rules.specs.Counting.{first_no}
use Rattle.rules.proofs.Answers.{stops, passes}
use Rattle.rules.proofs.Configured.{all_yes}
use Rattle.rules.proofs.Lists.{every_at}
use Rattle.rules.specs.Calendar.{Pool, in_set, in_pool, index}
use Rattle.rules.specs.Choose.{Question, Place, across, joined_all, subframes, candidates, question_questions, choose_questions}
use Rattle.choosing.specs.Found.{slots_of, slots_from, pool_index}
use Rattle.choosing.specs.declared.Candidates.{Candidates}
use Rattle.std.proofs.lemmas.Nat.{mul-le}
use Rattle.choosing.specs.Slots.{slot_at}

module _ {X : Type 0} (f : ℕ → X) (g : ℕ → Bool) where
  more : (a n : ℕ) → map f (filter g (range_with_len a (suc n))) ≡ map f (filter g (range_with_len a n)) ++ cond (g (a + n)) (f (a + n) ∷ []) []
  more a zero =
      ⊎_elim
      (λ (t : g a ≡ true). let e = add-zero a in rw (t, e, t))
      (λ (t : g a ≡ false). let e = add-zero a in rw (t, e, t))
      (cases_Bool (g a))
  more a (suc n) =
      let IH = more (a + 1) n in
      let same : a + 1 + n ≡ a + suc n = omega arith in
      let IH' : map f (filter g (range_with_len (a + 1) (suc n))) ≡ map f (filter g (range_with_len (a + 1) n)) ++ cond (g (a + suc n)) (f (a + suc n) ∷ []) [] = IH ∙ ap (λ i. map f (filter g (range_with_len (a + 1) n)) ++ cond (g i) (f i ∷ []) []) same in
      ⊎_elim
      (λ (t : g a ≡ true). rw t (ap (λ xs. f a ∷ xs) IH'))
      (λ (t : g a ≡ false). rw t IH')
      (cases_Bool (g a))

  kept_up_to : (a s : ℕ) → a ≤ s → map f (filter g (range_with_len a (s + 1 - a))) ≡ map f (filter g (range_with_len a (s - a))) ++ cond (g s) (f s ∷ []) []
  kept_up_to a s l =
      let far : s + 1 - a ≡ suc (s - a) = omega arith in
      let last : a + (s - a) ≡ s = omega arith in
      ap (λ m. map f (filter g (range_with_len a m))) far
      ∙ more a (s - a)
      ∙ ap (λ i. map f (filter g (range_with_len a (s - a))) ++ cond (g i) (f i ∷ []) []) last

abbrev place_at : ℕ → ℕ → Place
place_at y x = record { channel = x; at = y }

-- each subframe has as many candidates as first sub-channels
pub all_across : (p : Pool) (q : Question) (ss : List ℕ) → length (joined_all (map (λ s. across p q (index p s)) ss)) ≡ length ss * (p.channels + 1 - q.length)
all_across p q [] = sym (zero-mul (p.channels + 1 - q.length))
all_across p q (s ∷ ss) =
    let w = p.channels + 1 - q.length in
    let here : length (across p q (index p s)) ≡ w = length-map-range_with_len (λ (x : ℕ). place_at (index p s) x) 0 w in
    let rest = all_across p q ss in
    let both = length-append (across p q (index p s)) (joined_all (map (λ s. across p q (index p s)) ss)) in
    let whole : length (across p q (index p s) ++ joined_all (map (λ s. across p q (index p s)) ss)) ≡ w + length ss * w = both ∙ ap (λ n. n + length (joined_all (map (λ s. across p q (index p s)) ss))) here ∙ ap (λ n. w + n) rest in
    let split : suc (length ss) * w ≡ w + length ss * w = ap (λ n. n * w) (sym (add-one (length ss))) ∙ add-mul (length ss) 1 w ∙ omega (arith, one-mul w) in
    whole ∙ sym split

pub counted : (p : Pool) (now : ℕ) (q : Question) → length (map (slot_at p) (subframes p now q)) * (p.channels + 1 - q.length) ≡ length (candidates p now q)
unfolding candidates
counted p now q = ap (λ n. n * (p.channels + 1 - q.length)) (length-map (subframes p now q) (slot_at p)) ∙ sym (all_across p q (subframes p now q))

-- an index that is found is the subframe's, and where none is found the subframe is not the pool's
pub some_index : (p : Pool) (s i : ℕ) → Some i ≡ pool_index p s → ((in_set p s && in_pool p (index p s)) ≡ true) × (i ≡ index p s)
some_index p s i e =
    elim (in_set p s && in_pool p (index p s)) as (λ b. Some i ≡ cond b (Some (index p s)) None → (b ≡ true) × (i ≡ index p s))
    [ true ↦ λ e. (refl, cc) | false ↦ λ e. let z : ◌≡◌ {A = ℕ} 0 1 = cc in absurd (omega arith) ] e

pub no_index : (p : Pool) (s : ℕ) → None ≡ pool_index p s → (in_set p s && in_pool p (index p s)) ≡ false
no_index p s e =
    elim (in_set p s && in_pool p (index p s)) as (λ b. None ≡ cond b (Some (index p s)) None → b ≡ false)
    [ true ↦ λ e. let z : ◌≡◌ {A = ℕ} 0 1 = cc in absurd (omega arith) | false ↦ λ e. refl ] e

-- the slots up to a subframe and with it, which is the pool's or is not
pub slots_yes : (p : Pool) (first s i : ℕ) → first ≤ s → Some i ≡ pool_index p s → slots_from p first (s + 1 - first) ≡ slots_from p first (s - first) ++ record { subframe = s; index = i } ∷ []
slots_yes p first s i l e =
    let w = some_index p s i e in
    kept_up_to (slot_at p) (λ s. in_set p s && in_pool p (index p s)) first s l
    ∙ ap (λ b. slots_from p first (s - first) ++ cond b (slot_at p s ∷ []) []) w.0
    ∙ ap (λ j. slots_from p first (s - first) ++ record { subframe = s; index = j } ∷ []) (sym w.1)

pub slots_no : (p : Pool) (first s : ℕ) → first ≤ s → None ≡ pool_index p s → slots_from p first (s + 1 - first) ≡ slots_from p first (s - first)
slots_no p first s l e =
    kept_up_to (slot_at p) (λ s. in_set p s && in_pool p (index p s)) first s l
    ∙ ap (λ b. slots_from p first (s - first) ++ cond b (slot_at p s ∷ []) []) (no_index p s e)
    ∙ append-nil (slots_from p first (s - first))

-- what a question that passes its own questions keeps
pub record WithinLimits (p : Pool) (q : Question) : Type 0 where
  pub some : 1 ≤ q.length
  pub few : q.length ≤ p.channels
  pub soon : 1 ≤ q.from
  pub late : q.from ≤ 4
  pub least : 20 ≤ q.to
  pub most : q.to ≤ 100

pub within_limits : (p : Pool) (q : Question) → 0 ≡ first_no (question_questions p q) → WithinLimits p q
within_limits p q e =
    let said = all_yes (question_questions p q) refl (sym e) in
    let wide : (leb 1 q.length && leb q.length p.channels) ≡ true = every_at (λ x. x.0) (question_questions p q) (true, 0) said 0 (omega arith) in
    let times : (leb 1 q.from && leb q.from 4 && leb 20 q.to && leb q.to 100) ≡ true = every_at (λ x. x.0) (question_questions p q) (true, 0) said 4 (omega arith) in
    let w = and_parts (leb 1 q.length) (leb q.length p.channels) wide in
    let a = and_parts (leb 1 q.from && leb q.from 4 && leb 20 q.to) (leb q.to 100) times in
    let b = and_parts (leb 1 q.from && leb q.from 4) (leb 20 q.to) a.0 in
    let d = and_parts (leb 1 q.from) (leb q.from 4) b.0 in
    record {
      some = leb-true _ _ w.0;
      few = leb-true _ _ w.1;
      soon = leb-true _ _ d.0;
      late = leb-true _ _ d.1;
      least = leb-true _ _ b.1;
      most = leb-true _ _ a.1;
    }

-- the answers of the search: a question's own number, 40 where there is no candidate, or 0
pub refused : (p : Pool) (now : ℕ) (q : Question) (e : Refusal) → number e ≡ first_no (question_questions p q) → first_no (choose_questions p now q) ≡ number e
refused p now q e is = stops (question_questions p q) ((ltb 0 (length (candidates p now q)), 40) ∷ []) (number e) (omega (arith, number_some e)) (sym is)

pub none_there : (p : Pool) (now : ℕ) (q : Question) → 0 ≡ first_no (question_questions p q) → length (candidates p now q) ≡ 0 → first_no (choose_questions p now q) ≡ 40
none_there p now q is none = passes (question_questions p q) ((ltb 0 (length (candidates p now q)), 40) ∷ []) refl (sym is) ∙ ap (λ n. cond (ltb 0 n) 0 40) none

pub some_there : (p : Pool) (now : ℕ) (q : Question) → 0 ≡ first_no (question_questions p q) → 0 < length (candidates p now q) → first_no (choose_questions p now q) ≡ 0
some_there p now q is some = passes (question_questions p q) ((ltb 0 (length (candidates p now q)), 40) ∷ []) refl (sym is) ∙ ap (λ b. cond b 0 40) (lt-ltb _ _ some)

-- what was found for a question, and what is answered then
pub record Facts (p : Pool) (now : ℕ) (q : Question) (f : Candidates) : Type 0 where
  pub slots : slots_of f ≡ map (slot_at p) (subframes p now q)
  pub width : f.width ≡ p.channels + 1 - q.length
  pub many : length (slots_of f) * f.width ≡ length (candidates p now q)

pub facts : (p : Pool) (now : ℕ) (q : Question) (f : Candidates) (first n w : ℕ) → slots_of f ≡ slots_from p first n → f.width ≡ w → first ≡ now + q.from → n ≡ q.to + 1 - q.from → w ≡ p.channels + 1 - q.length → Facts p now q f
facts p now q f first n w slots width a b d =
    let all : slots_of f ≡ map (slot_at p) (subframes p now q) = slots ∙ ap (λ i. slots_from p i n) a ∙ ap (slots_from p (now + q.from)) b in
    let wide = width ∙ d in
    record { slots = all; width = wide; many = ap (λ xs. length xs * f.width) all ∙ ap (λ k. length (map (slot_at p) (subframes p now q)) * k) wide ∙ counted p now q }

pub nothing_found : (p : Pool) (now : ℕ) (q : Question) (f : Candidates) → Facts p now q f → f.count ≡ 0 → length (candidates p now q) ≡ 0
nothing_found p now q f w none = sym w.many ∙ ap (λ n. length (take n f.slots) * f.width) none ∙ zero-mul f.width

pub something_found : (p : Pool) (now : ℕ) (q : Question) (f : Candidates) → Facts p now q f → WithinLimits p q → (f.count ≡ 0 → ⊥) → 0 < length (candidates p now q)
something_found p now q f w limits some =
    let long = f.long in
    let few = f.few in
    let size = length-take f.count f.slots in
    let one : 1 ≤ length (slots_of f) = omega (arith, some) in
    let wide = w.width in
    let wide' : 1 ≤ f.width = omega (arith, limits.few) in
    omega (arith, w.many, mul-le 1 1 (length (slots_of f)) f.width one wide')
