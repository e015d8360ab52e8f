-- An entry in a place that held nothing. Assumes nothing.
use Rattle.std.proofs.Common.{◌≡◌, ℕ, zero, suc, ◌+◌, ◌<◌, ◌≤◌, true, false, cond, not, List, [], ◌∷◌, length, get_or, set, is_some, Some, None, Option, sym, refl, ap, ◌∙◌, ⊎_elim, arith}
use Rattle.std.proofs.lemmas.List.{length-set}
use Rattle.std.proofs.lemmas.Bool.{cases_Bool, and_parts, and_from, eq-eqb, eqb-true, cond-true, cond-false, true≢false}
use Rattle.std.specs.Option.{MatchOption}
use Rattle.std.specs.List.{AllWithin, HoldsAt}
use Rattle.sensing.specs.declared.Held.{Held}
use Rattle.memory.specs.declared.entries.Entry.{Entry}
use Rattle.memory.specs.EntryPlaces.{of, find, apart, within, live, used, Free, Put}

pub some_none : {A : Type 0} {x : A} → Some x ≡ None → ⊥
some_none e = let z : ◌≡◌ {A = ℕ} 0 1 = cc in omega arith

pub none_is : {A : Type 0} (o : Option A) → is_some o ≡ false → o ≡ None
none_is None e = refl
none_is (Some x) e = absurd (true≢false e)

pub of_itself : (e : Entry) → of e e.index e.resource ≡ true
of_itself e = and_from _ _ (eq-eqb e.index e.index refl) (eq-eqb e.resource e.resource refl)

pub of_same : (e : Entry) (i a : ℕ) → of e i a ≡ true → (i ≡ e.index) × (a ≡ e.resource)
of_same e i a t = let w = and_parts _ _ t in (sym (eqb-true _ _ w.0), sym (eqb-true _ _ w.1))

pub of_other : (e : Entry) (i a : ℕ) → ((i ≡ e.index) × (a ≡ e.resource) → ⊥) → of e i a ≡ false
of_other e i a ne = ⊎_elim (λ t. absurd (ne (of_same e i a t))) (λ t. t) (cases_Bool (of e i a))

-- where nothing is found, the first entry is of another key, and nothing is found behind it
pub not_found : (x : Entry) (ps : List (Option Entry)) (i a : ℕ) → find (Some x ∷ ps) i a ≡ None → (of x i a ≡ false) × (find ps i a ≡ None)
not_found x ps i a h =
    ⊎_elim
    (λ t. absurd (some_none (sym (cond-true _ (Some x.held) (find ps i a) t) ∙ h)))
    (λ t. (t, sym (cond-false _ (Some x.held) (find ps i a) t) ∙ h))
    (cases_Bool (of x i a))

-- what the first place holds is found, and if it does not hold it, what is found behind it
pub first_some : (p : Option Entry) (ps : List (Option Entry)) (i a : ℕ) (h : Held) → Some h ≡ find (p ∷ []) i a → Some h ≡ find (p ∷ ps) i a
first_some None ps i a h e = absurd (some_none e)
first_some (Some x) ps i a h e =
    ⊎_elim
    (λ t. e ∙ cond-true _ (Some x.held) None t ∙ sym (cond-true _ (Some x.held) (find ps i a) t))
    (λ t. absurd (some_none (e ∙ cond-false _ (Some x.held) None t)))
    (cases_Bool (of x i a))

pub first_none : (p : Option Entry) (ps : List (Option Entry)) (i a : ℕ) → None ≡ find (p ∷ []) i a → find (p ∷ ps) i a ≡ find ps i a
first_none None ps i a e = refl
first_none (Some x) ps i a e = cond-false _ (Some x.held) (find ps i a) (not_found x [] i a (sym e)).0

-- what is found is what the first place holds that holds any of it
module _ (i a : ℕ) where
  abbrev Misses : List (Option Entry) → ℕ → Type 0
  Misses ps n = (k : ℕ) → k < n → find (get_or ps k None ∷ []) i a ≡ None

  find_none : (ps : List (Option Entry)) → Misses ps (length ps) → find ps i a ≡ None
  find_none [] h = refl
  find_none (p ∷ ps) h = first_none p ps i a (sym (h 0 (omega arith))) ∙ find_none ps (λ k l. h (suc k) (omega arith))

  find_some : (ps : List (Option Entry)) (x : Held) (n : ℕ) → n < length ps → find (get_or ps n None ∷ []) i a ≡ Some x → Misses ps n → find ps i a ≡ Some x
  find_some [] x n less e h = absurd (omega arith)
  find_some (p ∷ ps) x zero less e h = sym (first_some p ps i a x (sym e))
  find_some (p ∷ ps) x (suc n) less e h = first_none p ps i a (sym (h 0 (omega arith))) ∙ find_some ps x n (omega arith) e (λ k l. h (suc k) (omega arith))

  pub found : (ps : List (Option Entry)) (r : Option Held) → (r ≡ None → Misses ps (length ps)) → ((x : Held) → r ≡ Some x → (n : ℕ) × (n < length ps) × (find (get_or ps n None ∷ []) i a ≡ Some x) × Misses ps n) → r ≡ find ps i a
  found ps None h g = sym (find_none ps (h refl))
  found ps (Some x) h g = let w = g x refl in sym (find_some ps x w.0 w.1 w.2 w.3)

module _ (e : Entry) where
  put_here : (ps : List (Option Entry)) (k : ℕ) → k < length ps → find ps e.index e.resource ≡ None → find (set ps k (Some e)) e.index e.resource ≡ Some e.held
  put_here [] k less h = absurd (omega arith)
  put_here (p ∷ ps) zero less h = cond-true _ (Some e.held) (find ps e.index e.resource) (of_itself e)
  put_here (None ∷ ps) (suc k) less h = put_here ps k (omega arith) h
  put_here (Some x ∷ ps) (suc k) less h =
      let w = not_found x ps e.index e.resource h in
      cond-false _ (Some x.held) (find (set ps k (Some e)) e.index e.resource) w.0 ∙ put_here ps k (omega arith) w.1

  put_others : (ps : List (Option Entry)) (k i a : ℕ) → get_or ps k None ≡ None → ((i ≡ e.index) × (a ≡ e.resource) → ⊥) → find (set ps k (Some e)) i a ≡ find ps i a
  put_others [] k i a free ne = refl
  put_others (None ∷ ps) zero i a free ne = cond-false _ (Some e.held) (find ps i a) (of_other e i a ne)
  put_others (Some x ∷ ps) zero i a free ne = absurd (some_none free)
  put_others (None ∷ ps) (suc k) i a free ne = put_others ps k i a free ne
  put_others (Some x ∷ ps) (suc k) i a free ne = ap (cond (of x i a) (Some x.held)) (put_others ps k i a free ne)

  put_apart : (ps : List (Option Entry)) (k : ℕ) → get_or ps k None ≡ None → apart ps ≡ true → find ps e.index e.resource ≡ None → apart (set ps k (Some e)) ≡ true
  put_apart [] k free t h = refl
  put_apart (None ∷ ps) zero free t h = and_from _ _ (ap (λ (o : Option Held). not (is_some o)) h) t
  put_apart (Some x ∷ ps) zero free t h = absurd (some_none free)
  put_apart (None ∷ ps) (suc k) free t h = put_apart ps k free t h
  put_apart (Some x ∷ ps) (suc k) free t h =
      let w = not_found x ps e.index e.resource h in
      let both = and_parts _ _ t in
      let ne : (x.index ≡ e.index) × (x.resource ≡ e.resource) → ⊥ =
      λ same. true≢false (sym (and_from _ _ (eq-eqb x.index e.index same.0) (eq-eqb x.resource e.resource same.1)) ∙ w.0) in
      and_from _ _ (ap (λ (o : Option Held). not (is_some o)) (put_others ps k x.index x.resource free ne) ∙ both.0) (put_apart ps k free both.1 w.1)

  put_live : (n low next : ℕ) (ps : List (Option Entry)) (k : ℕ) → live n low next ps ≡ true → within n low next (Some e) ≡ true → live n low next (set ps k (Some e)) ≡ true
  put_live n low next [] k t h = refl
  put_live n low next (p ∷ ps) zero t h = and_from _ _ h (and_parts _ _ t).1
  put_live n low next (p ∷ ps) (suc k) t h = let w = and_parts _ _ t in and_from _ _ w.0 (put_live n low next ps k w.1 h)

  put_used : (ps : List (Option Entry)) (k : ℕ) → k < length ps → get_or ps k None ≡ None → used (set ps k (Some e)) ≡ used ps + 1
  put_used [] k less free = absurd (omega arith)
  put_used (None ∷ ps) zero less free = refl
  put_used (Some x ∷ ps) zero less free = absurd (some_none free)
  put_used (None ∷ ps) (suc k) less free = put_used ps k (omega arith) free
  put_used (Some x ∷ ps) (suc k) less free = ap (λ m. m + 1) (put_used ps k (omega arith) free)

pub used_le : (ps : List (Option Entry)) → used ps ≤ length ps
used_le [] = omega arith
used_le (None ∷ ps) = omega (arith, used_le ps)
used_le (Some x ∷ ps) = omega (arith, used_le ps)

pub used_less : (ps : List (Option Entry)) (k : ℕ) → k < length ps → get_or ps k None ≡ None → used ps < length ps
used_less [] k less free = absurd (omega arith)
used_less (None ∷ ps) zero less free = omega (arith, used_le ps)
used_less (Some x ∷ ps) zero less free = absurd (some_none free)
used_less (None ∷ ps) (suc k) less free = omega (arith, used_less ps k (omega arith) free)
used_less (Some x ∷ ps) (suc k) less free = omega (arith, used_less ps k (omega arith) free)

pub used_full : (ps : List (Option Entry)) → ((k : ℕ) → k < length ps → is_some (get_or ps k None) ≡ true) → used ps ≡ length ps
used_full [] h = refl
used_full (None ∷ ps) h = absurd (true≢false (sym (h 0 (omega arith))))
used_full (Some x ∷ ps) h = omega (arith, used_full ps (λ k l. h (suc k) (omega arith)))

-- the first place that holds nothing, or there is none
pub first_free : (ps : List (Option Entry)) (r : Option ℕ) → MatchOption r (AllWithin (λ p. is_some p ≡ true) ps 0 (length ps)) (λ i. (i < length ps) × HoldsAt (λ p. p ≡ None) ps i × AllWithin (λ p. is_some p ≡ true) ps 0 i) → MatchOption r (used ps ≡ length ps) (Free ps)
first_free ps None h = used_full ps (λ k l. h k None (omega arith) l)
first_free ps (Some i) h = record { inside = h.0; free = h.1 None; before = λ j l. h.2 j None (omega arith) l }

pub put_at : (ps : List (Option Entry)) (k : ℕ) (e : Entry) → k < length ps → get_or ps k None ≡ None → Put ps e (set ps k (Some e))
put_at ps k e less free =
    record {
      size = length-set ps k (Some e);
      here = put_here e ps k less;
      others = λ i a ne. put_others e ps k i a free ne;
      keys = put_apart e ps k free;
      lives = λ n low next. put_live e n low next ps k;
      count = put_used e ps k less free;
      room = used_less ps k less free;
    }
