-- The entries from an index on, and no entries. Assumes nothing.
use Rattle.std.proofs.Common.{◌≡◌, ℕ, suc, ◌<◌, ◌≤◌, Bool, true, false, cond, not, ◌&&◌, ltb, leb, List, [], ◌∷◌, map, length, get_or, replicate, is_some, Some, None, Option, sym, refl, ap, ◌∙◌, ⊎_elim, arith}
use Rattle.std.proofs.lemmas.List.{length-replicate, get_or-replicate}
use Rattle.std.proofs.lemmas.Bool.{cases_Bool, and_parts, and_from, ltb-false, leb-true, le-leb, cond-true, cond-false}
use Rattle.sensing.specs.declared.Held.{Held}
use Rattle.memory.specs.declared.entries.Entry.{Entry}
use Rattle.memory.specs.EntryPlaces.{of, find, apart, within, live, kept_from, Dropped, Emptied}
use Rattle.memory.proofs.EntryPutting.{of_same, some_none}

cond_same : {A : Type 0} (b : Bool) (x : A) → cond b x x ≡ x
cond_same true x = refl
cond_same false x = refl

module _ (low : ℕ) where
  -- the first entry is dropped, or it stays
  front : {A : Type 0} (F : List (Option Entry) → A) (e : Entry) (ps : List (Option Entry)) (x : A) → (ltb e.index low ≡ true → F (None ∷ map (kept_from low) ps) ≡ x) → (ltb e.index low ≡ false → F (Some e ∷ map (kept_from low) ps) ≡ x) → F (map (kept_from low) (Some e ∷ ps)) ≡ x
  front F e ps x gone stays =
      ⊎_elim
      (λ t. ap (λ p. F (p ∷ map (kept_from low) ps)) (cond-true _ None (Some e) t) ∙ gone t)
      (λ t. ap (λ p. F (p ∷ map (kept_from low) ps)) (cond-false _ None (Some e) t) ∙ stays t)
      (cases_Bool (ltb e.index low))

  -- an entry of an index below low is not looked for from low on, and one from low on is not looked for below
  past : (e : Entry) (i a : ℕ) (o : Option Held) → ltb e.index low ≡ true → cond (ltb i low) None o ≡ cond (ltb i low) None (cond (of e i a) (Some e.held) o)
  past e i a o t =
      ⊎_elim
      (λ s. let w = of_same e i a s in let u : ltb i low ≡ true = ap (λ j. ltb j low) w.0 ∙ t in cond-true _ None o u ∙ sym (cond-true _ None _ u))
      (λ s. ap (cond (ltb i low) None) (sym (cond-false _ (Some e.held) o s)))
      (cases_Bool (of e i a))

  stay : (e : Entry) (i a : ℕ) (o : Option Held) → ltb e.index low ≡ false → cond (of e i a) (Some e.held) (cond (ltb i low) None o) ≡ cond (ltb i low) None (cond (of e i a) (Some e.held) o)
  stay e i a o t =
      ⊎_elim
      (λ s. let w = of_same e i a s in let u : ltb i low ≡ false = ap (λ j. ltb j low) w.0 ∙ t in cond-true _ (Some e.held) _ s ∙ sym (cond-true _ (Some e.held) o s) ∙ sym (cond-false _ None _ u))
      (λ s. cond-false _ (Some e.held) _ s ∙ ap (cond (ltb i low) None) (sym (cond-false _ (Some e.held) o s)))
      (cases_Bool (of e i a))

  drop_find : (ps : List (Option Entry)) (i a : ℕ) → find (map (kept_from low) ps) i a ≡ cond (ltb i low) None (find ps i a)
  drop_find [] i a = sym (cond_same (ltb i low) None)
  drop_find (None ∷ ps) i a = drop_find ps i a
  drop_find (Some e ∷ ps) i a =
      front (λ qs. find qs i a) e ps _
      (λ t. drop_find ps i a ∙ past e i a (find ps i a) t)
      (λ t. ap (cond (of e i a) (Some e.held)) (drop_find ps i a) ∙ stay e i a (find ps i a) t)

  drop_apart : (ps : List (Option Entry)) → apart ps ≡ true → apart (map (kept_from low) ps) ≡ true
  drop_apart [] h = refl
  drop_apart (None ∷ ps) h = drop_apart ps h
  drop_apart (Some e ∷ ps) h =
      let w = and_parts _ _ h in
      front apart e ps true
      (λ t. drop_apart ps w.1)
      (λ t. and_from _ _ (ap (λ (o : Option Held). not (is_some o)) (drop_find ps e.index e.resource ∙ cond-false _ None _ t) ∙ w.0) (drop_apart ps w.1))

  drop_live : (n l next to : ℕ) (ps : List (Option Entry)) → live n l next ps ≡ true → next ≤ to → live n low to (map (kept_from low) ps) ≡ true
  drop_live n l next to [] h le = refl
  drop_live n l next to (None ∷ ps) h le = drop_live n l next to ps h le
  drop_live n l next to (Some e ∷ ps) h le =
      let w = and_parts (within n l next (Some e)) (live n l next ps) h in
      let v = and_parts (leb l e.index) (leb e.index next && ltb e.resource n) w.0 in
      let u = and_parts (leb e.index next) (ltb e.resource n) v.1 in
      front (live n low to) e ps true
      (λ t. drop_live n l next to ps w.1 le)
      (λ t. let more : e.index ≤ to = omega (arith, leb-true e.index next u.0) in
      and_from _ _ (and_from _ _ (le-leb _ _ (ltb-false _ _ t)) (and_from _ _ (le-leb _ _ more) u.1)) (drop_live n l next to ps w.1 le))

  pub dropped : (ps qs : List (Option Entry)) → qs ≡ map (kept_from low) ps → Dropped low ps qs
  dropped ps qs same =
      record {
        places = same;
        found = λ i a. ap (λ l. find l i a) same ∙ drop_find ps i a;
        keys = λ h. ap apart same ∙ drop_apart ps h;
        lives = λ n l next to h le. ap (live n low to) same ∙ drop_live n l next to ps h le;
      }

-- nothing in any place
bare_tail : (p : Option Entry) (ps : List (Option Entry)) → ((k : ℕ) → k < length (p ∷ ps) → get_or (p ∷ ps) k None ≡ None) → (k : ℕ) → k < length ps → get_or ps k None ≡ None
bare_tail p ps h k l = h (suc k) (omega arith)

emptied : (ps : List (Option Entry)) → ((k : ℕ) → k < length ps → get_or ps k None ≡ None) → Emptied ps
emptied [] h = record { found = λ i a. refl; keys = refl; lives = λ n low next. refl; count = refl }
emptied (None ∷ ps) h =
    let w = emptied ps (bare_tail None ps h) in
    record { found = w.found; keys = w.keys; lives = w.lives; count = w.count }
emptied (Some e ∷ ps) h = absurd (some_none (h 0 (omega arith)))

pub emptied_from : (n : ℕ) (ps : List (Option Entry)) → ps ≡ replicate n None → Emptied ps
emptied_from n ps is =
    emptied ps (λ k h. ap (λ l. get_or l k None) is ∙ get_or-replicate n k None None (omega (arith, ap length is, length-replicate {A = Option Entry} n None)))
