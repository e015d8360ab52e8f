-- As many places are taken as records are found. Assumes nothing.
use Rattle.std.proofs.Common.{◌≡◌, ℕ, zero, suc, ◌+◌, ◌-◌, ◌<◌, ◌≤◌, Bool, true, false, cond, ◌&&◌, eqb, List, [], ◌∷◌, is_some, Some, None, Option, refl, ap, ◌∙◌, subst, ⊎_elim, arith}
use Rattle.std.proofs.lemmas.Bool.{cases_eq, and_parts, eq-eqb, ne_eqb, ltb-true, leb-true, not-true}
use Rattle.rules.specs.Counting.{one, count_below}
use Rattle.rules.specs.Sensing.{sum_below}
use Rattle.rules.proofs.Counts.{count_split}
use Rattle.sensing.specs.declared.Held.{Held}
use Rattle.sensing.specs.Memories.{option_held_of}
use Rattle.memory.specs.declared.entries.Entry.{Entry}
use Rattle.memory.specs.EntryPlaces.{of, find, apart, live, used}
use Rattle.memory.proofs.EntryPutting.{of_same}

-- how many of the resources below n at the w indices pass
abbrev grid : (ℕ → ℕ → Bool) → ℕ → ℕ → ℕ
grid f n w = sum_below (λ k. count_below (f k) n) w

grid_split : (p q r : ℕ → ℕ → Bool) (n w : ℕ) → ((k a : ℕ) → one (p k a) + one (q k a) ≡ one (r k a)) → grid p n w + grid q n w ≡ grid r n w
grid_split p q r n zero h = refl
grid_split p q r n (suc w) h =
    let e = grid_split p q r n w h in
    let f = count_split (p w) (q w) (r w) n (λ a l. h w a) in
    omega arith

count_none : (n : ℕ) → count_below (λ a. false) n ≡ 0
count_none zero = refl
count_none (suc n) = omega (arith, count_none n)

grid_none : (n w : ℕ) → grid (λ k a. false) n w ≡ 0
grid_none n zero = refl
grid_none n (suc w) = omega (arith, grid_none n w, count_none n)

-- one number is equal to b below n, if b is
count_past : (b n : ℕ) → n ≤ b → count_below (λ a. eqb b a) n ≡ 0
count_past b zero h = refl
count_past b (suc n) h = let e = count_past b n (omega arith) in let f = ap one (ne_eqb b n (λ s. omega arith)) in omega arith

count_one : (b n : ℕ) → b < n → count_below (λ a. eqb b a) n ≡ 1
count_one b zero h = absurd (omega arith)
count_one b (suc n) h =
    ⊎_elim
    (λ (s : b ≡ n). let e = count_past b n (omega arith) in let f = ap one (eq-eqb b n s) in omega arith)
    (λ (s : b ≡ n → ⊥). let e = count_one b n (omega (arith, s)) in let f = ap one (ne_eqb b n s) in omega arith)
    (cases_eq b n)

row_one : (x : Bool) (b n : ℕ) → b < n → count_below (λ a. x && eqb b a) n ≡ one x
row_one true b n h = count_one b n h
row_one false b n h = count_none n

module _ (low i b n : ℕ) (less : b < n) where
  hits_past : (w : ℕ) → low + w ≤ i → grid (λ k a. eqb i (low + k) && eqb b a) n w ≡ 0
  hits_past zero h = refl
  hits_past (suc w) h =
      let e = hits_past w (omega arith) in
      let f = row_one (eqb i (low + w)) b n less ∙ ap one (ne_eqb i (low + w) (λ s. omega arith)) in
      omega arith

  hits : (w : ℕ) → low ≤ i → i < low + w → grid (λ k a. eqb i (low + k) && eqb b a) n w ≡ 1
  hits zero h l = absurd (omega arith)
  hits (suc w) h l =
      ⊎_elim
      (λ (s : i ≡ low + w).
      let e = hits_past w (omega arith) in
      let f = row_one (eqb i (low + w)) b n less ∙ ap one (eq-eqb i (low + w) s) in
      omega arith)
      (λ (s : i ≡ low + w → ⊥).
      let e = hits w h (omega (arith, s)) in
      let f = row_one (eqb i (low + w)) b n less ∙ ap one (ne_eqb i (low + w) s) in
      omega arith)
      (cases_eq i (low + w))

same_some : (o : Option Held) → is_some (option_held_of o) ≡ is_some o
same_some None = refl
same_some (Some h) = refl

-- one entry more: what is found is at its key, or is found without it, and not both
split : (e : Entry) (o : Option Held) (x : Bool) → (x ≡ true → is_some o ≡ false) → one x + one (is_some (option_held_of o)) ≡ one (is_some (option_held_of (cond x (Some e.held) o)))
split e o true h = ap (λ b. 1 + one b) (same_some o ∙ h refl)
split e o false h = omega arith

module _ (n low w : ℕ) where
  taken : (ps : List (Option Entry)) → apart ps ≡ true → live n low (low + w) ps ≡ true → grid (λ k a. is_some (option_held_of (find ps (low + k) a))) n (w + 1) ≡ used ps
  taken [] t h = grid_none n (w + 1)
  taken (None ∷ ps) t h = taken ps t h
  taken (Some e ∷ ps) t h =
      let u = and_parts _ _ t in
      let v = and_parts _ _ h in
      let lives = and_parts _ _ v.0 in
      let more = and_parts _ _ lives.1 in
      let rest = taken ps u.1 v.1 in
      let alone : (k a : ℕ) → of e (low + k) a ≡ true → is_some (find ps (low + k) a) ≡ false =
      λ k a s. let same = of_same e (low + k) a s in ap (λ j. is_some (find ps j a)) same.0 ∙ ap (λ b. is_some (find ps e.index b)) same.1 ∙ not-true _ u.0 in
      let both = grid_split (λ k a. of e (low + k) a) (λ k a. is_some (option_held_of (find ps (low + k) a))) (λ k a. is_some (option_held_of (find (Some e ∷ ps) (low + k) a))) n (w + 1) (λ k a. split e (find ps (low + k) a) (of e (low + k) a) (alone k a)) in
      let key = hits low e.index e.resource n (ltb-true _ _ more.1) (w + 1) (leb-true _ _ lives.0) (omega (arith, leb-true _ _ more.0)) in
      omega arith

-- how many records are found from next - w to next
pub counted : (n w next : ℕ) (ps : List (Option Entry)) → w ≤ next → apart ps ≡ true → live n (next - w) next ps ≡ true → sum_below (λ k. count_below (λ a. is_some (option_held_of (find ps (next - w + k) a))) n) (w + 1) ≡ used ps
counted n w next ps le t h =
    let e : next ≡ next - w + w = omega arith in
    taken n (next - w) w ps t (subst (λ m. live n (next - w) m ps ≡ true) e h)
