-- The rows of all slots are the candidates, and what each says of its candidate. Assumes nothing.
use Rattle.std.proofs.Common.{Option, ◌≡◌, ℕ, zero, suc, ◌+◌, ◌-◌, ◌<◌, ◌≤◌, Bool, true, false, cond, ◌&&◌, List, [], ◌∷◌, ◌++◌, map, length, get_or, filter, sym, refl, ap, ◌∙◌, subst, ⊎_elim, arith}
use mathlib.Core.List.{map-map}
use Rattle.std.specs.List.{range_with_len, flat_map, AllByRecursion}
use Rattle.std.proofs.lemmas.List.FromFn.{fill_by_all}
use Rattle.std.proofs.ByRecursion.{All-append, All-get_or, All-map, All-weaker}
use Rattle.std.proofs.lemmas.List.{map-append}
use Rattle.std.proofs.lemmas.List.Folds.{flat_map-map}
use Rattle.std.proofs.lemmas.Bool.{cases_Bool, and_parts}
use Rattle.rules.specs.Calendar.{Pool, in_set, in_pool, index}
use Rattle.rules.specs.Choose.{Question, Place as Meant, across, joined_all, subframes, candidates}
use Rattle.rules.specs.Sensing.{Meaning}
use Rattle.choosing.specs.Slots.{origin, slot_at}
use Rattle.choosing.specs.declared.Slot.{Slot}
use Rattle.measuring.specs.Means.{MeansAre}
use Rattle.measuring.specs.declared.Mean.{Mean}
use Rattle.reserving.specs.Needs.{NeedsAre}
use Rattle.reserving.specs.declared.Need.{Need}
use Rattle.selecting.specs.Chosen.{SetSubframe}
use Rattle.selecting.specs.Entries.{candidate_of, reported}
use Rattle.selecting.specs.Lists.{entry_at, row_of, rows_of}
use Rattle.selecting.specs.declared.Entry.{Entry}
use Rattle.selecting.proofs.Told.{Told}

map_joined : {X Y Z : Type 0} (f : Y → Z) (g : X → List Y) (h : X → List Z) (xs : List X) → ((x : X) → map f (g x) ≡ h x) → map f (flat_map g xs) ≡ flat_map h xs
map_joined f g h [] e = refl
map_joined f g h (x ∷ xs) e = map-append f (g x) (flat_map g xs) ∙ ap (λ ys. ys ++ map f (flat_map g xs)) (e x) ∙ ap (λ ys. h x ++ ys) (map_joined f g h xs e)

joined_is : {X Z : Type 0} (h : X → List Z) (xs : List X) → joined_all (map h xs) ≡ flat_map h xs
joined_is h [] = refl
joined_is h (x ∷ xs) = ap (λ ys. h x ++ ys) (joined_is h xs)

-- by the places of a list, and by the list
joined_places : {X Z : Type 0} (h : X → List Z) (d : X) (xs : List X) → flat_map (λ i. h (get_or xs i d)) (range_with_len 0 (length xs)) ≡ flat_map h xs
joined_places h d xs =
    sym (flat_map-map h (λ i. get_or xs i d) (range_with_len 0 (length xs))) ∙ ap (flat_map h) (sym (fill_by_all (λ i. get_or xs i d) xs (length xs) d refl (λ k l. refl)))

abbrev places : ℕ → ℕ → List Meant
places width y = map (λ x. record { channel = x; at = y }) (range_with_len 0 width)

module _ (p : Pool) (now : ℕ) (q : Question) (slots : List Slot) (width : ℕ) (needs : List (List Need)) (means : List (List (Option Mean))) (are : slots ≡ map (slot_at p) (subframes p now q)) (wide : width ≡ p.channels + 1 - q.length) where
  pub rows_are : map candidate_of (rows_of slots width needs means (length slots)) ≡ candidates p now q
  unfolding candidates
  rows_are =
      map_joined candidate_of (row_of slots width needs means) (λ i. places width (get_or slots i origin).index) (range_with_len 0 (length slots))
      (λ i. map-map candidate_of (entry_at (get_or slots i origin) (get_or needs i []) (get_or means i [])) (range_with_len 0 width))
      ∙ joined_places (λ (s : Slot). places width s.index) origin slots
      ∙ ap (λ w. flat_map (λ (s : Slot). places w s.index) slots) wide
      ∙ ap (flat_map (λ (s : Slot). across p q s.index)) are
      ∙ flat_map-map (λ (s : Slot). across p q s.index) (slot_at p) (subframes p now q)
      ∙ sym (joined_is (λ s. across p q (index p s)) (subframes p now q))

-- what holds of each counted number
all_counted : (P : ℕ → Type 0) (a n : ℕ) → ((i : ℕ) → a ≤ i → i < a + n → P i) → AllByRecursion P (range_with_len a n)
all_counted P a zero h = tt
all_counted P a (suc n) h = (h a (omega arith) (omega arith), all_counted P (a + 1) n (λ i low high. h i (omega arith) (omega arith)))

all_joined : {X Y : Type 0} (P : Y → Type 0) (g : X → List Y) (xs : List X) → AllByRecursion (λ x. AllByRecursion P (g x)) xs → AllByRecursion P (flat_map g xs)
all_joined P g [] a = tt
all_joined P g (x ∷ xs) a = All-append P (g x) (flat_map g xs) a.0 (all_joined P g xs a.1)

-- what holds of each entry by its slot and its first sub-channel
all_rows : (P : Entry → Type 0) (slots : List Slot) (width : ℕ) (needs : List (List Need)) (means : List (List (Option Mean))) → ((i x : ℕ) → i < length slots → x < width → P (entry_at (get_or slots i origin) (get_or needs i []) (get_or means i []) x)) → AllByRecursion P (rows_of slots width needs means (length slots))
all_rows P slots width needs means h =
    all_joined P (row_of slots width needs means) (range_with_len 0 (length slots))
    (all_counted (λ i. AllByRecursion P (row_of slots width needs means i)) 0 (length slots)
    (λ i _ high.
    let few : i < length slots = omega arith in
    All-map P (entry_at (get_or slots i origin) (get_or needs i []) (get_or means i [])) (range_with_len 0 width)
    (all_counted (λ x. P (entry_at (get_or slots i origin) (get_or needs i []) (get_or means i []) x)) 0 width
    (λ x _ top. h i x few (omega arith)))))

module _ (p : Pool) (now : ℕ) (m : Meaning) (q : Question) (slots : List Slot) (width : ℕ) (needs : List (List Need)) (means : List (List (Option Mean))) where
  pub rows_told : width ≡ p.channels + 1 - q.length → q.length ≤ p.channels → 1 ≤ q.length → p.channels ≤ 20 → NeedsAre p m q slots needs → MeansAre p m q slots means → AllByRecursion (Told p now m q) (rows_of slots width needs means (length slots))
  rows_told wide short some few n a =
      all_rows (Told p now m q) slots width needs means
      (λ i x low top. record { survives_at = λ r h. n i x r low (omega arith); mean_is = a i x low (omega arith) (omega arith) })

-- each subframe of the candidates is in the set
kept_true : (f : ℕ → Bool) (xs : List ℕ) → AllByRecursion (λ s. f s ≡ true) (filter f xs)
kept_true f [] = tt
kept_true f (x ∷ xs) =
    ⊎_elim
    (λ (t : f x ≡ true). subst (λ b. AllByRecursion (λ s. f s ≡ true) (cond b (x ∷ filter f xs) (filter f xs))) (sym t) (t, kept_true f xs))
    (λ (t : f x ≡ false). subst (λ b. AllByRecursion (λ s. f s ≡ true) (cond b (x ∷ filter f xs) (filter f xs))) (sym t) (kept_true f xs))
    (cases_Bool (f x))

pub rows_set : (p : Pool) (now : ℕ) (q : Question) (slots : List Slot) (width : ℕ) (needs : List (List Need)) (means : List (List (Option Mean))) → slots ≡ map (slot_at p) (subframes p now q) → AllByRecursion (λ e. SetSubframe p (reported e)) (rows_of slots width needs means (length slots))
rows_set p now q slots width needs means are =
    let Right : Slot → Type 0 = λ s. (in_set p s.subframe ≡ true) × (index p s.subframe ≡ s.index) in
    let wanted : ℕ → Bool = λ s. in_set p s && in_pool p (index p s) in
    let every = kept_true wanted (range_with_len (now + q.from) (q.to + 1 - q.from)) in
    let all : AllByRecursion Right (map (slot_at p) (subframes p now q)) =
    All-map Right (slot_at p) (subframes p now q)
    (All-weaker (λ s. wanted s ≡ true) (λ s. Right (slot_at p s)) (λ s t. ((and_parts (in_set p s) (in_pool p (index p s)) t).0, refl)) (subframes p now q) every) in
    let all' : AllByRecursion Right slots = subst (AllByRecursion Right) (sym are) all in
    all_rows (λ e. SetSubframe p (reported e)) slots width needs means
    (λ i x low top. let w = All-get_or Right slots i origin low all' in record { member = w.0; index_is = w.1 })
