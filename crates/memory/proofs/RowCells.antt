-- Two indices of a window stand in two rows, and what a write to one row leaves of the others. Assumes nothing.
use Rattle.std.proofs.Common.{◌≡◌, ℕ, ◌+◌, ◌-◌, ◌*◌, ◌/◌, ◌%◌, ◌<◌, ◌≤◌, Bool, true, false, cond, eqb, List, ◌++◌, length, get_or, take, drop, set, replicate, Some, sym, refl, ap, ◌∙◌, subst, ⊎_elim, mul-le-mul_right, mod-lt, suc-mul, add-mul, one-mul, div-add-mod', arith}
use lib.Seq.{paste}
use Rattle.std.proofs.lemmas.List.{get_or-set_same, get_or-set_other, drop-take, drop-drop, drop_at, get_or-take, get_or-drop, take-append-le, take-take, take_all, length-take-le, length-append, length-replicate, get_or-replicate}
use Rattle.std.proofs.lemmas.List.Edits.{take-paste, drop-paste}
use Rattle.std.proofs.lemmas.Bool.{cases_lt, cases_Bool, cases_eq, cond-true, cond-false, eq-eqb, ne_eqb}
use Rattle.rules.specs.Sensing.{Cell, blank, mark, is_listened, reading_in}
use Rattle.sensing.specs.Memories.{mark_of}
use Rattle.sensing.specs.declared.State.{State}
use Rattle.sensing.specs.declared.State.TheVariants.{Blank, Listened, Sent}
use Rattle.memory.specs.declared.rows.Row.{Row}
use Rattle.memory.specs.RowCells.{bare_row, row_of, row_at, readings_of, cell_of, cell_at, claimed, Upto, Cleared, Near}

-- two products of m that lie less than m apart are one
apart : (m p q d : ℕ) → p * m ≡ q * m + d → 0 < d → d < m → ⊥
apart m p q d e some less =
    ⊎_elim
    (λ (h : p < q + 1). let k : p ≤ q = omega arith in omega (arith, mul-le-mul_right m k))
    (λ (h : q + 1 ≤ p). omega (arith, mul-le-mul_right m h, add-mul q 1 m, one-mul m))
    (cases_lt p (q + 1))

pub slots_apart : (w i j : ℕ) → Near w i j → (j ≡ i → ⊥) → j % (w + 1) ≡ i % (w + 1) → ⊥
slots_apart w i j near ne same =
    let di = div-add-mod' i (w + 1) in
    let dj = div-add-mod' j (w + 1) in
    let below : i ≤ j + w = near.0 in
    let above : j ≤ i + w = near.1 in
    ⊎_elim
    (λ (h : i < j). apart (w + 1) (j / (w + 1)) (i / (w + 1)) (j - i) (omega arith) (omega arith) (omega arith))
    (λ (h : j ≤ i). apart (w + 1) (i / (w + 1)) (j / (w + 1)) (i - j) (omega arith) (omega (arith, ne)) (omega arith))
    (cases_lt i j)

pub slot_below : (w i k : ℕ) → w < k → i % (w + 1) < k
slot_below w i k long = omega (arith, mod-lt i {m = w + 1} (omega arith))

-- the places of a row
pub block_below : (w n i k : ℕ) → (w + 1) * n ≤ k → i % (w + 1) * n + n ≤ k
block_below w n i k fits =
    let row = mod-lt i {m = w + 1} (omega arith) in
    omega (arith, mul-le-mul_right n row, suc-mul (i % (w + 1)) n)

pub blocks_apart : (n k s : ℕ) → k < s → k * n + n ≤ s * n
blocks_apart n k s h = omega (arith, mul-le-mul_right n h, suc-mul k n)

-- what a copy of n elements to the row at s leaves
module _ {X : Type 0} (d xs : List X) (n s : ℕ) (many : length xs ≡ n) (room : s * n + n ≤ length d) where
  pub block_here : take n (drop (s * n) (paste d (s * n) xs n)) ≡ xs
  block_here =
      sym (drop-take (s * n) n (paste d (s * n) xs n))
      ∙ ap (drop (s * n)) (take-paste d (s * n) xs n (omega arith) (omega arith))
      ∙ drop_at (take (s * n) d) (take n xs) (s * n) (length-take-le (s * n) d (omega arith))
      ∙ take_all n xs (omega arith)

  block_before : (k : ℕ) → k < s → take n (drop (k * n) (paste d (s * n) xs n)) ≡ take n (drop (k * n) d)
  block_before k h =
      let fits : k * n + n ≤ s * n = blocks_apart n k s h in
      let size : length (take (s * n) d) ≡ s * n = length-take-le (s * n) d (omega arith) in
      sym (drop-take (k * n) n (paste d (s * n) xs n))
      ∙ ap
      (drop (k * n))
      (take-append-le (k * n + n) (take (s * n) d ++ take n xs) _ (omega (arith, length-append (take (s * n) d) (take n xs)))
      ∙ take-append-le (k * n + n) (take (s * n) d) (take n xs) (omega arith)
      ∙ take-take (k * n + n) (s * n) d fits)
      ∙ drop-take (k * n) n d

  block_after : (k : ℕ) → s < k → take n (drop (k * n) (paste d (s * n) xs n)) ≡ take n (drop (k * n) d)
  block_after k h =
      let fits : s * n + n ≤ k * n = blocks_apart n s k h in
      let far : s * n + n + (k * n - (s * n + n)) ≡ k * n = omega arith in
      let part : (l : List X) → drop (k * n - (s * n + n)) (drop (s * n + n) l) ≡ drop (k * n) l = λ l. drop-drop (k * n - (s * n + n)) (s * n + n) l ∙ ap (λ m. drop m l) far in
      ap (take n) (sym (part (paste d (s * n) xs n)) ∙ ap (drop (k * n - (s * n + n))) (drop-paste d (s * n) xs n (omega arith) (omega arith)) ∙ part d)

  pub block_other : (k : ℕ) → (k ≡ s → ⊥) → take n (drop (k * n) (paste d (s * n) xs n)) ≡ take n (drop (k * n) d)
  block_other k ne = ⊎_elim (block_before k) (λ (h : s ≤ k). block_after k (omega (arith, ne))) (cases_lt k s)

-- the cell of an index, by its row and the readings of that row
abbrev cell_in : ℕ → Row → List ℕ → Cell
cell_in i r rs = cond (eqb r.index i) (cell_of r.state rs) blank

in_stamped : (i : ℕ) (s : State) (rs : List ℕ) → cell_in i (row_of i s) rs ≡ cell_of s rs
in_stamped i s rs = cond-true _ _ _ (eq-eqb i i refl)

in_claimed : (i : ℕ) (r : Row) (rs : List ℕ) → cell_in i (claimed i r) rs ≡ cell_in i r rs
in_claimed i r rs =
    ⊎_elim
    (λ e. ap (λ (x : Row). cell_in i x rs) (cond-true _ r (row_of i Blank) e))
    (λ e. ap (λ (x : Row). cell_in i x rs) (cond-false _ r (row_of i Blank) e) ∙ in_stamped i Blank rs ∙ sym (cond-false _ _ _ e))
    (cases_Bool (eqb r.index i))

-- the state of a cell is that of its row, and its readings stand in place
mark_of_cell : (s : State) (rs : List ℕ) → mark (cell_of s rs) ≡ mark_of s
mark_of_cell Blank rs = refl
mark_of_cell Listened rs = refl
mark_of_cell Sent rs = refl

-- the cell of an index whose row is stamped with it, or is not
pub stood_cell : (n w : ℕ) (rows : List Row) (readings : List ℕ) (i : ℕ) → eqb (row_at w rows i).index i ≡ true → mark (cell_at n w rows readings i) ≡ mark_of (row_at w rows i).state
unfolding cell_at
stood_cell n w rows readings i e = ap mark (cond-true _ _ _ e) ∙ mark_of_cell (row_at w rows i).state _

pub blank_cell : (n w : ℕ) (rows : List Row) (readings : List ℕ) (i : ℕ) → eqb (row_at w rows i).index i ≡ false → cell_at n w rows readings i ≡ blank
unfolding cell_at
blank_cell n w rows readings i e = cond-false _ _ _ e

reading_of : (s : State) (rs : List ℕ) (a : ℕ) → is_listened ≡ mark (cell_of s rs) → Some (get_or rs a 0) ≡ reading_in (cell_of s rs) a
reading_of Blank rs a e = let z : ◌≡◌ {A = ℕ} 0 1 = cc in absurd (omega arith)
reading_of Listened rs a e = refl
reading_of Sent rs a e = let z : ◌≡◌ {A = ℕ} 0 1 = cc in absurd (omega arith)

reading_by : (b : Bool) (s : State) (rs : List ℕ) (a : ℕ) → is_listened ≡ mark (cond b (cell_of s rs) blank) → Some (get_or rs a 0) ≡ reading_in (cond b (cell_of s rs) blank) a
reading_by true s rs a e = reading_of s rs a e
reading_by false s rs a e = let z : ◌≡◌ {A = ℕ} 0 1 = cc in absurd (omega arith)

pub reading_there : (n w : ℕ) (rows : List Row) (readings : List ℕ) (i a : ℕ) → a < n → is_listened ≡ mark (cell_at n w rows readings i) → Some (get_or readings (i % (w + 1) * n + a) 0) ≡ reading_in (cell_at n w rows readings i) a
unfolding cell_at
reading_there n w rows readings i a less e =
    let k = i % (w + 1) in
    ap Some (sym (get_or-drop (k * n) readings a 0) ∙ sym (get_or-take n (drop (k * n) readings) a 0 less))
    ∙ reading_by (eqb (row_at w rows i).index i) (row_at w rows i).state (readings_of n readings k) a e

-- rows' is rows with another row for the index i
module _ (w i : ℕ) (rows rows' : List Row) (r : Row) (long : w < length rows) (is : rows' ≡ set rows (i % (w + 1)) r) where
  pub row_here : row_at w rows' i ≡ r
  row_here = ap (λ l. row_at w l i) is ∙ get_or-set_same rows _ r bare_row (slot_below w i (length rows) long)

  pub row_other : (j : ℕ) → Near w i j → (j ≡ i → ⊥) → row_at w rows' j ≡ row_at w rows j
  row_other j near ne = ap (λ l. row_at w l j) is ∙ get_or-set_other rows _ _ r bare_row (slots_apart w i j near ne)

-- a row that was another index's is claimed
pub claimed_now : (w i : ℕ) (rows : List Row) → eqb (row_at w rows i).index i ≡ false → set rows (i % (w + 1)) (row_of i Blank) ≡ set rows (i % (w + 1)) (claimed i (row_at w rows i))
claimed_now w i rows e = sym (ap (set rows (i % (w + 1))) (cond-false _ (row_at w rows i) (row_of i Blank) e))

-- a row that is claimed, and one that is given a state
module _ (n w i : ℕ) (rows rows' : List Row) (readings : List ℕ) (long : w < length rows) where
  pub claimed_cell : rows' ≡ set rows (i % (w + 1)) (claimed i (row_at w rows i)) → (j : ℕ) → Near w i j → cell_at n w rows' readings j ≡ cell_at n w rows readings j
  unfolding cell_at
  claimed_cell is j near =
      let r = claimed i (row_at w rows i) in
      ⊎_elim
      (λ e.
      subst
      (λ k. cell_at n w rows' readings k ≡ cell_at n w rows readings k)
      (sym e)
      (ap (λ (x : Row). cell_in i x (readings_of n readings (i % (w + 1)))) (row_here w i rows rows' r long is) ∙ in_claimed i (row_at w rows i) (readings_of n readings (i % (w + 1)))))
      (λ ne. ap (λ (x : Row). cell_in j x (readings_of n readings (j % (w + 1)))) (row_other w i rows rows' r long is j near ne))
      (cases_eq j i)

  pub stamped_cell : (s : State) → rows' ≡ set rows (i % (w + 1)) (row_of i s) → cell_at n w rows' readings i ≡ cell_of s (readings_of n readings (i % (w + 1)))
  unfolding cell_at
  stamped_cell s is = ap (λ (x : Row). cell_in i x (readings_of n readings (i % (w + 1)))) (row_here w i rows rows' _ long is) ∙ in_stamped i s _

  pub other_cell : (s : State) → rows' ≡ set rows (i % (w + 1)) (row_of i s) → (j : ℕ) → Near w i j → (j ≡ i → ⊥) → cell_at n w rows' readings j ≡ cell_at n w rows readings j
  unfolding cell_at
  other_cell s is j near ne = ap (λ (x : Row). cell_in j x (readings_of n readings (j % (w + 1)))) (row_other w i rows rows' _ long is j near ne)

-- readings that are copied to the place of a row
module _ (n w i : ℕ) (new readings readings' : List ℕ) (many : length new ≡ n) (wide : (w + 1) * n ≤ length readings) (is : readings' ≡ paste readings (i % (w + 1) * n) new n) where
  pub copied_here : readings_of n readings' (i % (w + 1)) ≡ new
  copied_here = ap (λ l. readings_of n l (i % (w + 1))) is ∙ block_here readings new n (i % (w + 1)) many (block_below w n i _ wide)

  pub copied_other : (rows : List Row) (j : ℕ) → Near w i j → (j ≡ i → ⊥) → cell_at n w rows readings' j ≡ cell_at n w rows readings j
  unfolding cell_at
  copied_other rows j near ne =
      ap (cell_in j (row_at w rows j))
      (ap (λ l. readings_of n l (j % (w + 1))) is ∙ block_other readings new n (i % (w + 1)) many (block_below w n i _ wide) (j % (w + 1)) (slots_apart w i j near ne))

-- no index past next has anything, and where every row is as at the start no index has
pub past_blank : (n w next : ℕ) (rows : List Row) (readings : List ℕ) (i : ℕ) → w < length rows → Upto next rows → next < i → cell_at n w rows readings i ≡ blank
unfolding cell_at
past_blank n w next rows readings i long old past =
    let low : (row_at w rows i).index ≤ next = old (i % (w + 1)) (slot_below w i (length rows) long) in
    cond-false _ _ _ (ne_eqb _ _ (λ (e : (row_at w rows i).index ≡ i). omega arith))

pub cleared_blank : (n w : ℕ) (rows : List Row) (readings : List ℕ) (i : ℕ) → w < length rows → Cleared rows → cell_at n w rows readings i ≡ blank
unfolding cell_at
cleared_blank n w rows readings i long clear =
    ap (λ (x : Row). cell_in i x (readings_of n readings (i % (w + 1)))) (clear (i % (w + 1)) (slot_below w i (length rows) long))
    ∙ ⊎_elim (λ e. cond-true _ _ _ e) (λ e. cond-false _ _ _ e) (cases_Bool (eqb 0 i))

pub cleared_from : (n : ℕ) (rows : List Row) → rows ≡ replicate n bare_row → Cleared rows
cleared_from n rows is k h =
    ap (λ l. get_or l k bare_row) is ∙ get_or-replicate n k bare_row bare_row (omega (arith, ap length is, length-replicate n bare_row))
