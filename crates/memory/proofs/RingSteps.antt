-- What a write to a ring does to a memory over it. Assumes nothing.
use Rattle.std.proofs.Common.{◌≡◌, ℕ, ◌+◌, ◌*◌, ◌%◌, ◌<◌, ◌≤◌, true, eqb, Option, refl, ap, ◌∙◌, ⊎_elim, arith}
use Rattle.std.proofs.lemmas.Bool.{eq-eqb, eqb-true, cases_Bool, cond-true, cond-false}
use Rattle.rules.specs.Sensing.{Meaning, Cell, blank, Inside, Held, Frame, Changed, New, Nothing, Sound, held_count}
use Rattle.sensing.specs.declared.State.{State}
use Rattle.sensing.specs.declared.State.TheVariants.{Blank}
use Rattle.memory.specs.declared.rows.Row.{Row}
use Rattle.memory.specs.declared.ring.Ring.{Ring}
use Rattle.memory.specs.RowCells.{row_at, row_of, claimed, cell_at, Near}
use Rattle.memory.specs.Rings.{cells, stamped, place, over, alone, Same, Claimed, Written, Slid}
use Rattle.memory.proofs.RowCells.{row_here, row_other, past_blank}

pub near : (r : Ring) (i j : ℕ) → Inside (alone r) i → Inside (alone r) j → Near r.window i j
near r i j p q = let a = p.0 in let b = p.1 in let c = q.0 in let d = q.1 in (omega arith, omega arith)

-- rings of the same numbers
module _ (n : ℕ) (r r' : Ring) (same : Same n r r') where
  pub place_same : (i a : ℕ) → place r' i a ≡ place r i a
  place_same i a = ap (λ w. i % (w + 1) * r'.channels + a) same.window ∙ ap (λ k. i % (r.window + 1) * k + a) same.channels

  pub room_same : (r'.window + 1) * r'.channels ≡ (r.window + 1) * r.channels
  room_same = ap (λ w. (w + 1) * r'.channels) same.window ∙ ap (λ k. (r.window + 1) * k) same.channels

  pub frame : (k k' : ℕ) (held held' : ℕ → ℕ → Option Held) → k' ≡ k → Frame (over r k held) n (over r' k' held')
  frame k k' held held' e = record { channels = same.channels; window = same.window; places = e; next = same.next }

-- a row that was written
module _ (i : ℕ) (s : State) (c : Cell) (r r' : Ring) (done : Written i s c r r') where
  pub written_here : stamped r' i ≡ true
  written_here =
      ap (λ w. eqb (row_at w r'.rows.now i).index i) done.same.window
      ∙ eq-eqb _ _ (ap (λ (x : Row). x.index) (row_here r.window i r.rows.now r'.rows.now _ r.long done.row))

  pub written_other : (j : ℕ) → Near r.window i j → (j ≡ i → ⊥) → stamped r' j ≡ stamped r j
  written_other j by ne =
      ap (λ w. eqb (row_at w r'.rows.now j).index j) done.same.window
      ∙ ap (λ (x : Row). eqb x.index j) (row_other r.window i r.rows.now r'.rows.now _ r.long done.row j by ne)

  -- the memory changes by the cell, where its records stay
  pub changed : Inside (alone r) i → (k k' : ℕ) (held held' : ℕ → ℕ → Option Held) → k' ≡ k → ((j a : ℕ) → Inside (alone r) j → a < r.channels → held' j a ≡ held j a) → Changed (over r k held) i c (over r' k' held')
  changed in-i k k' held held' e stay =
      record {
        frame = frame r.next r r' done.same k k' held held' e;
        here = done.here;
        others = λ j in-j ne. done.others j (near r i j in-i in-j) ne;
        records = stay;
      }

-- a ring that moved on: it holds what it held
module _ (n : ℕ) (r r' : Ring) (done : Slid n r r') where
  pub slid_cells : (i : ℕ) → cells r' i ≡ cells r i
  slid_cells i =
      ap (λ k. cell_at k r'.window r'.rows.now r'.readings.now i) done.same.channels
      ∙ ap (λ w. cell_at r.channels w r'.rows.now r'.readings.now i) done.same.window
      ∙ ap (λ l. cell_at r.channels r.window l r'.readings.now i) done.rows
      ∙ ap (λ l. cell_at r.channels r.window r.rows.now l i) done.readings

  pub slid_stamped : (i : ℕ) → stamped r' i ≡ stamped r i
  slid_stamped i = ap (λ w. eqb (row_at w r'.rows.now i).index i) done.same.window ∙ ap (λ l. eqb (row_at r.window l i).index i) done.rows

  -- no index past the next one of before has a cell
  pub slid_past : (i : ℕ) → r.next < i → cells r' i ≡ blank
  slid_past i past = slid_cells i ∙ past_blank r.channels r.window r.next r.rows.now r.readings.now i r.long r.upto past

-- a ring that holds nothing
pub begun : (n w : ℕ) (r : Ring) → r.channels ≡ n → r.window ≡ w → r.next ≡ w → Nothing (alone r) → New n w 0 (alone r)
begun n w r channels window next nothing = record { channels = channels; window = window; next = next; places = refl; nothing = nothing }

-- a memory that holds nothing is sound
pub empty_sound : (m : Meaning) → Nothing m → 1 ≤ m.channels → m.channels ≤ 20 → m.window ≤ 1000 → m.window ≤ m.next → 1 ≤ m.places → held_count m ≤ m.places → Sound m
empty_sound m nothing some few short old roomy room =
    record {
      some = some;
      few = few;
      short = short;
      old = old;
      roomy = roomy;
      heard = λ i rs inside e. let f = nothing.cells i inside in let z : ◌≡◌ {A = ℕ} 0 1 = cc in absurd (omega arith);
      fair = λ i a h inside less e. let f = nothing.records i a inside less in let z : ◌≡◌ {A = ℕ} 0 1 = cc in absurd (omega arith);
      bare = λ i a inside less e. nothing.records i a inside less;
      room = room;
    }

claimed_index : (i : ℕ) (x : Row) → (claimed i x).index ≡ i
claimed_index i x =
    ⊎_elim
    (λ e. ap (λ (y : Row). y.index) (cond-true _ x (row_of i Blank) e) ∙ eqb-true _ _ e)
    (λ e. ap (λ (y : Row). y.index) (cond-false _ x (row_of i Blank) e))
    (cases_Bool (eqb x.index i))

-- a row that was claimed
module _ (i : ℕ) (r r' : Ring) (done : Claimed i r r') where
  pub claimed_here : stamped r' i ≡ true
  claimed_here =
      ap (λ w. eqb (row_at w r'.rows.now i).index i) done.same.window
      ∙ eq-eqb _ _ (ap (λ (x : Row). x.index) (row_here r.window i r.rows.now r'.rows.now _ r.long done.row) ∙ claimed_index i (row_at r.window r.rows.now i))

  pub claimed_other : (j : ℕ) → Near r.window i j → (j ≡ i → ⊥) → stamped r' j ≡ stamped r j
  claimed_other j by ne =
      ap (λ w. eqb (row_at w r'.rows.now j).index j) done.same.window
      ∙ ap (λ (x : Row). eqb x.index j) (row_other r.window i r.rows.now r'.rows.now _ r.long done.row j by ne)
