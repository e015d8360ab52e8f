-- What the rows and the readings of a memory hold, and what a write to one row does. Assumes nothing.
use Rattle.std.specs.Prelude.{◌≡◌, ℕ, ◌+◌, ◌*◌, ◌%◌, Bool, None, Option, ◌==◌, ◌≢◌, slice_set}
use Rattle.rules.specs.Sensing.{Meaning, Cell, Held}
use Rattle.sensing.specs.declared.State.{State}
use Rattle.memory.specs.declared.ring.Ring.{Ring}
use Rattle.memory.specs.RowCells.{row_at, row_of, claimed, cell_at, Near}

-- what a ring holds for an index
abbrev pub cells : Ring → ℕ → Cell
cells r = cell_at r.channels r.window r.rows.now r.readings.now

-- is the row of an index stamped with it?
abbrev pub stamped : Ring → ℕ → Bool
stamped r i = (row_at r.window r.rows.now i).index == i

-- the place of a resource of an index
abbrev pub place : Ring → ℕ → ℕ → ℕ
place r i a = i % (r.window + 1) * r.channels + a

-- a memory over a ring, by the number of its record places and the records that it holds
abbrev pub over : Ring → ℕ → (ℕ → ℕ → Option Held) → Meaning
over r k held =
    record {
      channels = r.channels;
      window = r.window;
      next = r.next;
      places = k;
      cell = cells r;
      held = held;
    }

-- the ring by itself, without a record
abbrev pub alone : Ring → Meaning
alone r = over r 0 (λ i a. None)

-- the numbers stay, but for the next index, which is n
pub record Same (n : ℕ) (r r' : Ring) : Type 0 where
  pub channels : r'.channels ≡ r.channels
  pub window : r'.window ≡ r.window
  pub next : r'.next ≡ n

-- all stays but the next index, which is n
pub record Slid (n : ℕ) (r r' : Ring) : Type 0 where
  pub same : Same n r r'
  pub rows : r'.rows.now ≡ r.rows.now
  pub readings : r'.readings.now ≡ r.readings.now

-- the row of index i is made its own, and no cell near it changes
pub record Claimed (i : ℕ) (r r' : Ring) : Type 0 where
  pub same : Same r.next r r'
  pub row : r'.rows.now ≡ slice_set r.rows.now (i % (r.window + 1)) (claimed i (row_at r.window r.rows.now i))
  pub cells : (j : ℕ) → Near r.window i j → cells r' j ≡ cells r j

-- the row of index i is stamped and has the state s, its cell is c, and no other cell near it changes
pub record Written (i : ℕ) (s : State) (c : Cell) (r r' : Ring) : Type 0 where
  pub same : Same r.next r r'
  pub row : r'.rows.now ≡ slice_set r.rows.now (i % (r.window + 1)) (row_of i s)
  pub here : cells r' i ≡ c
  pub others : (j : ℕ) → Near r.window i j → (j ≢ i) → cells r' j ≡ cells r j
