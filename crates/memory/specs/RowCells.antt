-- Rows of a ring, each stamped with the index that it is for, and the readings beside them. Assumes nothing.
use Rattle.std.specs.Prelude.{◌≡◌, ℕ, ◌+◌, ◌*◌, ◌%◌, ◌<◌, ◌≤◌, cond, List, length, get_or, take, drop, ◌==◌, slice_index_or}
use Rattle.rules.specs.Sensing.{Cell, blank, listened, sent}
use Rattle.sensing.specs.declared.State.{State}
use Rattle.sensing.specs.declared.State.TheVariants.{Blank, Listened, Sent}
use Rattle.memory.specs.declared.rows.Row.{Row}

-- the row with which a ring starts
abbrev pub bare_row : Row
bare_row = record { index = 0; state = Blank }

-- a row that is stamped with an index
abbrev pub row_of : ℕ → State → Row
row_of i s = record { index = i; state = s }

-- the row in which index i stands, if it stands in one: w is the length of the window
abbrev pub row_at : ℕ → List Row → ℕ → Row
row_at w rows i = slice_index_or rows (i % (w + 1)) bare_row

-- the n readings of the row at k
abbrev pub readings_of : ℕ → List ℕ → ℕ → List ℕ
readings_of n readings k = take n (drop (k * n) readings)

abbrev pub cell_of : State → List ℕ → Cell
cell_of Blank rs = blank
cell_of Listened rs = listened rs
cell_of Sent rs = sent

-- what rows and readings hold for an index
unfoldable pub cell_at : ℕ → ℕ → List Row → List ℕ → ℕ → Cell
cell_at n w rows readings i = cond ((row_at w rows i).index == i) (cell_of (row_at w rows i).state (readings_of n readings (i % (w + 1)))) blank

-- no row is stamped with an index past next
abbrev pub Upto : ℕ → List Row → Type 0
Upto next rows = (k : ℕ) → k < length rows → (get_or rows k bare_row).index ≤ next

-- every row is as at the start
abbrev pub Cleared : List Row → Type 0
Cleared rows = (k : ℕ) → k < length rows → slice_index_or rows k bare_row ≡ bare_row

-- two indices that one window can hold
abbrev pub Near : ℕ → ℕ → ℕ → Type 0
Near w i j = (i ≤ j + w) × (j ≤ i + w)

-- the row, made that of the index
abbrev pub claimed : ℕ → Row → Row
claimed i r = cond (r.index == i) r (row_of i Blank)
