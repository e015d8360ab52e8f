-- What a list of places holds. Assumes nothing.
use Rattle.std.specs.Prelude.{◌≡◌, ℕ, ◌+◌, ◌<◌, ◌≤◌, Bool, true, cond, not, ◌&&◌, List, [], ◌∷◌, map, length, get_or, is_some, Some, None, Option, ◌==◌, nat_le, nat_lt, slice_index_or}
use Rattle.rules.specs.Counting.{every}
use Rattle.sensing.specs.declared.Held.{Held}
use Rattle.memory.specs.declared.entries.Entry.{Entry}

-- is the entry of this index and this resource?
abbrev pub of : Entry → ℕ → ℕ → Bool
of e i a = e.index == i && e.resource == a

-- what the first entry of an index and a resource holds
abbrev pub find : List (Option Entry) → ℕ → ℕ → Option Held
find [] i a = None
find (None ∷ ps) i a = find ps i a
find (Some e ∷ ps) i a = cond (of e i a) (Some e.held) (find ps i a)

-- are no two entries of one index and one resource?
abbrev pub apart : List (Option Entry) → Bool
apart [] = true
apart (None ∷ ps) = apart ps
apart (Some e ∷ ps) = not (is_some (find ps e.index e.resource)) && apart ps

-- is an entry of an index from low to next, and of a resource below n?
abbrev pub within : ℕ → ℕ → ℕ → Option Entry → Bool
within n low next None = true
within n low next (Some e) = nat_le low e.index && (nat_le e.index next && nat_lt e.resource n)

abbrev pub live : ℕ → ℕ → ℕ → List (Option Entry) → Bool
live n low next ps = every (within n low next) ps

-- how many places are taken
abbrev pub used : List (Option Entry) → ℕ
used [] = 0
used (None ∷ ps) = used ps
used (Some e ∷ ps) = used ps + 1

-- k is the first place that holds nothing
pub record Free (ps : List (Option Entry)) (k : ℕ) : Type 0 where
  pub inside : k < length ps
  pub free : get_or ps k None ≡ None
  pub before : (j : ℕ) → j < k → is_some (slice_index_or ps j None) ≡ true

-- one entry more
pub record Put (ps : List (Option Entry)) (e : Entry) (qs : List (Option Entry)) : Type 0 where
  pub size : length qs ≡ length ps
  pub here : find ps e.index e.resource ≡ None → find qs e.index e.resource ≡ Some e.held
  pub others : (i a : ℕ) → ((i ≡ e.index) × (a ≡ e.resource) → ⊥) → find qs i a ≡ find ps i a
  pub keys : apart ps ≡ true → find ps e.index e.resource ≡ None → apart qs ≡ true
  pub lives : (n low next : ℕ) → live n low next ps ≡ true → within n low next (Some e) ≡ true → live n low next qs ≡ true
  pub count : used qs ≡ used ps + 1
  pub room : used ps < length ps

-- the place, emptied if its entry is of an index below low
abbrev pub kept_from : ℕ → Option Entry → Option Entry
kept_from low None = None
kept_from low (Some e) = cond (nat_lt e.index low) None (Some e)

-- all entries of indices below low are gone, and the others are as they were
pub record Dropped (low : ℕ) (ps qs : List (Option Entry)) : Type 0 where
  pub places : qs ≡ map (kept_from low) ps
  pub found : (i a : ℕ) → find qs i a ≡ cond (nat_lt i low) None (find ps i a)
  pub keys : apart ps ≡ true → apart qs ≡ true
  pub lives : (n l next to : ℕ) → live n l next ps ≡ true → next ≤ to → live n low to qs ≡ true

-- no place is taken
pub record Emptied (ps : List (Option Entry)) : Type 0 where
  pub found : (i a : ℕ) → find ps i a ≡ None
  pub keys : apart ps ≡ true
  pub lives : (n low next : ℕ) → live n low next ps ≡ true
  pub count : used ps ≡ 0
