-- How the needs of candidates are lifted, by what reserves them at which raises. Assumes nothing.
use Rattle.std.specs.Prelude.{◌≡◌, ℕ, ◌+◌, ◌*◌, ◌<◌, Bool, false, ◌&&◌, ◌||◌, List, length, slice_index_or}
use Rattle.std.specs.List.{range_with_len}
use Rattle.rules.specs.Calendar.{Pool, distance}
use Rattle.rules.specs.Choose.{Question, Place, interval, turn, repeats, above, level_of, share, takes, held_reserves}
use Rattle.rules.specs.Counting.{any}
use Rattle.rules.specs.Format.{Record}
use Rattle.rules.specs.Sensing.{Meaning, Held}
use Rattle.choosing.specs.Fits.{place_of}
use Rattle.choosing.specs.declared.Slot.{Slot}
use Rattle.reserving.specs.Needs.{bars, at}
use Rattle.reserving.specs.declared.Need.{Need}
use Rattle.reserving.specs.declared.Need.TheVariants.{From}

-- a need of a row bars a raise where it did before, and where the test passes at that raise
abbrev pub RowLifted : (ℕ → ℕ → Bool) → List Need → List Need → Type 0
RowLifted test before after = (x r : ℕ) → x < 20 → bars (slice_index_or after x (From 0)) r ≡ (bars (slice_index_or before x (From 0)) r || test r x)

-- the same of the candidates of all slots
abbrev pub Lifted : List Slot → (ℕ → Place → Bool) → List (List Need) → List (List Need) → Type 0
Lifted slots test before after = (i x r : ℕ) → i < length slots → x < 20 → bars (at after i x) r ≡ (bars (at before i x) r || test r (place_of slots i x))

-- at the raises that a need bars, where `wide` sub-channels from x on share one with `long` from `first` on
abbrev pub by_share : ℕ → ℕ → ℕ → Need → ℕ → ℕ → Bool
by_share wide first long need r x = bars need r && share x wide first long

-- at the raises that a need bars, the candidates that use one of the sub-channels in a turn at t
abbrev pub by_turn : Pool → Question → ℕ → ℕ → ℕ → Need → ℕ → Place → Bool
by_turn p q t first long need r c = bars need r && (turn c.at (interval p q) q.turns t && share c.channel q.length first long)

-- at the raises that a need bars, the candidates that a record takes, heard at resource a and based at b
abbrev pub by_base : Pool → Question → Record → ℕ → ℕ → Need → ℕ → Place → Bool
by_base p q what a b need r c = bars need r && takes q (interval p q) c what a b

-- the same for the first n of the bases z, z + d, ..
abbrev pub by_bases : Pool → Question → Record → ℕ → ℕ → ℕ → ℕ → Need → ℕ → Place → Bool
by_bases p q what a z d n need r c = bars need r && any (λ k. takes q (interval p q) c what a (z + k * d)) (range_with_len 0 n)

-- a record reserves the candidate, heard at resource a of an index z that lies g before the next one
abbrev pub by_held : Pool → Question → ℕ → ℕ → ℕ → Held → ℕ → Place → Bool
by_held p q g z a h r c =
    above (level_of p q.priority h.what.priority) r h.rsrp
    && any (λ k. takes q (interval p q) c h.what a (z + k * distance p h.what.code)) (range_with_len 0 (repeats p h.what.code g + 1))

-- what is held at one resource of an index reserves the candidate
abbrev pub by_resource : Pool → Meaning → Question → ℕ → ℕ → ℕ → Place → Bool
by_resource p m q z a r c = held_reserves p m q r c z a (m.held z a)

-- at one of the first n resources
abbrev pub by_index : Pool → Meaning → Question → ℕ → ℕ → ℕ → Place → Bool
by_index p m q n z r c = any (λ a. by_resource p m q z a r c) (range_with_len 0 n)

-- at one of n indices from `low` on
abbrev pub by_window : Pool → Meaning → Question → ℕ → ℕ → ℕ → Place → Bool
by_window p m q low n r c = any (λ z. by_index p m q m.channels z r c) (range_with_len low n)

-- the rows of the slots that have a flag bar all raises, and the others are as they were
abbrev pub Flagged : List Bool → List (List Need) → List (List Need) → Type 0
Flagged flags before after = (i x r : ℕ) → i < 100 → x < 20 → bars (at after i x) r ≡ (bars (at before i x) r || slice_index_or flags i false)
