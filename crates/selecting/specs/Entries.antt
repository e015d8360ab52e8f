-- Candidates as they are ranked, and places as they are reported. Assumes nothing.
use Rattle.std.specs.Prelude.{◌≡◌, Bool, List, [], ◌∷◌, not, ◌&&◌, ◌||◌, ◌⊎◌}
use Rattle.rules.specs.Choose.{Place as Meant, lower, earlier}
use Rattle.measuring.specs.Means.{fraction_of}
use Rattle.selecting.specs.declared.Entry.{Entry}
use Rattle.selecting.specs.declared.Place.{Place}

-- the candidate that a place stands for
abbrev pub place_of : Place → Meant
place_of a = record { channel = a.channel; at = a.index }

-- by index, then sub-channel
abbrev pub sooner : Place → Place → Bool
sooner a b = earlier (place_of a) (place_of b)

-- these are some of all, in their order
abbrev pub SomeOf : List Place → List Place → Type 0
SomeOf [] all = Unit {0}
SomeOf (x ∷ xs) [] = ⊥
SomeOf (x ∷ xs) (y ∷ ys) = ((x ≡ y) × SomeOf xs ys) ⊎ SomeOf (x ∷ xs) ys

-- what stands past the places of a report
abbrev pub nowhere : Place
nowhere = record { subframe = 0; index = 0; channel = 0 }

-- the place that an entry is reported at
abbrev pub reported : Entry → Place
reported e = e.place

-- the candidate that an entry stands for
abbrev pub candidate_of : Entry → Meant
candidate_of e = place_of e.place

-- a stands before b: the lower mean, then the lower index, then the lower sub-channel
abbrev pub before : Entry → Entry → Bool
before a b =
    lower (fraction_of a.mean) (fraction_of b.mean)
    || (not (lower (fraction_of b.mean) (fraction_of a.mean)) && earlier (candidate_of a) (candidate_of b))
