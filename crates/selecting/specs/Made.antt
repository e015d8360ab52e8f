-- What a report says, and how one comes from the list of candidates. Assumes nothing.
use Rattle.std.specs.Prelude.{◌≡◌, ℕ, true, List, map, length, take, filter}
use Rattle.std.specs.List.Sorted.{IsPermutation}
use Rattle.rules.specs.Choose.{Place as Meant, fifth}
use Rattle.rules.specs.Ranks.{rising}
use Rattle.choosing.specs.declared.Question.{Question}
use Rattle.selecting.specs.Entries.{before, place_of, reported}
use Rattle.selecting.specs.Lists.{free}
use Rattle.selecting.specs.declared.Entry.{Entry}
use Rattle.selecting.specs.declared.Place.{Place}
use Rattle.selecting.specs.declared.Report.{Report}

-- the places of a report
abbrev pub shown : Report → List Place
shown r = r.places.items

-- the candidates that they stand for
abbrev pub places_of : Report → List Meant
places_of r = map place_of (shown r)

-- the places that are still marked
abbrev pub left : Report → List Place
left r = r.marked.items

-- a report of these entries, with every place marked
pub record Of (es : List Entry) (raise : ℕ) (question : Question) (apart : ℕ) (r : Report) : Type 0 where
  pub size : length (shown r) ≡ length es
  pub places : IsPermutation (map reported es) (shown r)
  pub marked : left r ≡ shown r
  pub raise_is : r.raise ≡ raise
  pub question_is : r.question ≡ question
  pub apart_is : r.apart ≡ apart

-- a report of the first fifth, in the order, of the entries that survive at a raise
pub record Ranked (es : List Entry) (raise : ℕ) (question : Question) (apart : ℕ) (r : Report) : Type 0 where
  pub order : List Entry
  pub shuffled : IsPermutation (filter (free raise) es) order
  pub rises : rising before order ≡ true
  pub first : Of (take (fifth (length es)) order) raise question apart r
