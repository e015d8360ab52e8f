-- Where nothing is found. Assumes nothing.
use Rattle.std.proofs.Common.{◌≡◌, ℕ, ◌<◌, true, ◌&&◌, ltb, leb, List, [], ◌∷◌, Some, None, Option, refl, ◌∙◌, arith}
use Rattle.std.proofs.lemmas.Bool.{and_parts, leb-true, cond-false}
use Rattle.memory.specs.declared.entries.Entry.{Entry}
use Rattle.memory.specs.EntryPlaces.{find, within, live}
use Rattle.memory.proofs.EntryPutting.{of_other}

-- at an index past next
pub none_past : (n low next : ℕ) (ps : List (Option Entry)) (i a : ℕ) → live n low next ps ≡ true → next < i → find ps i a ≡ None
none_past n low next [] i a h past = refl
none_past n low next (None ∷ ps) i a h past = none_past n low next ps i a h past
none_past n low next (Some e ∷ ps) i a h past =
    let w = and_parts (within n low next (Some e)) (live n low next ps) h in
    let v = and_parts (leb low e.index) (leb e.index next && ltb e.resource n) w.0 in
    let u = leb-true e.index next (and_parts (leb e.index next) (ltb e.resource n) v.1).0 in
    cond-false _ (Some e.held) (find ps i a) (of_other e i a (λ same. let z = same.0 in omega arith)) ∙ none_past n low next ps i a w.1 past
