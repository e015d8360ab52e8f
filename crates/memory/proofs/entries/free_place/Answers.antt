use Rattle.std.proofs.Common.{◌≡◌, true, None, Option, is_some, rules}
use Rattle.std.proofs.lemmas.Iterator.{YieldsList-from_slice, IsFirst-from_position}
use borrow.Author.Tests.{tests}
use Rattle.memory.specs.declared.entries.Entry.{Entry}
use Rattle.memory.proofs.EntryPutting.{first_free}
use Rattle.memory.proofs.entries.free_place.Goals as goal

pub returns : goal.returns
returns c =
    first_free c.args.places.now c.position.result
    (IsFirst-from_position _ _ c.position.result (λ (p : Option Entry). p ≡ None) (λ (p : Option Entry). is_some p ≡ true) c.position.ensures.ran (YieldsList-from_slice c.args.places.now cc) (λ x q k. search (rules, tests)) (λ x q k. search (rules, tests)))
