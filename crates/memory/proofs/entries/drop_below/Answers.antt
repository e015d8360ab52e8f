use Rattle.std.proofs.Common.{rules}
use Rattle.std.proofs.lemmas.List.Edits.{map_over_more}
use Rattle.std.proofs.lemmas.List.{take_all, drop_all}
use Rattle.memory.specs.EntryPlaces.{kept_from}
use Rattle.memory.proofs.EntryDropping.{dropped}
use Rattle.memory.proofs.entries.drop_below.Goals as goal

pub loop-place-preserved : goal.loop-place-preserved
loop-place-preserved c = search (rules, map_over_more (kept_from c.args.low))

pub returns : goal.returns
returns c = dropped c.args.low c.args.places.now c.loop-place.places (search (rules, take_all, drop_all))
