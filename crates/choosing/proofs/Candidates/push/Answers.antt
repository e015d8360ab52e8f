use Rattle.std.proofs.Common.{refl, arith}
use Rattle.std.proofs.lemmas.List.{take_more_set}
use Rattle.choosing.proofs.Candidates.push.Goals as goal

pub returns : goal.returns
returns c =
    let s = c.args.self.now in
    let long = s.long in
    record { slots = take_more_set s.slots s.count c.args.slot (omega arith); count = refl; width = refl }
