use Rattle.std.proofs.Common.{◌∙◌}
use Rattle.answer.proofs.Tables.{caused}
use Rattle.answer.proofs.Refusal.cause.Goals as goal

pub returns : goal.returns
returns c =
    let e = c.from.ensures ∙ c.number.ensures.value in
    search caused
