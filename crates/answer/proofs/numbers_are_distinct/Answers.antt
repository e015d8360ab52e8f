use Rattle.answer.proofs.Tables.{distinct}
use Rattle.answer.proofs.numbers_are_distinct.Goals as goal

pub returns : goal.returns
returns c = distinct
