use Rattle.answer.proofs.Tables.{distinct}
use Rattle.answer.proofs.Refusal.number.Goals as goal

pub returns-clause-distinct : goal.returns-clause-distinct
returns-clause-distinct c = distinct
