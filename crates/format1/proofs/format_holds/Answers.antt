-- The facts of the format, as the rules' proofs show them.
use Rattle.rules.proofs.Riv.{numbered}
use Rattle.rules.proofs.Width.{fitting}
use Rattle.rules.proofs.Reader.{laid_out, exact}
use Rattle.rules.proofs.Uses.{tested}
use Rattle.format1.proofs.format_holds.Goals as goal

pub returns : goal.returns
returns c = record { numbered = numbered; fitting = fitting; laid = laid_out; exact = exact; tested = tested }
