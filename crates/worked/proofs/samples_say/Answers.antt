use Rattle.rules.proofs.Samples.{sample_is, is_sample}
use Rattle.worked.proofs.samples_say.Goals as goal

pub returns : goal.returns
returns c = λ p m q y z past. (sample_is p m q y z past, is_sample p m q y z past)
