use Rattle.worked.proofs.Calendars.{calendar}
use Rattle.worked.proofs.Rivs.{rivs}
use Rattle.worked.proofs.Scenes.{scenes}
use Rattle.worked.proofs.worked_examples.Goals as goal

pub returns : goal.returns
returns c = record { calendar = calendar; rivs = rivs; scenes = scenes }
