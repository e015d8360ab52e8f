use Rattle.memory.proofs.EntryPutting.{put_at}
use Rattle.memory.proofs.entries.put.Goals as goal

pub returns : goal.returns
returns c = put_at c.args.places.now c.args.at c.args.entry c.requires.0 c.requires.1
