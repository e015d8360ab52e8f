use Rattle.std.proofs.Common.{refl}
use Rattle.sensing.specs.declared.State.TheVariants.{Sent}
use Rattle.memory.proofs.RowCells.{stamped_cell, other_cell}
use Rattle.memory.proofs.ring.Ring.mark_sent.Goals as goal

pub returns-clause-done : goal.returns-clause-done
returns-clause-done c =
    let r = c.args.self.now in
    let is = c.stamp.ensures in
    let rows = c.stamp.new.rows in
    record {
      same = record { channels = refl; window = refl; next = refl };
      row = is;
      here = stamped_cell r.channels r.window c.args.index r.rows.now rows r.readings.now r.long Sent is;
      others = other_cell r.channels r.window c.args.index r.rows.now rows r.readings.now r.long Sent is;
    }
