use Rattle.std.proofs.Common.{refl, sym, ◌∙◌}
use Rattle.memory.proofs.RowCells.{claimed_cell, claimed_now}
use Rattle.memory.proofs.ring.Ring.claim.Goals as goal

pub returns-clause-done : goal.returns-clause-done
returns-clause-done c =
    let r = c.args.self.now in
    let rows = c.stamp.new.rows in
    let is = c.stamp.ensures ∙ claimed_now r.window c.args.index r.rows.now (sym c.if-stands.ensures) in
    record {
      same = record { channels = refl; window = refl; next = refl };
      row = is;
      cells = claimed_cell r.channels r.window c.args.index r.rows.now rows r.readings.now r.long is;
    }
