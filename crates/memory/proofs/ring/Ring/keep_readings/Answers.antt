use Rattle.std.proofs.Common.{◌≡◌, ◌+◌, ◌-◌, ◌*◌, ◌%◌, length, refl, ap, ◌∙◌, arith}
use lib.Seq.{paste}
use borrow.Rule.Slice.PartMut.{put_mid}
use Rattle.std.proofs.lemmas.Slice.{put_mid-paste}
use Rattle.rules.specs.Sensing.{listened}
use Rattle.sensing.specs.declared.State.TheVariants.{Listened}
use Rattle.memory.proofs.RowCells.{stamped_cell, other_cell, copied_here, copied_other}
use Rattle.memory.proofs.ring.Ring.keep_readings.Goals as goal

pub returns-clause-done : goal.returns-clause-done
returns-clause-done c =
    let r = c.args.self.now in
    let i = c.args.index in
    let new = c.args.new.now in
    let n = length new in
    let at = c.place-at.result in
    let is = c.stamp.ensures in
    let rows = c.stamp.new.rows in
    let readings = put_mid at (at + n - at) r.readings.now c.copy_from_slice.new.self in
    let there : at ≡ i % (r.window + 1) * r.channels = omega (arith, c.place-at.ensures) in
    let copied : readings ≡ paste r.readings.now (i % (r.window + 1) * r.channels) new r.channels =
    put_mid-paste at (at + n - at) r.readings.now c.copy_from_slice.new.self new n c.copy_from_slice.ensures.after (omega arith) (omega arith)
    ∙ ap (λ k. paste r.readings.now k new n) there
    ∙ ap (λ k. paste r.readings.now (i % (r.window + 1) * r.channels) new k) c.requires.many in
    record {
      same = record { channels = refl; window = refl; next = refl };
      row = is;
      here = stamped_cell r.channels r.window i r.rows.now rows readings r.long Listened is ∙ ap listened (copied_here r.channels r.window i new r.readings.now readings c.requires.many r.wide copied);
      others = λ j near ne.
          other_cell r.channels r.window i r.rows.now rows readings r.long Listened is j near ne
          ∙ copied_other r.channels r.window i new r.readings.now readings c.requires.many r.wide copied r.rows.now j near ne;
    }
