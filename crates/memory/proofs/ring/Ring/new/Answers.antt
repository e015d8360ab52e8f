use Rattle.std.proofs.Common.{◌≡◌, ◌<◌, length, replicate, refl, ap, ◌∙◌, arith}
use Rattle.sensing.specs.declared.State.TheVariants.{Blank}
use Rattle.memory.specs.RowCells.{bare_row, row_of}
use Rattle.memory.specs.declared.rows.Row.{Row}
use Rattle.memory.proofs.RowCells.{cleared_from, cleared_blank}
use Rattle.memory.proofs.ring.Ring.new.Goals as goal

bare_by : (r : Row) → (r.index ≡ 0) × (r.state ≡ Blank) → r ≡ bare_row
bare_by r e = ap (λ i. row_of i r.state) e.0 ∙ ap (row_of 0) e.1

pub returns-clause-nothing : goal.returns-clause-nothing
returns-clause-nothing c =
    let rows = c.fill.new.self in
    let long : c.args.window < length rows = omega (arith, c.fill.ensures.len, c.requires.long) in
    let clear = cleared_from _ rows (c.fill.ensures.after (λ y h. h) ∙ ap (replicate (length c.args.rows.now)) (bare_by c.default.result c.default.ensures)) in
    record { cells = λ i w. cleared_blank c.args.channels c.args.window rows c.args.readings.now i long clear; records = λ i a w l. refl }
