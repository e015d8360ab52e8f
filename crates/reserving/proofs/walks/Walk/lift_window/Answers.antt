use Rattle.std.proofs.Common.{◌≡◌, ◌+◌, ◌-◌, subst, arith}
use Rattle.choosing.specs.Searches.{pool_of, asked, slots}
use Rattle.reserving.specs.Lifts.{Lifted, by_index, by_window}
use Rattle.reserving.proofs.Lifting.{lifted_more}
use Rattle.reserving.proofs.walks.Walk.lift_window.Goals as goal

pub loop-z-preserved : goal.loop-z-preserved
loop-z-preserved g c =
    let a = c.args in
    let s = a.self.now.search in
    let m = g.M.Asking.meaning a.self.now.memory.now in
    let low = c.next_index-next.result - c.window.result in
    let z = c.loop-z.z in
    let from = c.loop-z.auto.z in
    lifted_more (slots s) (by_index (pool_of s) m (asked s) m.channels) low (z - low) (z + 1 - low) z a.rows.now c.loop-z.rows c.lift_index.new.rows (omega arith) (omega arith)
    c.loop-z.invariant
    c.lift_index.ensures

pub returns : goal.returns
returns g c =
    let a = c.args in
    let s = a.self.now.search in
    let m = g.M.Asking.meaning a.self.now.memory.now in
    let low = c.next_index-next.result - c.window.result in
    let n = c.next_index-next.ensures in
    let w = c.window.ensures in
    let old = (g.M.Asking.sound a.self.now.memory.now).old in
    let first : low ≡ m.next - m.window = omega arith in
    let many : c.loop-z.z - low ≡ m.window = omega arith in
    subst (λ l. Lifted (slots s) (by_window (pool_of s) m (asked s) l m.window) a.rows.now c.loop-z.rows) first
    (subst (λ n. Lifted (slots s) (by_window (pool_of s) m (asked s) low n) a.rows.now c.loop-z.rows) many c.loop-z.invariant)
