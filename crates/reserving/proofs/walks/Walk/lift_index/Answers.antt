use Rattle.std.proofs.Common.{◌≡◌, ◌+◌, subst, arith}
use Rattle.choosing.specs.Searches.{pool_of, asked, slots}
use Rattle.reserving.specs.Lifts.{Lifted, by_resource, by_index}
use Rattle.reserving.proofs.Lifting.{lifted_more}
use Rattle.reserving.proofs.walks.Walk.lift_index.Goals as goal

pub loop-resource-preserved : goal.loop-resource-preserved
loop-resource-preserved g c =
    let a = c.args in
    let s = a.self.now.search in
    let m = g.M.Asking.meaning a.self.now.memory.now in
    let n = c.loop-resource.resource in
    lifted_more (slots s) (by_resource (pool_of s) m (asked s) a.z) 0 n (n + 1) n a.rows.now c.loop-resource.rows c.lift_resource.new.rows (omega arith) (omega arith)
    c.loop-resource.invariant
    c.lift_resource.ensures

pub returns : goal.returns
returns g c =
    let a = c.args in
    let s = a.self.now.search in
    let m = g.M.Asking.meaning a.self.now.memory.now in
    let n = c.channels-resource-end.ensures in
    let all : c.loop-resource.resource ≡ m.channels = omega arith in
    subst (λ n. Lifted (slots s) (by_index (pool_of s) m (asked s) n a.z) a.rows.now c.loop-resource.rows) all c.loop-resource.invariant
