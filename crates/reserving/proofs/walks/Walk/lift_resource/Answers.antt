use Rattle.std.proofs.Common.{◌≡◌, ◌-◌, Some, sym, ap, arith}
use Rattle.rules.specs.Choose.{held_reserves}
use Rattle.sensing.specs.Memories.{held_of}
use Rattle.sensing.proofs.Said.{told}
use Rattle.choosing.specs.Searches.{pool_of, asked, slots}
use Rattle.reserving.specs.Lifts.{by_held, by_resource}
use Rattle.reserving.proofs.Lifting.{lifted_same}
use Rattle.reserving.proofs.walks.Walk.lift_resource.Goals as goal

pub lift_held-requires : goal.lift_held-requires
lift_held-requires g c =
    let a = c.args in
    let memory = a.self.now.memory.now in
    let m = g.M.Asking.meaning memory in
    let said = rw c.in-Ok-Some.field-0-is at c.in-Ok-Some.ensures in
    let there : m.held a.z a.resource ≡ Some (held_of c.in-Ok-Some.held) = sym (told m a.z a.resource (Some c.in-Ok-Some.held) said).value in
    let fair = (g.M.Asking.sound memory).fair a.z a.resource (held_of c.in-Ok-Some.held) c.requires.inside c.requires.below there in
    record { inside = c.requires.inside; priority = omega (arith, fair.within.priority); rsrp = fair.rsrp }

pub returns : goal.returns
returns g c =
    let a = c.args in
    let s = a.self.now.search in
    let p = pool_of s in
    let q = asked s in
    let m = g.M.Asking.meaning a.self.now.memory.now in
    let h = held_of c.in-Ok-Some.held in
    let said = rw c.in-Ok-Some.field-0-is at c.in-Ok-Some.ensures in
    let there : m.held a.z a.resource ≡ Some h = sym (told m a.z a.resource (Some c.in-Ok-Some.held) said).value in
    lifted_same (slots s) (by_held p q (m.next - a.z) a.z a.resource h) (by_resource p m q a.z a.resource) a.rows.now c.lift_held.new.rows
    (λ r x. ap (held_reserves p m q r x a.z a.resource) there)
    c.lift_held.ensures
