use Rattle.pool.specs.Pools.{meaning}
use Rattle.choosing.specs.Asked.{question_of}
use Rattle.selecting.proofs.Joined.{passed, chosen}
use Rattle.selecting.proofs.chooses.look.Goals as goal

pub returns : goal.returns
returns g c early fit =
    let a = c.args in
    let p = meaning a.pool.now in
    let m = g.M.Asking.meaning a.m.now in
    let q = question_of a.q.now in
    let found = c.in_ok-found.ensures early in
    let k = passed p a.at q found.answer in
    chosen p a.at m a.pool.now.limits (g.M.Asking.sound a.m.now) fit a.q.now c.in_ok-found.found found c.needs-free_from.result c.means-heard.result c.distance-apart.result c.distance-apart.ensures.value (c.needs-free_from.ensures fit k.priority) (c.means-heard.ensures fit) c.select.result c.select.ensures
