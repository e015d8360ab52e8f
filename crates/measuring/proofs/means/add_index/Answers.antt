use Rattle.std.proofs.Common.{◌≡◌, ℕ, ◌+◌, ◌<◌, ◌≤◌, get_or, ap, arith}
use Rattle.rules.specs.Choose.{readings_in, power}
use Rattle.choosing.specs.Asked.{question_of}
use Rattle.measuring.specs.Sums.{total}
use Rattle.measuring.proofs.Adding.{sum_by_same, added_heard, added_deaf}
use Rattle.measuring.proofs.means.add_index.Goals as goal

pub returns-in_default : goal.returns-in_default
returns-in_default g c =
    let a = c.args in
    λ i h d. added_deaf (g.M.Asking.meaning a.m.now) (question_of a.q.now) a.step a.z (get_or a.sums.now i d) c.in_default.ensures

pub returns : goal.returns
returns g c =
    let a = c.args in
    let m = g.M.Asking.meaning a.m.now in
    let q = question_of a.q.now in
    let few = (g.M.Asking.sound a.m.now).few in
    let heard = c.in-Some.ensures in
    let rs = c.in-Some.readings in
    let row : ℕ → ℕ = λ x. get_or c.new-powers.result.from x 0 in
    let n = c.from.ensures in
    let same : (x : ℕ) → x < 20 → x + q.length ≤ m.channels → row x ≡ power m q x a.z =
    λ x l w.
    let made : row x ≡ total rs c.from.result x = c.new-powers.ensures x l (omega arith) in
    let wide : total rs c.from.result x ≡ total rs q.length x = ap (λ k. total rs k x) n in
    let held : total rs q.length x ≡ power m q x a.z = sum_by_same (λ r. get_or rs r 0) (λ r. get_or (readings_in (m.cell a.z)) r 0) x q.length (λ r _ h. heard.1 r (omega arith)) in
    omega arith in
    λ i h d. added_heard m q a.step a.z row (get_or a.sums.now i d) (get_or c.add_all.new.sums i d) heard.0 same (c.add_all.ensures i h d)
