use Rattle.std.proofs.Common.{◌≡◌, ℕ, ◌+◌, ◌-◌, Bool, not, ◌&&◌, sym, ap, ◌∙◌, subst, arith, rules}
use Rattle.std.specs.List.{range_with_len}
use Rattle.rules.specs.Counting.{any}
use Rattle.rules.specs.Choose.{blinds}
use Rattle.sensing.specs.declared.State.TheVariants.{Listened}
use Rattle.sensing.proofs.Said.{stated}
use Rattle.choosing.specs.Blinds.{Marked, by_one}
use Rattle.choosing.specs.Searches.{pool_of, asked, slots}
use Rattle.choosing.proofs.Marking.{marked_same, marked_none, marked_more, not_listened, is_listened_cell}
use Rattle.choosing.proofs.Search.mark_index.Goals as goal

pub returns-then-eq : goal.returns-then-eq
returns-then-eq g c =
    let s = c.args.self.now in
    let p = pool_of s in
    let z = c.args.z in
    let m = g.M.Asking.meaning c.args.m.now in
    let said = stated m z _ c.in-Ok.ensures in
    let is : c.in-Ok.state ≡ Listened = search rules in
    let heard = is_listened_cell (m.cell z) c.in-Ok.state said.value is in
    marked_none (slots s) (λ y. blinds p m (asked s) y z) c.args.flags.now
    (λ y. ap (λ b. not b && any (λ code. by_one p (asked s) z (m.next - z) code y) (range_with_len 1 12)) heard)

pub loop-code-preserved : goal.loop-code-preserved
loop-code-preserved g c =
    let s = c.args.self.now in
    let code = c.loop-code.code in
    let one = c.loop-code.auto.code in
    marked_more (slots s) (by_one (pool_of s) (asked s) c.args.z (c.next_index.result - c.args.z)) 1 (code - 1) (code + 1 - 1) code c.args.flags.now c.loop-code.flags c.mark_code.new.flags (omega arith) (omega arith)
    c.loop-code.invariant
    c.mark_code.ensures

pub returns : goal.returns
returns g c =
    let s = c.args.self.now in
    let p = pool_of s in
    let q = asked s in
    let z = c.args.z in
    let m = g.M.Asking.meaning c.args.m.now in
    let said = stated m z _ c.in-Ok.ensures in
    let not_is : c.in-Ok.state ≡ Listened → ⊥ = search rules in
    let deaf = not_listened (m.cell z) c.in-Ok.state said.value not_is in
    let all : c.loop-code.code - 1 ≡ 12 = omega arith in
    let by : ℕ → ℕ → ℕ → Bool = λ n k y. any (λ code. by_one p q z (n - z) code y) (range_with_len 1 k) in
    marked_same (slots s) (by c.next_index.result 12) (λ y. blinds p m q y z) c.args.flags.now c.loop-code.flags
    (λ y. ap (λ b. not b && by m.next 12 y) deaf ∙ ap (λ n. by n 12 y) (sym c.next_index.ensures))
    (subst (λ k. Marked (slots s) (by c.next_index.result k) c.args.flags.now c.loop-code.flags) all c.loop-code.invariant)
