use Rattle.std.proofs.Common.{◌≡◌, ℕ, ◌+◌, ◌-◌, ◌*◌, ◌&&◌, ◌||◌, sym, ap, ◌∙◌, arith, w16, SFits, rules}
use Rattle.std.specs.List.{range_with_len}
use Rattle.std.proofs.lemmas.Int.{to_z-of_z}
use Rattle.std.proofs.lemmas.Bool.{le-ltb}
use Rattle.rules.specs.Calendar.{Pool, distance}
use Rattle.rules.specs.Choose.{Question, Place, interval, repeats, above, level_of, takes}
use Rattle.rules.specs.Counting.{any}
use Rattle.rules.specs.Sensing.{Held}
use Rattle.sensing.specs.Memories.{held_of}
use Rattle.choosing.proofs.Marking.{any_more}
use Rattle.choosing.specs.Searches.{pool_of, asked, slots}
use Rattle.reserving.specs.Needs.{bars}
use Rattle.reserving.specs.declared.Need.{Need}
use Rattle.reserving.specs.declared.Need.TheVariants.{From}
use Rattle.reserving.specs.Lifts.{by_base, by_bases, by_held}
use Rattle.reserving.proofs.Levelled.{levelled, has_level, same_bases}
use Rattle.std.proofs.Math.Bool.{and-or_distrib_left, and-false}
use Rattle.reserving.proofs.Lifting.{lifted_both, lifted_same, lifted_none}
use Rattle.reserving.proofs.walks.Walk.lift_held.Goals as goal

pub returns-in_default : goal.returns-in_default
returns-in_default g c =
    let s = c.args.self.now.search in
    absurd (has_level (pool_of s) (asked s).priority c.args.held.now.what.priority c.args.self.now.priority c.requires.priority c.in_default.ensures)

pub returns-then-eq : goal.returns-then-eq
returns-then-eq g c =
    let a = c.args in
    let s = a.self.now.search in
    let p = pool_of s in
    let q = asked s in
    let n = (g.M.Asking.meaning a.self.now.memory.now).next - a.z in
    let h = held_of a.held.now in
    let fits : SFits w16 h.rsrp = search rules in
    let value = levelled p q.priority h.what.priority c.in-Some.level c.in-Some.ensures in
    let loud = simp to_z-of_z at c.freed_at-need.ensures in
    let none : c.freed_at-need.result ≡ From 0 = search rules in
    lifted_none (slots s) (by_held p q n a.z a.resource h) a.rows.now
    (λ r x.
    ap (λ b. b && any (λ k. takes q (interval p q) x h.what a.resource (a.z + k * distance p h.what.code)) (range_with_len 0 (repeats p h.what.code n + 1)))
    (ap (λ v. above v r h.rsrp) (sym value) ∙ loud r ∙ ap (λ n. bars n r) none ∙ le-ltb r 0 (omega arith)))

-- what the first bases take, and what one more takes
one_more : (p : Pool) (q : Question) (h : Held) (a z d n m : ℕ) (need : Need) (r : ℕ) (c : Place) → m ≡ n + 1 → by_bases p q h.what a z d m need r c ≡ (by_bases p q h.what a z d n need r c || by_base p q h.what a (z + n * d) need r c)
one_more p q h a z d n m need r c e =
    let one : ℕ → _ = λ k. takes q (interval p q) c h.what a (z + k * d) in
    ap (λ m. bars need r && any one (range_with_len 0 m)) e
    ∙ ap (λ b. bars need r && b) (any_more one 0 n n (omega arith))
    ∙ and-or_distrib_left (bars need r) (any one (range_with_len 0 n)) (one n)

pub loop-k-init : goal.loop-k-init
loop-k-init g c =
    let a = c.args in
    let s = a.self.now.search in
    lifted_none (slots s) (by_bases (pool_of s) (asked s) (held_of a.held.now).what a.resource a.z c.from-d.result 0 c.freed_at-need.result) a.rows.now
    (λ r p. and-false (bars c.freed_at-need.result r))

pub loop-k-preserved : goal.loop-k-preserved
loop-k-preserved g c =
    let a = c.args in
    let s = a.self.now.search in
    let p = pool_of s in
    let q = asked s in
    let h = held_of a.held.now in
    let k = c.loop-k.k in
    let d = c.from-d.result in
    let need = c.freed_at-need.result in
    lifted_both (slots s) (by_bases p q h.what a.resource a.z d k need) (by_base p q h.what a.resource (a.z + k * d) need) (by_bases p q h.what a.resource a.z d (k + 1) need) a.rows.now c.loop-k.rows c.lift_base.new.rows
    (λ r x. one_more p q h a.resource a.z d k (k + 1) need r x (omega arith))
    c.loop-k.invariant
    c.lift_base.ensures

pub returns-else-eq-2 : goal.returns-else-eq-2
returns-else-eq-2 g c =
    let a = c.args in
    let s = a.self.now.search in
    let p = pool_of s in
    let q = asked s in
    let h = held_of a.held.now in
    let code = h.what.code in
    let k = c.loop-k.k in
    let d = c.from-d.result in
    let need = c.freed_at-need.result in
    let n = c.repeats-k-end.result in
    let left = (g.M.Asking.meaning a.self.now.memory.now).next - a.z in
    let fits : SFits w16 h.rsrp = search rules in
    let value = levelled p q.priority h.what.priority c.in-Some.level c.in-Some.ensures in
    let loud = simp to_z-of_z at c.freed_at-need.ensures in
    let far = ap (λ t. t - a.z) c.next_index.ensures in
    lifted_same (slots s) (by_bases p q h.what a.resource a.z d (n + 1) need) (by_held p q left a.z a.resource h) a.rows.now c.lift_base.new.rows
    (λ r x.
    same_bases q h.what a.resource a.z (interval p q) x (above (level_of p q.priority h.what.priority) r h.rsrp) (bars need r) (distance p code) d (repeats p code left) n
    (ap (λ v. above v r h.rsrp) (sym value) ∙ loud r)
    (sym (c.from-d.ensures ∙ c.distance.ensures.value))
    (sym (c.repeats-k-end.ensures.value ∙ ap (repeats p code) far)))
    (lifted_both (slots s) (by_bases p q h.what a.resource a.z d k need) (by_base p q h.what a.resource (a.z + k * d) need) (by_bases p q h.what a.resource a.z d (n + 1) need) a.rows.now c.loop-k.rows c.lift_base.new.rows
    (λ r x. one_more p q h a.resource a.z d k (n + 1) need r x (omega arith))
    c.loop-k.invariant
    c.lift_base.ensures)
