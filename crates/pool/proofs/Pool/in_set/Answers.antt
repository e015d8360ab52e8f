use Rattle.std.proofs.Common.{◌+◌, ◌%◌, ◌<◌, eqb, sym, ap, ◌∙◌, arith}
use Rattle.rules.specs.Calendar.{in_set, rank, remaining, left_over}
use Rattle.rules.specs.Closed.{reserved_before}
use Rattle.rules.proofs.Calls.{set_without, set_here}
use Rattle.pool.specs.Pools.{meaning}
use Rattle.pool.proofs.Kept.{keeps}
use Rattle.pool.proofs.Pool.in_set.Goals as goal

pub returns-then-not-remains : goal.returns-then-not-remains
unfolding in_set
returns-then-not-remains c =
    let p = c.args.self.now in
    sym (set_without (meaning p) (keeps p) (c.args.subframe % 10240) (sym c.if-not-remains.ensures))

pub returns : goal.returns
unfolding in_set
returns c =
    let p = c.args.self.now in
    let m = meaning p in
    let k = c.rank-rank.ensures.value in
    let less : c.args.subframe % 10240 < 10240 = omega arith in
    let next = c.reserved_before.ensures ∙ ap (λ k. reserved_before (remaining m) (left_over m) (k + 1)) k in
    let here = c.reserved_before-2.ensures ∙ ap (reserved_before (remaining m) (left_over m)) k in
    ap (λ b. eqb c.reserved_before.result b) here
    ∙ ap (λ a. eqb a (reserved_before (remaining m) (left_over m) (rank m (c.args.subframe % 10240)))) next
    ∙ set_here m (keeps p) (c.args.subframe % 10240) less (sym c.if-not-remains.ensures)
