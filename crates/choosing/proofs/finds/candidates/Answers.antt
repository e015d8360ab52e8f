use Rattle.std.proofs.Common.{arith}
use Rattle.std.proofs.lemmas.Result.{err_from_is_err_and}
use Rattle.pool.proofs.Kept.{keeps}
use Rattle.pool.specs.Pools.{meaning}
use Rattle.choosing.specs.Asked.{question_of}
use Rattle.choosing.proofs.Listing.{within_limits, refused, none_there, some_there, facts, nothing_found, something_found}
use Rattle.choosing.proofs.finds.candidates.Goals as goal

pub returns-in_err-check : goal.returns-in_err-check
returns-in_err-check c early =
    let p = err_from_is_err_and c.from_residual.result c.from_residual.ensures.1 in
    rw (p.1, p.2) (refused (meaning c.args.pool.now) c.args.at (question_of c.args.q.now) c.in_err-check.field-0.0 c.in_err-check.ensures)

pub overflow_sub-channels : goal.overflow_sub-channels
overflow_sub-channels c = let w = within_limits (meaning c.args.pool.now) (question_of c.args.q.now) c.in_ok-check.ensures in omega arith

pub returns-then-found-eq0 : goal.returns-then-found-eq0
returns-then-found-eq0 c early =
    let p = meaning c.args.pool.now in
    let q = question_of c.args.q.now in
    let limits = within_limits p q c.in_ok-check.ensures in
    let w = facts p c.args.at q c.find-found.result _ _ _ c.find-found.ensures.slots c.find-found.ensures.width (omega arith) (omega arith) (omega arith) in
    none_there p c.args.at q c.in_ok-check.ensures (nothing_found p c.args.at q c.find-found.result w c.if-found-eq0.true)

pub returns : goal.returns
returns c early =
    let p = meaning c.args.pool.now in
    let q = question_of c.args.q.now in
    let limits = within_limits p q c.in_ok-check.ensures in
    let w = facts p c.args.at q c.find-found.result _ _ _ c.find-found.ensures.slots c.find-found.ensures.width (omega arith) (omega arith) (omega arith) in
    record {
      answer = some_there p c.args.at q c.in_ok-check.ensures (something_found p c.args.at q c.find-found.result w limits c.if-found-eq0.false);
      slots = w.slots;
      width = w.width;
      many = w.many;
    }

pub find-found-requires : goal.find-found-requires
find-found-requires c =
    let p = c.args.pool.now in
    let w = within_limits (meaning p) (question_of c.args.q.now) c.in_ok-check.ensures in
    let l = keeps p in
    let few = l.few in
    (omega arith, omega arith, omega arith)
