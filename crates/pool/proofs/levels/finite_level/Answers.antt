use Rattle.std.proofs.Common.{◌-◌, Some, pos, sym, ap, ◌∙◌, arith, w16, rules}
use Rattle.std.proofs.lemmas.Bool.{le-leb, and_from, cond-true}
use Rattle.std.proofs.lemmas.List.FromFn.{get_or-map-range_with_len}
use Rattle.std.proofs.lemmas.Int.{to_z-of_z}
use Rattle.rules.specs.Calendar.{threshold}
use Rattle.pool.proofs.levels.finite_level.Goals as goal

-- the table is the rule at 1 to 65, which antt computes
pub returns-in-1-to-65 : goal.returns-in-1-to-65
returns-in-1-to-65 c =
    let e = get_or-map-range_with_len threshold 1 65 (c.from.result - 1) c.args.level (pos 0) (omega arith) (omega arith) in
    ap Some (to_z-of_z w16 _ (search rules) ∙ e) ∙ sym (cond-true _ _ _ (and_from _ _ (le-leb 1 c.args.level (omega arith)) (le-leb c.args.level 65 (omega arith))))
