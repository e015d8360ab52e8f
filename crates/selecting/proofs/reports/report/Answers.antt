use Rattle.std.proofs.Common.{◌*◌, length, take, count_by, ap, subst, ◌∙◌, arith, length-take}
use Rattle.std.specs.List.Sorted.{IsPermutation}
use Rattle.std.proofs.lemmas.List.Sums.{length-filter}
use Rattle.std.proofs.lemmas.Bool.{leb-true}
use Rattle.arrayvec.proofs.ArrayVecLemmas.{items-with_items}
use Rattle.rules.specs.Choose.{fifth}
use Rattle.selecting.specs.Lists.{free}
use Rattle.selecting.specs.Made.{Of}
use Rattle.selecting.proofs.Fifths.{fifth_up}
use Rattle.selecting.proofs.reports.report.Goals as goal

pub slice_bounds-report_of-end : goal.slice_bounds-report_of-end
slice_bounds-report_of-end c =
    let es = c.args.entries.now.items in
    let kept = c.keep_free.new.entries in
    let ranked = c.rank_all.new.entries in
    let same = c.rank_all.auto.entries in
    let shown = ap length c.deref_mut.ensures.value in
    let all = ap length (c.deref.ensures.0 ∙ items-with_items kept ranked (omega arith)) in
    let left = ap length c.keep_free.ensures in
    let many = length-filter (free c.args.raise) es in
    let enough = leb-true (length es) (5 * count_by (free c.args.raise) es) c.requires.1 in
    let cut = length-take c.div_ceil-size.result c.deref.result.now in
    let size = c.div_ceil-size.ensures ∙ fifth_up c.len.result in
    let n = c.len.ensures.value in
    omega arith

pub returns : goal.returns
returns c =
    let a = c.args in
    let es = a.entries.now.items in
    let kept = c.keep_free.new.entries in
    let ranked = c.rank_all.new.entries in
    let same = c.rank_all.auto.entries in
    let shown = ap length c.deref_mut.ensures.value in
    let all = c.deref.ensures.0 ∙ items-with_items kept ranked (omega arith) in
    let size = c.div_ceil-size.ensures ∙ fifth_up c.len.result ∙ ap fifth c.len.ensures.value in
    record {
      order = ranked;
      shuffled = subst (λ xs. IsPermutation xs ranked) (c.deref_mut.ensures.value ∙ c.keep_free.ensures) c.rank_all.ensures.shuffled;
      rises = c.rank_all.ensures.ordered;
      first = subst (λ n. Of (take n ranked) a.raise a.question a.apart c.report_of.result) size (subst (λ xs. Of (take c.div_ceil-size.result xs) a.raise a.question a.apart c.report_of.result) all c.report_of.ensures);
    }
