use Rattle.std.proofs.Common.{◌≡◌, ℕ, ◌+◌, ◌<◌, Bool, true, false, ◌&&◌, List, [], length, get_or, sym, ap, ◌∙◌, subst, arith, length-set}
use Rattle.rules.specs.Choose.{interval, turn, share}
use Rattle.choosing.specs.Fits.{place_of, index_of}
use Rattle.choosing.specs.Searches.{pool_of, asked, slots}
use Rattle.reserving.specs.Needs.{bars}
use Rattle.reserving.specs.declared.Need.{Need}
use Rattle.reserving.specs.Lifts.{RowLifted, by_share, by_turn}
use Rattle.std.proofs.Math.Bool.{and-false}
use Rattle.reserving.proofs.Lifting.{row_same, row_none}
use Rattle.reserving.proofs.Walked.{Walked, walked_set, walked_skip}
use Rattle.reserving.proofs.lifts.lift_turn.Goals as goal
use Rattle.reserving.proofs.lifts.lift_turn.Goals.{then-is_turn, else-is_turn}

pub loop-i-preserved : goal.loop-i-preserved
loop-i-preserved c =
    let a = c.args in
    let s = a.search.now in
    let few = s.few in
    let old = a.rows.now in
    let i = c.loop-i.i in
    let q = asked s in
    let taken = a.taken in
    let test : ℕ → ℕ → ℕ → Bool = λ i r x. by_turn (pool_of s) q a.t taken.first taken.many a.need r (place_of (slots s) i x) in
    let R : ℕ → List Need → List Need → Type 0 = λ i b d. RowLifted (test i) b d in
    let now = turn (index_of (slots s) i) (interval (pool_of s) q) q.turns a.t in
    let walked = c.loop-i.invariant.0 in
    let same = walked.1 i (omega arith) in
    elim c.if-is_turn.branch [
      | then-is_turn w ↦
          let l : i < length c.loop-i.rows = omega arith in
          let there : now ≡ true = sym c.is_turn.ensures ∙ w.if-is_turn.true in
          let row = w.lift_row.new.row in (
            subst (λ ys. Walked [] R (i + 1) old ys) (sym w.rows-is)
                (walked_set [] R i row old c.loop-i.rows l walked
                (row_same (by_share q.length taken.first taken.many a.need) (test i) (get_or old i []) row
                (λ r x. ap (λ b. bars a.need r && (b && share x q.length taken.first taken.many)) there)
                (subst (λ b. RowLifted (by_share q.length taken.first taken.many a.need) b row) same w.lift_row.ensures))),
            ap length w.rows-is ∙ length-set c.loop-i.rows i row ∙ c.loop-i.invariant.1,
          )
      | else-is_turn w ↦
          let nowhere : now ≡ false = sym c.is_turn.ensures ∙ w.if-is_turn.false in (
            subst (λ ys. Walked [] R (i + 1) old ys) (sym w.rows-is)
                (walked_skip [] R i old c.loop-i.rows walked
                (row_none (test i) (get_or old i []) (λ r x. ap (λ b. bars a.need r && (b && share x q.length taken.first taken.many)) nowhere ∙ and-false (bars a.need r)))),
            ap length w.rows-is ∙ c.loop-i.invariant.1,
          )
    ]
