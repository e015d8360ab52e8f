use Rattle.std.proofs.Common.{◌≡◌, ℕ, ◌+◌, [], ◌∷◌, ◌++◌, map, length, get_or, drop, None, sym, ap, ◌∙◌, arith, Option}
use Rattle.std.specs.List.{range_with_len}
use Rattle.std.proofs.lemmas.List.{append_assoc, length_push}
use Rattle.std.proofs.lemmas.List.FromFn.{map-range_with_len_more}
use Rattle.measuring.specs.declared.Mean.{Mean}
use Rattle.reserving.specs.declared.Need.{Need}
use Rattle.reserving.specs.declared.Need.TheVariants.{From}
use Rattle.selecting.specs.Lists.{entry_at}
use Rattle.selecting.specs.declared.Entry.{Entry}
use Rattle.selecting.proofs.Rows.{turn}
use Rattle.selecting.proofs.lists.list_slot.Goals as goal

pub loop-channel-preserved : goal.loop-channel-preserved
loop-channel-preserved c =
    let a = c.args in
    let v = c.loop-channel.invariant in
    let w = c.in-Some.ensures.steps in
    let n = length c.loop-channel.yielded in
    let s = c.in-Some in
    let need = turn a.needs.now _ _ s.need.now n v.5 w.0.1 in
    let mean = turn a.means.now _ _ s.mean.now n v.6 w.1 in
    let f = entry_at a.slot.now a.needs.now a.means.now in
    let before = c.loop-channel.entries.items in
    let front = a.entries.now.items in
    let put : ℕ → Need → Option Mean → Entry = λ x k o. record { place = record { subframe = a.slot.now.subframe; index = a.slot.now.index; channel = x }; need = k; mean = o } in
    let count = w.0.0 in
    let more = length_push c.loop-channel.yielded ((s.channel, s.need), s.mean) in
    let next : length (c.loop-channel.yielded ++ ((s.channel, s.need), s.mean) ∷ []) ≡ n + 1 = omega (arith, more) in
    let here : s.channel ≡ n = omega (arith, count, v.2) in (
      c.push.ensures.items
          ∙ ap (λ x. before ++ put x s.need.now s.mean.now ∷ []) here
          ∙ ap (λ k. before ++ put n k s.mean.now ∷ []) (need.0 (From 0))
          ∙ ap (λ o. before ++ put n (get_or a.needs.now n (From 0)) o ∷ []) (mean.0 None)
          ∙ ap (λ ys. ys ++ f n ∷ []) v.0
          ∙ append_assoc front (map f (range_with_len 0 n)) (f n ∷ [])
          ∙ ap (λ ys. front ++ ys) (sym (map-range_with_len_more f 0 n n (omega arith)))
          ∙ ap (λ k. front ++ map f (range_with_len 0 k)) (sym next),
      omega (arith, c.push.ensures.len, next),
      omega (arith, count, v.2, next),
      omega (arith, count, v.3),
      omega (arith, count, v.2, v.3, next),
      need.1 ∙ ap (λ k. drop k a.needs.now) (sym next),
      mean.1 ∙ ap (λ k. drop k a.means.now) (sym next),
    )
