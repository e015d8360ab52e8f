use Rattle.std.proofs.Common.{◌≡◌, ◌≤◌, ◌+◌, ◌++◌, map, length, drop}
use Rattle.std.specs.List.{range_with_len}
use Rattle.std.specs.Slice.Iter.{iter_rest}
use Rattle.selecting.specs.Lists.{entry_at}
use Rattle.selecting.proofs.lists.list_slot.Given as goal

abbrev pub invariant-loop-channel : goal.invariant-loop-channel
invariant-loop-channel l =
    (l.entries.items ≡ l.initial.entries.items ++ map (entry_at l.slot l.needs l.means) (range_with_len 0 (length l.yielded)))
    × (length l.entries.items ≡ length l.initial.entries.items + length l.yielded)
    × (l.channel-iterator.a.a.start ≡ length l.yielded)
    × (l.channel-iterator.a.a.end ≡ l.width)
    × (length l.yielded ≤ l.width)
    × (iter_rest l.channel-iterator.a.b ≡ drop (length l.yielded) l.needs)
    × (iter_rest l.channel-iterator.b ≡ drop (length l.yielded) l.means)
