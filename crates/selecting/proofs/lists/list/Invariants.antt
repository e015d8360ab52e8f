use Rattle.std.proofs.Common.{◌≡◌, ◌*◌, length, drop}
use Rattle.std.specs.Slice.Iter.{iter_rest}
use Rattle.choosing.specs.Found.{slots_of}
use Rattle.selecting.specs.Lists.{rows_of}
use Rattle.selecting.proofs.lists.list.Given as goal

abbrev pub invariant-loop-slot : goal.invariant-loop-slot
invariant-loop-slot l =
    (l.entries.items ≡ rows_of (slots_of l.fn.found) l.width l.fn.needs l.fn.means (length l.yielded))
    × (length l.entries.items ≡ length l.yielded * l.width)
    × (iter_rest l.slot-iterator.a.a ≡ drop (length l.yielded) (slots_of l.fn.found))
    × (iter_rest l.slot-iterator.a.b ≡ drop (length l.yielded) l.fn.needs)
    × (iter_rest l.slot-iterator.b ≡ drop (length l.yielded) l.fn.means)
