use Rattle.std.proofs.Common.{◌≡◌, ◌-◌, length}
use Rattle.choosing.specs.Asked.{question_of}
use Rattle.choosing.specs.Found.{slots_of}
use Rattle.measuring.specs.Sums.{AllWalked}
use Rattle.measuring.proofs.means.means.Given as goal

abbrev pub invariant-loop-z : goal.invariant-loop-z
invariant-loop-z g l =
    AllWalked (g.M.Asking.meaning l.m) (question_of l.q) l.step (l.next - (g.M.Asking.meaning l.m).window) (l.z - (l.next - (g.M.Asking.meaning l.m).window)) (slots_of l.fn.c) l.sums
    × (length l.sums ≡ length (slots_of l.fn.c))
