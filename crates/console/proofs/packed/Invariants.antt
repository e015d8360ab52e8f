use Rattle.std.proofs.Common.{◌≡◌, ◌≤◌, ◌<◌, ◌==◌, ℕ, false, length, slice_index}
use Rattle.rules.specs.Configure.{byte_bit}
use Rattle.console.proofs.packed.Given as goal

abbrev pub invariant-loop-i : goal.invariant-loop-i
invariant-loop-i l = record {
  whole : length l.bytes ≡ 13;
  taken : (k : ℕ) → k < l.i → byte_bit l.bytes k ≡ (slice_index l.digits k == 49);
  left : (k : ℕ) → k < 104 → l.i ≤ k → byte_bit l.bytes k ≡ false;
}
