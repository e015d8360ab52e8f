use Rattle.std.proofs.Common.{◌≡◌, ℕ, ◌-◌, ◌<◌, ◌≤◌, true}
use Rattle.rules.specs.Sensing.{Meaning, blank, bare}
use Rattle.sensing.proofs.Asking.nothing_held.Given as goal

abbrev pub invariant-loop-index : goal.invariant-loop-index
invariant-loop-index g l =
    let m : Meaning = g.Self.Asking.meaning l.self in
    (i : ℕ) → m.next - m.window ≤ i → i < l.index → (m.cell i ≡ blank) × (bare m i ≡ true)
