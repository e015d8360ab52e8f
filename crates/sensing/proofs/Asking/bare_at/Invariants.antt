use Rattle.std.proofs.Common.{◌≡◌, ℕ, ◌<◌, true, None}
use Rattle.rules.specs.Sensing.{inside}
use Rattle.sensing.proofs.Asking.bare_at.Given as goal

abbrev pub invariant-loop-resource : goal.invariant-loop-resource
invariant-loop-resource g l =
    ((k : ℕ) → k < l.resource → (g.Self.Asking.meaning l.self).held l.index k ≡ None)
    × (0 < l.resource → inside (g.Self.Asking.meaning l.self) l.index ≡ true)
