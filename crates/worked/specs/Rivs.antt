-- Worked RIVs of five sub-channels, checked by hand. Assumes nothing.
use Rattle.std.specs.Prelude.{◌≡◌, ℕ, None}
use Rattle.rules.specs.Format.{riv, width, Names, pair}

pub record Rivs : Type 0 where
  pub four : width 5 ≡ 4
  pub three_two : riv 5 3 2 ≡ 12
  pub four_one : riv 5 4 1 ≡ 13
  pub five_none : riv 5 5 0 ≡ 9
  pub nothing : pair 5 15 ≡ None
  pub nobody : (l f : ℕ) → Names 5 15 l f → ⊥
