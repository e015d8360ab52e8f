-- The worked RIVs hold. Assumes nothing.
use Rattle.std.proofs.Common.{refl, arith}
use Rattle.rules.specs.Format.{riv, width, pair}
use Rattle.worked.specs.Rivs.{Rivs}
use Rattle.rules.proofs.Riv.{names_below}

pub rivs : Rivs
unfolding riv width pair
rivs =
    record {
      four = refl;
      three_two = refl;
      four_one = refl;
      five_none = refl;
      nothing = refl;
      nobody = λ l f w. absurd (omega (arith, names_below 5 15 l f w));
    }
