-- All that was checked by hand, as one fact about the definitions. Assumes nothing.
use Rattle.worked.specs.Calendars.{Counted}
use Rattle.worked.specs.Rivs.{Rivs}
use Rattle.worked.specs.Scenes.{Scenes}

pub record Examples : Type 0 where
  pub calendar : Counted
  pub rivs : Rivs
  pub scenes : Scenes
