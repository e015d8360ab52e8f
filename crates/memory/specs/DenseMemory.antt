-- What a dense memory means. Assumes nothing.
use Rattle.rules.specs.Sensing.{Meaning, Sound}
use Rattle.rules.proofs.Soundness.{sound_from}
use Rattle.memory.specs.DensePlaces.{meant}
use Rattle.memory.specs.declared.dense.Dense.{Dense}

abbrev pub dense : Dense → Meaning
dense d = meant d.ring d.places.now

pub dense_sound : (d : Dense) → Sound (dense d)
dense_sound d = sound_from (dense d) d.sound
