-- What a sparse memory means. Assumes nothing.
use Rattle.rules.specs.Sensing.{Meaning, Sound}
use Rattle.rules.proofs.Soundness.{sound_from}
use Rattle.memory.specs.SparseParts.{meant}
use Rattle.memory.specs.declared.sparse.Sparse.{Sparse}

abbrev pub sparse : Sparse → Meaning
sparse s = meant s.ring s.places.now

pub sparse_sound : (s : Sparse) → Sound (sparse s)
sparse_sound s = sound_from (sparse s) s.sound
