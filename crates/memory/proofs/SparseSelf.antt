-- What holds of every memory, by its parts. Assumes nothing.
use Rattle.memory.specs.SparseMemory.{sparse_sound}
use Rattle.memory.specs.declared.sparse.Sparse.{Sparse}
use Rattle.memory.proofs.SparseSteps.{Whole}

pub whole : (s : Sparse) → Whole s.ring s.places.now
whole s = record { keys = s.keys; lives = s.lives; sound = sparse_sound s }
