-- What a search among candidates means. Assumes nothing.
use Rattle.std.specs.Prelude.{List}
use Rattle.rules.specs.Calendar.{Pool}
use Rattle.rules.specs.Choose.{Question}
use Rattle.pool.specs.Pools.{meaning}
use Rattle.choosing.specs.Asked.{question_of}
use Rattle.choosing.specs.declared.Search.{Search}
use Rattle.choosing.specs.declared.Slot.{Slot}

-- the pool, the question and the slots of a search
abbrev pub pool_of : Search → Pool
pool_of s = meaning s.pool.now

abbrev pub asked : Search → Question
asked s = question_of s.question.now

abbrev pub slots : Search → List Slot
slots s = s.slots.now
