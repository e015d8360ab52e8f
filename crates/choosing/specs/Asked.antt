-- What a question of the code means. Assumes nothing.
use Rattle.rules.specs.Choose.{Question as Meant}
use Rattle.choosing.specs.declared.Question.{Question}

abbrev pub question_of : Question → Meant
question_of q =
    record {
      length = q.length;
      code = q.code;
      turns = q.turns;
      priority = q.priority;
      from = q.from;
      to = q.to;
    }
