use Rattle.rules.proofs.Choose.{blinded_is, is_blinded, reserved_is, is_reserved}
use Rattle.rules.proofs.Raises.{survives_more, survives_last, fair_window}
use Rattle.rules.proofs.Reports.{report_law}
use Rattle.rules.proofs.Turns.{turn_is, is_turn}
use Rattle.worked.proofs.choosing_says.Goals as goal

pub returns : goal.returns
returns c =
    record {
      sentences =
          record {
            turns = λ y apart n t. (turn_is y apart n t, is_turn y apart n t);
            blind = λ p m q y. (blinded_is p m q y, is_blinded p m q y);
            reserve = λ p m q r c wide fair. let w = fair_window p m fair in (reserved_is p m q r c wide w, is_reserved p m q r c wide w);
          };
      raises = record { more = survives_more; last = λ p m q r c fair. survives_last p m q r c (fair_window p m fair) };
      report = report_law;
    }
