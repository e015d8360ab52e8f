use Rattle.std.proofs.Common.{◌≡◌, ℕ, ◌<◌, ◌≤◌, false, ◌||◌, length, get_or}
use Rattle.rules.specs.Choose.{interval, turn}
use Rattle.choosing.specs.Fits.{index_of}
use Rattle.choosing.specs.Searches.{pool_of, asked, slots}
use Rattle.choosing.proofs.Search.mark_turn.Given as goal

abbrev pub invariant-loop-i : goal.invariant-loop-i
invariant-loop-i l = record {
  done : (j : ℕ) → j < l.i → get_or l.flags j false ≡ (get_or l.initial.flags j false || turn (index_of (slots l.self) j) (interval (pool_of l.self) (asked l.self)) (asked l.self).turns l.t);
  rest : (j : ℕ) → l.i ≤ j → get_or l.flags j false ≡ get_or l.initial.flags j false;
  long : length l.flags ≡ 100;
}
