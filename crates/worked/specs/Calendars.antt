-- A worked calendar, checked by hand. Assumes nothing.
use Rattle.std.specs.Prelude.{◌≡◌, true, false, [], ◌∷◌, replicate}
use Rattle.rules.specs.Calendar.{Pool, remains, rank, remaining, left_over, reserved, cycle, in_set, index}

-- no TDD, one sync offset at 0, a bitmap of twenty ones
abbrev pub offset_pool : Pool
offset_pool =
    record {
      channels = 3;
      uplink = 7;
      offsets = 0 ∷ [];
      bits = replicate 20 true;
      mask = 1;
      levels = replicate 64 10;
    }

-- R 10,176, V 16, T 10,160; subframe 1 is reserved, and subframe 2 has index 0
pub record Counted : Type 0 where
  pub remaining : remaining offset_pool ≡ 10176
  pub left_over : left_over offset_pool ≡ 16
  pub cycle : cycle offset_pool ≡ 10160
  pub stays : remains offset_pool 1 ≡ true
  pub reserved : reserved offset_pool (rank offset_pool 1) ≡ true
  pub outside : in_set offset_pool 1 ≡ false
  pub inside : in_set offset_pool 2 ≡ true
  pub first : index offset_pool 2 ≡ 0
