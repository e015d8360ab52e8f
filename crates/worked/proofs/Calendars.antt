-- The worked calendar holds. Assumes nothing.
use Rattle.std.proofs.Common.{◌≡◌, ℕ, ◌*◌, ◌/◌, ◌%◌, true, false, not, eqb, refl, ap, ◌∙◌, arith}
use Rattle.rules.specs.Counting.{one, count_below, some_below}
use Rattle.rules.specs.Calendar.{remains, rank, remaining, left_over, reserved, kept, cycle, in_set, index}
use Rattle.worked.specs.Calendars.{offset_pool, Counted}
use Rattle.rules.proofs.Limits.{limits}
use Rattle.rules.proofs.Ranks.{remaining_closed}

all : remaining offset_pool ≡ 10176
all = omega (arith, remaining_closed offset_pool (limits offset_pool refl))

left : left_over offset_pool ≡ 16
unfolding left_over
left = ap (λ r. r % 20) all

whole : cycle offset_pool ≡ 10160
unfolding cycle
whole = omega (arith, all, left)

ranked : rank offset_pool 1 ≡ 0
unfolding rank remains
ranked = refl

ranked_next : rank offset_pool 2 ≡ 1
unfolding rank remains
ranked_next = refl

-- whether a rank is reserved, at the numbers of this pool
spread : (k : ℕ) → reserved offset_pool k ≡ some_below (λ m. eqb (m * 10176 / 16) k) 16
unfolding reserved
spread k = ap (λ l. some_below (λ m. eqb (m * remaining offset_pool / l) k) l) left ∙ ap (λ r. some_below (λ m. eqb (m * r / 16) k) 16) all

first_kept : kept offset_pool 1 ≡ false
unfolding kept remains
first_kept = ap (λ k. not (reserved offset_pool k)) ranked ∙ ap not (spread 0)

second_kept : kept offset_pool 2 ≡ true
unfolding kept remains
second_kept = ap (λ k. not (reserved offset_pool k)) ranked_next ∙ ap not (spread 1)

none_kept : kept offset_pool 0 ≡ false
unfolding kept remains
none_kept = refl

counted : count_below (kept offset_pool) 2 ≡ 0
counted = omega (arith, ap one none_kept, ap one first_kept)

pub calendar : Counted
unfolding in_set index remains
calendar =
    record {
      remaining = all;
      left_over = left;
      cycle = whole;
      stays = refl;
      reserved = ap (reserved offset_pool) ranked ∙ spread 0;
      outside = first_kept;
      inside = second_kept;
      first = omega (arith, counted);
    }
