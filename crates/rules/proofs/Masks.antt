-- The uplink mask of a code, and its ones. Assumes nothing.
use Rattle.std.proofs.Common.{◌≡◌, ℕ, ◌/◌, ◌%◌, ◌^◌, ◌<◌, ◌≤◌, Bool, true, false, not, eqb, [], length, sym, refl, ap, ⊎_elim, arith}
use lib.Count.{ones, ones_in}
use Rattle.std.proofs.Math.Nat.{zero-div}
use Rattle.std.proofs.lemmas.Bool.{eqb-true, cases_lt}
use Rattle.std.proofs.lemmas.List.{get_or_past}
use Rattle.rules.specs.Counting.{all_below, among}
use Rattle.rules.specs.Calendar.{positions}
use Rattle.rules.specs.Closed.{positions_below, uplink_mask}
use Rattle.rules.proofs.Limits.{all_at}

-- two tests that answer alike
same : Bool → Bool → Bool
same true b = b
same false b = not b

same_is : (a b : Bool) → same a b ≡ true → a ≡ b
unfolding same
same_is true true t = refl
same_is true false t = sym t
same_is false true t = t
same_is false false t = refl

-- for each code and each place in ten, which antt computes: the mask's bit says whether it is a position
abbrev bit_test : ℕ → ℕ → Bool
bit_test c k = same (eqb (uplink_mask c / 2 ^ k % 2) 1) (among k (positions c))

bit_table : all_below (λ c. all_below (bit_test c) 10) 8 ≡ true
unfolding same
bit_table = refl

-- a code that there is not has no positions
no_positions : (code : ℕ) → 8 ≤ code → positions code ≡ []
no_positions code h = search (get_or_past, arith)

pub mask_bit : (code r : ℕ) → r < 10 → eqb (uplink_mask code / 2 ^ r % 2) 1 ≡ among r (positions code)
mask_bit code r h =
    ⊎_elim
    (λ (c : code < 8). same_is _ _ (all_at (bit_test code) 10 (all_at (λ c. all_below (bit_test c) 10) 8 bit_table code c) r h))
    (λ (c : 8 ≤ code). rw (no_positions code c) (ap (λ n. eqb (n % 2) 1) (zero-div (2 ^ r))))
    (cases_lt code 8)

-- the mask's bits below a place count the positions below it
abbrev below_test : ℕ → ℕ → Bool
below_test c k = eqb (ones (uplink_mask c % 2 ^ k)) (positions_below c k)

below_table : all_below (λ c. all_below (below_test c) 10) 8 ≡ true
unfolding ones ones_in
below_table = refl

pub mask_below : (code r : ℕ) → code ≤ 7 → r < 10 → ones (uplink_mask code % 2 ^ r) ≡ positions_below code r
mask_below code r c h = eqb-true _ _ (all_at (below_test code) 10 (all_at (λ c. all_below (below_test c) 10) 8 below_table code (omega arith)) r h)

ones_table : all_below (λ c. eqb (ones (uplink_mask c)) (length (positions c))) 8 ≡ true
unfolding ones ones_in
ones_table = refl

pub mask_ones : (code : ℕ) → code ≤ 7 → ones (uplink_mask code) ≡ length (positions code)
mask_ones code h = eqb-true _ _ (all_at (λ c. eqb (ones (uplink_mask c)) (length (positions c))) 8 ones_table code (omega arith))
