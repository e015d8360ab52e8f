-- The allowed intervals are the ones of the mask. Assumes nothing.
use Rattle.std.proofs.Common.{◌≡◌, ℕ, ◌+◌, ◌-◌, ◌/◌, ◌%◌, ◌^◌, ◌<◌, eqb, ◌∙◌, arith}
use lib.Count.{ones}
use Rattle.std.proofs.lemmas.Bool.{le-leb}
use Rattle.rules.specs.Calendar.{Pool, allowed, intervals}
use Rattle.rules.proofs.Bits.{ones_counted}
use Rattle.rules.proofs.Counts.{count_same}

bit_allows : (p : Pool) (k : ℕ) → k < 12 → eqb (p.mask / 2 ^ k % 2) 1 ≡ allowed p (k + 1)
unfolding allowed
bit_allows p k h =
    let low = le-leb 1 (k + 1) (omega arith) in
    let high = le-leb (k + 1) 12 (omega arith) in
    let same : k + 1 - 1 ≡ k = omega arith in
    rw (low, high, same)

pub allowed_counted : (p : Pool) → p.mask < 4096 → ones p.mask ≡ intervals p
unfolding intervals
allowed_counted p small =
    ones_counted 12 p.mask (omega arith) ∙ count_same (λ k. eqb (p.mask / 2 ^ k % 2) 1) (λ k. allowed p (k + 1)) 12 (bit_allows p)
