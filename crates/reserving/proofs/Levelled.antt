-- The levels that a pool answers, and what a record reserves by them. Assumes nothing.
use Rattle.std.proofs.Common.{◌≡◌, ℕ, ◌+◌, ◌*◌, ◌≤◌, Bool, true, false, cond, ◌&&◌, leb, Some, None, ap, ◌∙◌, arith}
use Rattle.std.specs.List.{range_with_len}
use Rattle.std.proofs.lemmas.Bool.{and_from, le-leb}
use Rattle.rules.specs.Calendar.{Pool, level}
use Rattle.rules.specs.Choose.{Question, Place, level_of, takes}
use Rattle.rules.specs.Counting.{any}
use Rattle.rules.specs.Format.{Record}

pub levelled : (p : Pool) (own other v : ℕ) → Some v ≡ level p own other → v ≡ level_of p own other
unfolding level
levelled p own other v e =
    elim (leb own 7 && leb other 7) as (λ b. Some v ≡ cond b (Some (level_of p own other)) None → v ≡ level_of p own other) [
      | true ↦ λ e. cc
      | false ↦ λ e. let z : ◌≡◌ {A = ℕ} 0 1 = cc in absurd (omega arith)
    ] e

pub has_level : (p : Pool) (own other : ℕ) → own ≤ 7 → other ≤ 7 → None ≡ level p own other → ⊥
unfolding level
has_level p own other h k e =
    let t = and_from (leb own 7) (leb other 7) (le-leb own 7 h) (le-leb other 7 k) in
    let f : None ≡ Some (level_of p own other) = e ∙ ap (λ b. cond b (Some (level_of p own other)) None) t in
    let z : ◌≡◌ {A = ℕ} 0 1 = cc in
    omega arith

-- the numbers that the code has for a record's are the rules'
pub same_bases : (q : Question) (what : Record) (a z apart : ℕ) (c : Place) (b b' : Bool) (d d' n n' : ℕ) → b ≡ b' → d ≡ d' → n ≡ n' → (b && any (λ k. takes q apart c what a (z + k * d)) (range_with_len 0 (n + 1))) ≡ (b' && any (λ k. takes q apart c what a (z + k * d')) (range_with_len 0 (n' + 1)))
same_bases q what a z apart c b b' d d' n n' e f g =
    ap (λ t. t && any (λ k. takes q apart c what a (z + k * d)) (range_with_len 0 (n + 1))) e
    ∙ ap (λ t. b' && any (λ k. takes q apart c what a (z + k * t)) (range_with_len 0 (n + 1))) f
    ∙ ap (λ t. b' && any (λ k. takes q apart c what a (z + k * d')) (range_with_len 0 (t + 1))) g
