-- A bit that is set in the bytes of a bitmap, and the others beside it. Assumes nothing.
use Rattle.std.proofs.Common.{◌≡◌, ◌≢◌, ◌<◌, ◌+◌, ◌-◌, ◌*◌, ◌^◌, ◌/◌, ◌%◌, ◌==◌, ℕ, true, false, List, length, get_or, set, bit_or, w8, ap, ◌∙◌, sym, inl, inr, arith}
use Rattle.std.proofs.lemmas.List.{get_or-set_same, get_or-set_other}
use Rattle.std.proofs.lemmas.Nat.Bits.{bit_at_set_same, bit_at_set_other}
use Rattle.std.proofs.lemmas.Bool.Decides.{eqb_tells}
use Rattle.std.specs.Int.{bit_at}
use Rattle.rules.specs.Configure.{byte_bit}

-- bytes with the bit of place i set
abbrev pub with_bit : List ℕ → ℕ → List ℕ
with_bit bytes i = set bytes (i / 8) (bit_or (get_or bytes (i / 8) 0) (1 * 2 ^ (7 - i % 8) % 2 ^ 8))

pub with_bit_same : (bytes : List ℕ) (i : ℕ) → i / 8 < length bytes → byte_bit (with_bit bytes i) i ≡ true
with_bit_same bytes i h =
    ap (λ n. n / 2 ^ (7 - i % 8) % 2 == 1) (get_or-set_same bytes (i / 8) _ 0 h)
    ∙ ap (λ n. n == 1) (bit_at_set_same w8 (get_or bytes (i / 8) 0) (7 - i % 8) (omega arith))

pub with_bit_other : (bytes : List ℕ) (i k : ℕ) → i / 8 < length bytes → k ≢ i → byte_bit (with_bit bytes i) k ≡ byte_bit bytes k
with_bit_other bytes i k h apart =
    elim (eqb_tells (k / 8) (i / 8)) [
      | inl same ↦
          let place : get_or (with_bit bytes i) (k / 8) 0 ≡ bit_or (get_or bytes (i / 8) 0) (1 * 2 ^ (7 - i % 8) % 2 ^ 8) =
          ap (λ j. get_or (with_bit bytes i) j 0) same.1 ∙ get_or-set_same bytes (i / 8) _ 0 h in
          let other : bit_at (bit_or (get_or bytes (i / 8) 0) (1 * 2 ^ (7 - i % 8) % 2 ^ 8)) (7 - k % 8) ≡ bit_at (get_or bytes (i / 8) 0) (7 - k % 8) =
          bit_at_set_other w8 (get_or bytes (i / 8) 0) (7 - i % 8) (omega arith) (7 - k % 8) (omega arith) in
          ap (λ n. n / 2 ^ (7 - k % 8) % 2 == 1) place
          ∙ ap (λ n. n == 1) other
          ∙ ap (λ j. get_or bytes j 0 / 2 ^ (7 - k % 8) % 2 == 1) (sym same.1)
      | inr apart ↦ ap (λ n. n / 2 ^ (7 - k % 8) % 2 == 1) (get_or-set_other bytes (i / 8) (k / 8) _ 0 apart.1)
    ]

-- one more digit, a 1 with its bit set
pub taken_more : (bytes digits : List ℕ) (i k : ℕ) → i / 8 < length bytes → get_or digits i 0 ≡ 49 → ((j : ℕ) → j < i → byte_bit bytes j ≡ (get_or digits j 0 == 49)) → k < i + 1 → byte_bit (with_bit bytes i) k ≡ (get_or digits k 0 == 49)
taken_more bytes digits i k h one below less =
    elim (eqb_tells k i) [
      | inl same ↦
          ap (byte_bit (with_bit bytes i)) same.1 ∙ with_bit_same bytes i h
          ∙ sym (ap (λ j. get_or digits j 0 == 49) same.1 ∙ ap (λ d. d == 49) one)
      | inr apart ↦ with_bit_other bytes i k h apart.1 ∙ below k (omega arith)
    ]

-- one more digit, which is not a 1
pub taken_none : (bytes digits : List ℕ) (i k : ℕ) → get_or digits i 0 ≢ 49 → byte_bit bytes i ≡ false → ((j : ℕ) → j < i → byte_bit bytes j ≡ (get_or digits j 0 == 49)) → k < i + 1 → byte_bit bytes k ≡ (get_or digits k 0 == 49)
taken_none bytes digits i k other blank below less =
    elim (eqb_tells k i) [
      | inl same ↦
          ap (byte_bit bytes) same.1 ∙ blank
          ∙ sym (ap (λ j. get_or digits j 0 == 49) same.1 ∙ elim (eqb_tells (get_or digits i 0) 49) [ inl t ↦ absurd (other t.1) | inr t ↦ t.0 ])
      | inr apart ↦ below k (omega arith)
    ]
