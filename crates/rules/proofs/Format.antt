-- The fields of a control record can be read back from its word, and nothing else can. Assumes nothing.
use Rattle.std.proofs.Common.{◌≡◌, ℕ, ◌+◌, ◌-◌, ◌*◌, ◌/◌, ◌%◌, ◌^◌, ◌<◌, ◌≤◌, sym, refl, ap, ◌∙◌, mul-le-mul_right, mul_assoc, add-mul, div-add-mod', mul_right_comm, div-one, arith}
use Rattle.std.proofs.lemmas.Nat.{pow_pos, pow-add, shr-shr, div-mul-add, mod-mul-add}
use Rattle.rules.specs.Format.{Record, riv, width, bits, placed, priority_of, code_of, riv_of, gap_of, mcs_of, again_of, rest_of, word, Has, Within}
use Rattle.rules.proofs.Width.{width_small, riv_fits}

-- a word by its parts: y is what stands between the code and the zeros, z the value of its lowest bit, q that of the
-- RIV's width
whole_of : (a q z : ℕ) → q * z ≡ 32768 → a * q * 1024 * z ≡ a * 33554432
whole_of a q z e = omega (arith, mul_right_comm (a * q) 1024 z, ap (λ x. x * 1024) (mul_assoc a q z ∙ ap (λ x. a * x) e))

abbrev tail : ℕ → ℕ → ℕ → ℕ → ℕ
tail v g m i = v * 1024 + g * 64 + m * 2 + i

record Parts (q z w p c v g m i : ℕ) : Type 0 where
  priority : w / 536870912 % 8 ≡ p
  code : w / 33554432 % 16 ≡ c
  riv : w / z / 1024 % q ≡ v
  gap : w / z / 64 % 16 ≡ g
  mcs : w / z / 2 % 32 ≡ m
  again : w / z % 2 ≡ i
  rest : w % z ≡ 0
  small : w < 4294967296

parts : (q z w p c v g m i : ℕ) → q * z ≡ 32768 → 0 < z → p < 8 → c < 16 → v < q → g < 16 → m < 32 → i < 2 → w ≡ p * 536870912 + c * 33554432 + tail v g m i * z → Parts q z w p c v g m i
parts q z w p c v g m i e some hp hc hv hg hm hi is =
    let y = tail v g m i in
    let a = p * 16 + c in
    let l : y + 1 ≤ q * 1024 = omega arith in
    let less = mul-le-mul_right z l in
    let top = whole_of 1 q z e in
    let b = a * q * 1024 + y in
    let whole : w ≡ b * z + 0 = omega (arith, add-mul (a * q * 1024) y z, whole_of a q z e) in
    let d : w / z ≡ b = ap (λ x. x / z) whole ∙ div-mul-add b z 0 some in
    let narrow : y * z < 33554432 = omega (arith, less, add-mul y 1 z, mul_right_comm q 1024 z, ap (λ x. x * 1024) e) in
    record {
      priority = omega arith;
      code = omega arith;
      riv = let h : w / z / 1024 ≡ a * q + v = omega arith in ap (λ x. x % q) h ∙ mod-mul-add a q v hv;
      gap = omega arith;
      mcs = omega arith;
      again = omega arith;
      rest = ap (λ x. x % z) whole ∙ mod-mul-add b z 0 some;
      small = omega arith;
    }

digits : (b : ℕ) → b ≡ tail (b / 1024) (b / 64 % 16) (b / 2 % 32) (b % 2)
digits b =
    let high : b / 64 / 16 ≡ b / 1024 = omega arith in
    let low : b / 2 / 32 ≡ b / 64 = omega arith in
    let h : b / 64 ≡ b / 1024 * 16 + b / 64 % 16 = omega arith in
    let l : b / 2 ≡ b / 64 * 32 + b / 2 % 32 = omega arith in
    omega arith

-- and a word whose lowest bits are zero is put together from its parts
whole : (q z w : ℕ) → q * z ≡ 32768 → 0 < q → w < 4294967296 → w % z ≡ 0 → w / z / 1024 / q ≡ w / 33554432 → (w / 536870912 % 8) * 536870912 + (w / 33554432 % 16) * 33554432 + tail (w / z / 1024 % q) (w / z / 64 % 16) (w / z / 2 % 32) (w / z % 2) * z ≡ w
whole q z w e some small rest top =
    let b = w / z in
    let h = w / 33554432 in
    let v = b / 1024 % q in
    let y = tail v (b / 64 % 16) (b / 2 % 32) (b % 2) in
    let rows : h * q + v ≡ b / 1024 = ap (λ x. x * q + v) (sym top) ∙ div-add-mod' (b / 1024) q in
    let split : b ≡ h * q * 1024 + y = omega (arith, digits b) in
    omega (arith, div-add-mod' w z, ap (λ x. x * z) split, add-mul (h * q * 1024) y z, whole_of h q z e)

-- the fields by shifts: z is the value of the lowest bit of the fields
module _ (n : ℕ) (small : width n ≤ 15) where
  field : (x from size j : ℕ) → 32 - (from + size) ≡ (15 - width n) + j → bits x from size ≡ x / 2 ^ (15 - width n) / 2 ^ j % 2 ^ size
  unfolding bits
  field x from size j e = ap (λ k. x / 2 ^ k % 2 ^ size) e ∙ ap (λ y. y % 2 ^ size) (sym (shr-shr x (15 - width n) j))

  riv_at : (x : ℕ) → riv_of n x ≡ x / 2 ^ (15 - width n) / 1024 % 2 ^ width n
  riv_at x = field x 7 (width n) 10 (omega arith)

  gap_at : (x : ℕ) → gap_of n x ≡ x / 2 ^ (15 - width n) / 64 % 16
  gap_at x = field x (7 + width n) 4 6 (omega arith)

  mcs_at : (x : ℕ) → mcs_of n x ≡ x / 2 ^ (15 - width n) / 2 % 32
  mcs_at x = field x (11 + width n) 5 1 (omega arith)

  again_at : (x : ℕ) → again_of n x ≡ x / 2 ^ (15 - width n) % 2
  again_at x = field x (16 + width n) 1 0 (omega arith) ∙ ap (λ y. y % 2) (div-one (x / 2 ^ (15 - width n)))

  rest_at : (x : ℕ) → rest_of n x ≡ x % 2 ^ (15 - width n)
  unfolding bits
  rest_at x =
      let e : 32 - (17 + width n + (15 - width n)) ≡ 0 = omega arith in
      ap (λ k. x / 2 ^ k % 2 ^ (15 - width n)) e ∙ ap (λ y. y % 2 ^ (15 - width n)) (div-one x)

  high_at : (x : ℕ) → x / 2 ^ (15 - width n) / 1024 / 2 ^ width n ≡ x / 33554432
  high_at x =
      let e : 15 - width n + 10 + width n ≡ 25 = omega arith in
      ap (λ y. y / 2 ^ width n) (shr-shr x (15 - width n) 10) ∙ shr-shr x (15 - width n + 10) (width n) ∙ ap (λ k. x / 2 ^ k) e

  place : (x from size j : ℕ) → 32 - (from + size) ≡ j + (15 - width n) → placed x from size ≡ x * 2 ^ j * 2 ^ (15 - width n)
  unfolding placed
  place x from size j e =
      ap (λ k. x * 2 ^ k) e ∙ ap (λ y. x * y) (pow-add 2 j (15 - width n)) ∙ sym (mul_assoc x (2 ^ j) (2 ^ (15 - width n)))

  place_last : (x : ℕ) → placed x (16 + width n) 1 ≡ x * 2 ^ (15 - width n)
  unfolding placed
  place_last x = let e : 32 - (16 + width n + 1) ≡ 15 - width n = omega arith in ap (λ k. x * 2 ^ k) e

  place_priority : (x : ℕ) → placed x 0 3 ≡ x * 536870912
  unfolding placed
  place_priority x = refl

  place_code : (x : ℕ) → placed x 3 4 ≡ x * 33554432
  unfolding placed
  place_code x = refl

  word_at : (r : Record) → word n r ≡ r.priority * 536870912 + r.code * 33554432 + tail (riv n r.length r.start) r.gap r.mcs r.again * 2 ^ (15 - width n)
  unfolding word
  word_at r =
      let z = 2 ^ (15 - width n) in
      let v = riv n r.length r.start in
      let a = add-mul (v * 1024 + r.gap * 64 + r.mcs * 2) r.again z in
      let b = add-mul (v * 1024 + r.gap * 64) (r.mcs * 2) z in
      let c = add-mul (v * 1024) (r.gap * 64) z in
      let d = place v 7 (width n) 10 (omega arith) in
      let e = place r.gap (7 + width n) 4 6 (omega arith) in
      let f = place r.mcs (11 + width n) 5 1 (omega arith) in
      let g = place_last r.again in
      omega (arith, place_priority r.priority, place_code r.code)

  scale : 2 ^ width n * 2 ^ (15 - width n) ≡ 32768
  scale = let e : width n + (15 - width n) ≡ 15 = omega arith in sym (pow-add 2 (width n) (15 - width n)) ∙ ap (λ k. 2 ^ k) e

top_fields : (x : ℕ) → (priority_of x ≡ x / 536870912 % 8) × (code_of x ≡ x / 33554432 % 16)
unfolding bits
top_fields x = (refl, refl)

-- the parts of the word of a record
word_parts : (n : ℕ) (r : Record) → n ≤ 255 → Within n r → Parts (2 ^ width n) (2 ^ (15 - width n)) (word n r) r.priority r.code (riv n r.length r.start) r.gap r.mcs r.again
word_parts n r few w =
    let small = width_small n few in
    parts _ _ _ _ _ _ _ _ _ (scale n small) (pow_pos (15 - width n)) w.priority (omega (arith, w.code)) (riv_fits n r.length r.start w.some w.inside) w.gap w.mcs w.again (word_at n small r)

pub word_small : (n : ℕ) (r : Record) → n ≤ 255 → Within n r → word n r < 2 ^ 32
word_small n r few w = (word_parts n r few w).small

pub has_word : (n : ℕ) (r : Record) → n ≤ 255 → Within n r → Has n (word n r) r
has_word n r few w =
    let small = width_small n few in
    let p = word_parts n r few w in
    let x = word n r in
    record {
      priority = (top_fields x).0 ∙ p.priority;
      code = (top_fields x).1 ∙ p.code;
      value = riv_at n small x ∙ p.riv;
      gap = gap_at n small x ∙ p.gap;
      mcs = mcs_at n small x ∙ p.mcs;
      again = again_at n small x ∙ p.again;
      rest = rest_at n small x ∙ p.rest;
    }

pub word_has : (n x : ℕ) (r : Record) → n ≤ 255 → x < 2 ^ 32 → Has n x r → word n r ≡ x
word_has n x r few less h =
    let small = width_small n few in
    let z = 2 ^ (15 - width n) in
    let y = tail (x / z / 1024 % 2 ^ width n) (x / z / 64 % 16) (x / z / 2 % 32) (x / z % 2) in
    let p = sym h.priority ∙ (top_fields x).0 in
    let c = sym h.code ∙ (top_fields x).1 in
    let v = sym h.value ∙ riv_at n small x in
    let g = sym h.gap ∙ gap_at n small x in
    let m = sym h.mcs ∙ mcs_at n small x in
    let i = sym h.again ∙ again_at n small x in
    let e : tail (riv n r.length r.start) r.gap r.mcs r.again ≡ y = omega arith in
    let t = ap (λ a. a * z) e in
    let w = whole (2 ^ width n) z x (scale n small) (pow_pos (width n)) less (sym (rest_at n small x) ∙ h.rest) (high_at n small x) in
    omega (arith, word_at n small r)
