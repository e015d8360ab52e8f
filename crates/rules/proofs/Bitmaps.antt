-- The bitmap in bytes and in words. Assumes nothing.
use Rattle.std.proofs.Common.{◌≡◌, ℕ, zero, suc, ◌+◌, ◌-◌, ◌*◌, ◌/◌, ◌%◌, ◌^◌, ◌<◌, ◌≤◌, Bool, true, false, not, ◌&&◌, eqb, ltb, List, [], ◌∷◌, length, get_or, Decides, sym, refl, ap, ◌∙◌, ⊎_elim, arith}
use native.Mathlib.Nat.{div-div-eq-div-mul, zero-div}
use Rattle.std.specs.List.{range_with_len}
use Rattle.std.proofs.lemmas.Nat.{pow-add}
use Rattle.std.proofs.lemmas.Bool.{eqb-true, eq-eqb, ltb-true, lt-ltb, cases_lt, and_right, not-true, not_from_false, true≢false}
use Rattle.rules.specs.Counting.{any, every, among}
use lib.Count.{ones}
use Rattle.std.proofs.lemmas.List.FromFn.{length-range_with_len, get_or-range_with_len, length-map-range_with_len, get_or-map-range_with_len}
use Rattle.std.proofs.lemmas.List.{get_or_past}
use Rattle.rules.proofs.Bits.{no_ones, some_one}
use Rattle.rules.proofs.Lists.{any_at, any_from, every_at, every_from, both}
use Rattle.rules.specs.Configure.{byte_bit, bits_of, sizes, bitmap_ok}
use Rattle.rules.specs.Closed.{word_bit}

-- a low bit of a number is that of its low byte, and a higher one that of what stands above it
low_bit : (h l e : ℕ) → e < 8 → (h * 256 + l) / 2 ^ e % 2 ≡ l / 2 ^ e % 2
low_bit h l zero e = omega arith
low_bit h l (suc zero) e = omega arith
low_bit h l (suc (suc zero)) e = omega arith
low_bit h l (suc (suc (suc zero))) e = omega arith
low_bit h l (suc (suc (suc (suc zero)))) e = omega arith
low_bit h l (suc (suc (suc (suc (suc zero))))) e = omega arith
low_bit h l (suc (suc (suc (suc (suc (suc zero)))))) e = omega arith
low_bit h l (suc (suc (suc (suc (suc (suc (suc zero))))))) e = omega arith
low_bit h l (suc (suc (suc (suc (suc (suc (suc (suc k)))))))) e = absurd (omega arith)

high_bit : (h l e : ℕ) → l < 256 → (h * 256 + l) / 2 ^ (8 + e) ≡ h / 2 ^ e
high_bit h l e small =
    ap (λ x. (h * 256 + l) / x) (pow-add 2 8 e) ∙ sym (div-div-eq-div-mul (h * 256 + l) 256 (2 ^ e)) ∙ ap (λ x. x / 2 ^ e) (omega arith)

-- the bits of four bytes are those of the word that they make, the highest first
pub word_bits : (a b c d r : ℕ) → b < 256 → c < 256 → d < 256 → r < 32 → (a * 16777216 + b * 65536 + c * 256 + d) / 2 ^ (31 - r) % 2 ≡ get_or (a ∷ b ∷ c ∷ d ∷ []) (r / 8) 0 / 2 ^ (7 - r % 8) % 2
word_bits a b c d r hb hc hd hr =
    let first = a * 256 + b in
    let second = first * 256 + c in
    let whole : a * 16777216 + b * 65536 + c * 256 + d ≡ second * 256 + d = omega arith in
    ap (λ x. x / 2 ^ (31 - r) % 2) whole ∙
    ⊎_elim
    (λ (l : r < 8).
    let e : 31 - r ≡ 8 + (8 + (8 + (7 - r))) = omega arith in
    let q : r / 8 ≡ 0 = omega arith in
    let m : r % 8 ≡ r = omega arith in
    rw (e, q, m) (ap (λ x. x % 2) (high_bit second d (8 + (8 + (7 - r))) hd ∙ high_bit first c (8 + (7 - r)) hc ∙ high_bit a b (7 - r) hb)))
    (λ (l1 : 8 ≤ r).
    ⊎_elim
    (λ (l : r < 16).
    let e : 31 - r ≡ 8 + (8 + (15 - r)) = omega arith in
    let q : r / 8 ≡ 1 = omega arith in
    let m : 7 - r % 8 ≡ 15 - r = omega arith in
    rw (e, q, m) (ap (λ x. x % 2) (high_bit second d (8 + (15 - r)) hd ∙ high_bit first c (15 - r) hc) ∙ low_bit a b (15 - r) (omega arith)))
    (λ (l2 : 16 ≤ r).
    ⊎_elim
    (λ (l : r < 24).
    let e : 31 - r ≡ 8 + (23 - r) = omega arith in
    let q : r / 8 ≡ 2 = omega arith in
    let m : 7 - r % 8 ≡ 23 - r = omega arith in
    rw (e, q, m) (ap (λ x. x % 2) (high_bit second d (23 - r) hd) ∙ low_bit first c (23 - r) (omega arith)))
    (λ (l3 : 24 ≤ r).
    let q : r / 8 ≡ 3 = omega arith in
    let m : 7 - r % 8 ≡ 31 - r = omega arith in
    rw (q, m) (low_bit second d (31 - r) (omega arith)))
    (cases_lt r 24))
    (cases_lt r 16))
    (cases_lt r 8)

-- four words that hold the bits of the bytes: some word has a one exactly when some bit of the first b is one
module _ (words bytes : List ℕ) (b : ℕ)
    (four : length words ≡ 4)
    (fit : (k : ℕ) → k < 4 → get_or words k 0 < 2 ^ 32)
    (bits : (i : ℕ) → i < 128 → word_bit words i ≡ byte_bit bytes i)
    (past : (i : ℕ) → b ≤ i → i < 128 → byte_bit bytes i ≡ false)
    (small : b ≤ 128) where
  some_word : any (λ w. ltb 0 (ones w)) words ≡ true → any (λ bit. bit) (bits_of b bytes) ≡ true
  some_word t =
      let w = any_at (λ w. ltb 0 (ones w)) words 0 t in
      let k = w.0 in
      let o = some_one 32 (get_or words k 0) (fit k (omega arith)) (ltb-true _ _ w.2) in
      let e = o.0 in
      let i = 32 * k + (31 - e) in
      let q : i / 32 ≡ k = omega arith in
      let m : 31 - i % 32 ≡ e = omega arith in
      let here : word_bit words i ≡ true = eq-eqb _ _ (rw (q, m) o.2) in
      let bit : byte_bit bytes i ≡ true = sym (bits i (omega arith)) ∙ here in
      let less : i < b = ⊎_elim (λ (h : i < b). h) (λ (h : b ≤ i). absurd (true≢false (sym bit ∙ past i h (omega arith)))) (cases_lt i b) in
      any_from (λ bit. bit) (bits_of b bytes) false i (rw (length-map-range_with_len (byte_bit bytes) 0 b) less)
      (get_or-map-range_with_len (byte_bit bytes) 0 b i i false less (omega arith) ∙ bit)

  some_of_words : any (λ bit. bit) (bits_of b bytes) ≡ true → any (λ w. ltb 0 (ones w)) words ≡ true
  some_of_words t =
      let w = any_at (λ bit. bit) (bits_of b bytes) false t in
      let i = w.0 in
      let less : i < b = rw (length-map-range_with_len (byte_bit bytes) 0 b) at w.1 in
      let bit : byte_bit bytes i ≡ true = sym (get_or-map-range_with_len (byte_bit bytes) 0 b i i false less (omega arith)) ∙ w.2 in
      let one_bit = eqb-true _ _ (bits i (omega arith) ∙ bit) in
      let k = i / 32 in
      any_from (λ w. ltb 0 (ones w)) words 0 k (omega arith)
      (lt-ltb 0 (ones (get_or words k 0))
      (⊎_elim (λ (h : 0 < ones (get_or words k 0)). h) (λ (h : ones (get_or words k 0) ≤ 0). absurd (omega (arith, no_ones (31 - i % 32) (get_or words k 0) (omega arith)))) (cases_lt 0 (ones (get_or words k 0)))))

  pub some_bit : any (λ w. ltb 0 (ones w)) words ≡ any (λ bit. bit) (bits_of b bytes)
  some_bit = both _ _ some_word some_of_words

-- four bytes of a list from one on
abbrev pub four : List ℕ → ℕ → List ℕ
four bs j = get_or bs (4 * j) 0 ∷ get_or bs (4 * j + 1) 0 ∷ get_or bs (4 * j + 2) 0 ∷ get_or bs (4 * j + 3) 0 ∷ []

four_at : (bs : List ℕ) (j q : ℕ) → q < 4 → get_or (four bs j) q 0 ≡ get_or bs (4 * j + q) 0
four_at bs j zero h = ap (λ k. get_or bs k 0) (omega arith)
four_at bs j (suc zero) h = refl
four_at bs j (suc (suc zero)) h = refl
four_at bs j (suc (suc (suc zero))) h = refl
four_at bs j (suc (suc (suc (suc q)))) h = absurd (omega arith)

-- the bits of four bytes in a word
abbrev pub Holds : ℕ → List ℕ → Type 0
Holds w bytes = (k : ℕ) → k < 32 → w / 2 ^ (31 - k) % 2 ≡ get_or bytes (k / 8) 0 / 2 ^ (7 - k % 8) % 2

pub word_at : (ws bs : List ℕ) (j : ℕ) → Holds (get_or ws j 0) (four bs j) → (i : ℕ) → i / 32 ≡ j → word_bit ws i ≡ byte_bit bs i
word_at ws bs j holds i q =
    let k = i % 32 in
    let byte : 4 * j + k / 8 ≡ i / 8 = omega arith in
    let bit : 7 - k % 8 ≡ 7 - i % 8 = omega arith in
    let here = holds k (omega arith) in
    let value : get_or (four bs j) (k / 8) 0 ≡ get_or bs (i / 8) 0 = four_at bs j (k / 8) (omega arith) ∙ ap (λ m. get_or bs m 0) byte in
    let same : get_or ws j 0 / 2 ^ (31 - k) % 2 ≡ get_or bs (i / 8) 0 / 2 ^ (7 - i % 8) % 2 =
    here ∙ ap (λ v. v / 2 ^ (7 - k % 8) % 2) value ∙ ap (λ e. get_or bs (i / 8) 0 / 2 ^ e % 2) bit in
    ap (λ m. eqb (get_or ws m 0 / 2 ^ (31 - k) % 2) 1) q ∙ ap (λ v. eqb v 1) same

pub words_at : (ws bs : List ℕ) → ((j : ℕ) → j < 4 → Holds (get_or ws j 0) (four bs j)) → (i : ℕ) → i < 128 → word_bit ws i ≡ byte_bit bs i
words_at ws bs holds i h = word_at ws bs (i / 32) (holds (i / 32) (omega arith)) i refl

-- what the code asks of a bitmap: a length that is allowed, no bit past it, some bit
module _ (words bytes : List ℕ) (b : ℕ)
    (long : length words ≡ 4)
    (fit : (k : ℕ) → k < 4 → get_or words k 0 < 2 ^ 32)
    (bits : (i : ℕ) → i < 128 → word_bit words i ≡ byte_bit bytes i)
    (thirteen : length bytes ≡ 13)
    (small : b ≤ 104) where
  abbrev rest : Bool
  rest = every (λ i. not (byte_bit bytes i)) (range_with_len b (104 - b))

  rest_zero : rest ≡ true → (i : ℕ) → b ≤ i → i < 104 → byte_bit bytes i ≡ false
  rest_zero t i low high =
      let at = every_at (λ i. not (byte_bit bytes i)) (range_with_len b (104 - b)) 0 t (i - b) (rw length-range_with_len (omega arith)) in
      let place : get_or (range_with_len b (104 - b)) (i - b) 0 ≡ i = get_or-range_with_len b (104 - b) (i - b) 0 (omega arith) ∙ omega arith in
      not-true _ (ap (λ k. not (byte_bit bytes k)) (sym place) ∙ at)

  zero_rest : ((i : ℕ) → b ≤ i → i < 104 → byte_bit bytes i ≡ false) → rest ≡ true
  zero_rest h =
      every_from (λ i. not (byte_bit bytes i)) (range_with_len b (104 - b)) 0
      (λ k l.
      let less : k < 104 - b = rw length-range_with_len at l in
      let place = get_or-range_with_len b (104 - b) k 0 less in
      ap (λ k. not (byte_bit bytes k)) place ∙ not_from_false _ (h (b + k) (omega arith) (omega arith)))

  past_none : (i : ℕ) → 104 ≤ i → byte_bit bytes i ≡ false
  past_none i h = ap (λ v. eqb (v / 2 ^ (7 - i % 8) % 2) 1) (get_or_past bytes (i / 8) 0 (omega arith)) ∙ ap (λ v. eqb (v % 2) 1) (zero-div (2 ^ (7 - i % 8)))

  abbrev Zero : Type 0
  Zero = (i : ℕ) → b ≤ i → i < 104 → word_bit words i ≡ false

  pub rest_decided : (r : Bool) → Decides r Zero → r ≡ rest
  rest_decided r d =
      both r rest
      (λ t. zero_rest (λ i low high. sym (bits i (omega arith)) ∙ d.0 t i low high))
      (λ t. d.1 (λ i low high. bits i (omega arith) ∙ rest_zero t i low high))

  pub bitmap_unclean : (r : Bool) → Decides r Zero → r ≡ false → false ≡ bitmap_ok b bytes
  bitmap_unclean r d f = sym (and_right _ rest (sym (rest_decided r d) ∙ f))

  pub bitmap_decided : (r : Bool) → Decides r Zero → r ≡ true → among b sizes ≡ true → any (λ w. ltb 0 (ones w)) words ≡ bitmap_ok b bytes
  bitmap_decided r d t sized =
      let clean : rest ≡ true = sym (rest_decided r d) ∙ t in
      let past : (i : ℕ) → b ≤ i → i < 128 → byte_bit bytes i ≡ false = λ i low high. ⊎_elim (λ (h : i < 104). rest_zero clean i low h) (λ (h : 104 ≤ i). past_none i h) (cases_lt i 104) in
      some_bit words bytes b long fit bits past (omega arith) ∙ last_two _ _ _ sized clean
    where
      last_two : (x y z : Bool) → x ≡ true → z ≡ true → y ≡ (x && y && z)
      last_two true true true p q = refl
      last_two true false true p q = refl
      last_two false y z p q = absurd (true≢false (sym p))
      last_two true true false p q = sym q
      last_two true false false p q = refl
