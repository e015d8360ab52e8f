-- A pool that was configured keeps the limits. Assumes nothing.
use Rattle.std.proofs.Common.{◌≡◌, ℕ, ◌-◌, ◌<◌, ◌≤◌, Bool, true, false, not, ◌&&◌, eqb, ltb, leb, List, [], ◌∷◌, map, length, drop, refl, ap, ◌∙◌, arith, length-take}
use Rattle.std.specs.List.{range_with_len}
use Rattle.std.proofs.lemmas.List.FromFn.{length-map-range_with_len, get_or-map-range_with_len, fill_by_all}
use Rattle.std.proofs.lemmas.Bool.{and_parts, leb-true, le-leb, ltb-true}
use Rattle.rules.specs.Counting.{any, every, among, first_no}
use Rattle.rules.specs.Closed.{word_bit}
use Rattle.rules.proofs.Limits.{every_among}
use Rattle.rules.proofs.Lists.{every_at}
use Rattle.rules.specs.Configure.{Request, byte_bit, bits_of, used, sizes, channels_ok, offsets_ok, offsets_question, bitmap_ok, mask_ok, levels_ok, questions, configured, pool_of, within}

-- where the answer is 0, each question was answered yes
pub all_yes : (qs : List (Bool × ℕ)) → every (λ q. ltb 0 q.1) qs ≡ true → first_no qs ≡ 0 → every (λ q. q.0) qs ≡ true
all_yes [] t e = refl
all_yes ((true, n) ∷ qs) t e = all_yes qs (and_parts (ltb 0 n) _ t).1 e
all_yes ((false, n) ∷ qs) t e = absurd (omega (arith, ltb-true 0 n (and_parts (ltb 0 n) _ t).0))

-- what an answer 0 of configure says
pub record Asked (r : Request) : Type 0 where
  pub few : r.count ≤ 3
  pub sized : r.size ≤ 100
  pub limits : within (pool_of r) ≡ true

pub asked : (r : Request) → configured r ≡ 0 → Asked r
asked r e =
    let said = all_yes (questions r) refl e in
    let channels : channels_ok r.channels ≡ true = every_at (λ q. q.0) (questions r) (true, 0) said 0 (omega arith) in
    let uplink : leb r.uplink 7 ≡ true = every_at (λ q. q.0) (questions r) (true, 0) said 1 (omega arith) in
    let offsets : offsets_question r.uplink r.count r.offsets ≡ true = every_at (λ q. q.0) (questions r) (true, 0) said 2 (omega arith) in
    let bitmap : bitmap_ok r.size r.bitmap ≡ true = every_at (λ q. q.0) (questions r) (true, 0) said 3 (omega arith) in
    let mask : mask_ok r.mask ≡ true = every_at (λ q. q.0) (questions r) (true, 0) said 4 (omega arith) in
    let levels : levels_ok r.levels ≡ true = every_at (λ q. q.0) (questions r) (true, 0) said 5 (omega arith) in
    let placed = and_parts (leb r.count 3 && offsets_ok r.uplink (used r)) (every (λ o. eqb o 0) (drop r.count r.offsets)) offsets in
    let counted = and_parts (leb r.count 3) (offsets_ok r.uplink (used r)) placed.0 in
    let some = and_parts (among r.size sizes && any (λ bit. bit) (bits_of r.size r.bitmap)) (every (λ i. not (byte_bit r.bitmap i)) (range_with_len r.size (104 - r.size))) bitmap in
    let sized = and_parts (among r.size sizes) (any (λ bit. bit) (bits_of r.size r.bitmap)) some.0 in
    let few = leb-true r.count 3 counted.0 in
    let long = length-map-range_with_len (byte_bit r.bitmap) 0 r.size in
    let short : leb (length (used r)) 3 ≡ true = le-leb (length (used r)) 3 (omega (arith, length-take r.count r.offsets)) in
    let listed : among (length (bits_of r.size r.bitmap)) sizes ≡ true = ap (λ n. among n sizes) long ∙ sized.0 in
    record {
      few = few;
      sized = leb-true r.size 100 (every_among (λ n. leb n 100) r.size sizes refl sized.0);
      limits = rw (channels, uplink, short, counted.1, listed, sized.1, mask, levels);
    }

-- the bits by words and by bytes are the same
pub bits_same : (words bytes : List ℕ) (b : ℕ) → b ≤ 128 → ((i : ℕ) → i < 128 → word_bit words i ≡ byte_bit bytes i) → map (word_bit words) (range_with_len 0 b) ≡ bits_of b bytes
bits_same words bytes b small same =
    fill_by_all (byte_bit bytes) (map (word_bit words) (range_with_len 0 b)) b false (length-map-range_with_len (word_bit words) 0 b)
    (λ k h. get_or-map-range_with_len (word_bit words) 0 b k k false h (omega arith) ∙ same k (omega arith))
