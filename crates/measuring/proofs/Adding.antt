-- Sums that grow by one index. Assumes nothing.
use Rattle.std.proofs.Common.{◌≡◌, ℕ, zero, suc, ◌+◌, ◌-◌, ◌<◌, ◌≤◌, Bool, true, false, cond, ◌&&◌, List, [], ◌∷◌, length, get_or, take, drop, drop-cons, sum_by, filter, sym, refl, ap, ◌∙◌, subst, add-zero, add-one, arith}
use Rattle.std.specs.List.{range_with_len}
use Rattle.std.proofs.lemmas.List.Sums.{sum_by-cons, length-filter}
use Rattle.rules.specs.Calendar.{Pool, window}
use Rattle.rules.specs.Choose.{Question, power, sample_step, mean}
use Rattle.rules.specs.Sensing.{Meaning, listened?}
use Rattle.measuring.specs.Sums.{column, fraction, lies, taken, total, More, NoneYet, Added, Walked}
use Rattle.measuring.specs.declared.Sum.{Sum}

more : (f : ℕ → ℕ) (a n : ℕ) → sum_by f (range_with_len a (suc n)) ≡ sum_by f (range_with_len a n) + f (a + n)
more f a zero = ap (λ i. 0 + f i) (sym (add-zero a))
more f a (suc n) =
    let same : a + 1 + n ≡ a + suc n = omega arith in
    let shift = ap f same in
    omega (arith, sum_by-cons f a (range_with_len (a + 1) (suc n)), sum_by-cons f a (range_with_len (a + 1) n), more f (a + 1) n)

-- one number more
pub sum_by_counting_more : (f : ℕ → ℕ) (a n : ℕ) → sum_by f (range_with_len a (n + 1)) ≡ sum_by f (range_with_len a n) + f (a + n)
sum_by_counting_more f a n = ap (λ m. sum_by f (range_with_len a m)) (add-one n) ∙ more f a n

-- a sum over what passes a test is one of what passes, and of 0 elsewhere
pub sum_by_kept : (f : ℕ → ℕ) (test : ℕ → Bool) (xs : List ℕ) → sum_by f (filter test xs) ≡ sum_by (λ z. cond (test z) (f z) 0) xs
sum_by_kept f test [] = refl
sum_by_kept f test (x ∷ xs) =
    let rest = sum_by_kept f test xs in
    let step = sum_by-cons (λ z. cond (test z) (f z) 0) x xs in
    let first : sum_by f (filter test (x ∷ xs)) ≡ cond (test x) (f x) 0 + sum_by f (filter test xs) =
    elim (test x) as (λ b. sum_by f (cond b (x ∷ filter test xs) (filter test xs)) ≡ cond b (f x) 0 + sum_by f (filter test xs)) [ true ↦ sum_by-cons f x (filter test xs) | false ↦ omega arith ] in
    omega arith

-- sums of what is the same at each number
pub sum_by_same : (f g : ℕ → ℕ) (a n : ℕ) → ((z : ℕ) → a ≤ z → z < a + n → f z ≡ g z) → sum_by f (range_with_len a n) ≡ sum_by g (range_with_len a n)
sum_by_same f g a zero h = refl
sum_by_same f g a (suc n) h =
    omega (arith, h a (omega arith) (omega arith), sum_by_same f g (a + 1) n (λ z l r. h z (omega arith) (omega arith)), sum_by-cons f a (range_with_len (a + 1) n), sum_by-cons g a (range_with_len (a + 1) n))

-- the readings of a part of a list, and those by their numbers
pub total_of : (xs : List ℕ) (x n : ℕ) → x + n ≤ length xs → sum_by (λ r. r) (take n (drop x xs)) ≡ total xs n x
total_of xs x zero h = refl
total_of xs x (suc n) h =
    let next : x + 1 ≡ suc x = omega arith in
    let cut : take (suc n) (drop x xs) ≡ get_or xs x 0 ∷ take n (drop (suc x) xs) = ap (take (suc n)) (drop-cons xs x 0 (omega arith)) in
    let rest = total_of xs (suc x) n (omega arith) in
    let shift : total xs n (suc x) ≡ total xs n (x + 1) = ap (total xs n) (sym next) in
    ap (sum_by (λ r. r)) cut
    ∙ sum_by-cons (λ r. r) (get_or xs x 0) (take n (drop (suc x) xs))
    ∙ ap (λ k. get_or xs x 0 + k) (rest ∙ shift)
    ∙ sym (sum_by-cons (λ a. get_or xs a 0) x (range_with_len (x + 1) n))

-- a sample of an index that was listened to, by its powers
pub added_heard : (m : Meaning) (q : Question) (step z : ℕ) (row : ℕ → ℕ) (s t : Sum) → listened? (m.cell z) ≡ true → ((x : ℕ) → x < 20 → x + q.length ≤ m.channels → row x ≡ power m q x z) → More (lies step z s.at) row s t → Added m q step z s t
added_heard m q step z row s t heard same more =
    let test : lies step z s.at ≡ taken m step s.at z = ap (λ b. b && lies step z s.at) (sym heard) in
    record {
      at = more.at;
      under = more.under ∙ ap (λ b. s.under + cond b 1 0) test;
      over = λ x l w. more.over x l ∙ ap (λ b. column s x + cond b (row x) 0) test ∙ ap (λ r. column s x + cond (taken m step s.at z) r 0) (same x l w);
    }

-- an index that was not listened to adds nothing
pub added_deaf : (m : Meaning) (q : Question) (step z : ℕ) (s : Sum) → listened? (m.cell z) ≡ false → Added m q step z s s
added_deaf m q step z s deaf =
    let test : taken m step s.at z ≡ false = ap (λ b. b && lies step z s.at) deaf in
    record {
      at = refl;
      under = omega (arith, ap (λ b. s.under + cond b 1 0) test);
      over = λ x l w. omega (arith, ap (λ b. column s x + cond b (power m q x z) 0) test);
    }

cond_le_one : (b : Bool) → cond b 1 0 ≤ 1
cond_le_one true = omega arith
cond_le_one false = omega arith

-- sums over one index more
pub walked_more : (m : Meaning) (q : Question) (step low k y : ℕ) (s t : Sum) → Walked m q step low k y s → Added m q step (low + k) s t → Walked m q step low (k + 1) y t
walked_more m q step low k y s t walked added =
    let here = walked.at in
    record {
      at = added.at ∙ here;
      few = omega (arith, walked.few, added.under, cond_le_one (taken m step s.at (low + k)));
      under =
          added.under
          ∙ ap (λ a. s.under + cond (taken m step a (low + k)) 1 0) here
          ∙ ap (λ n. n + cond (taken m step y (low + k)) 1 0) walked.under
          ∙ sym (sum_by_counting_more (λ z. cond (taken m step y z) 1 0) low k);
      over = λ x l w.
          added.over x l w
          ∙ ap (λ a. column s x + cond (taken m step a (low + k)) (power m q x (low + k)) 0) here
          ∙ ap (λ n. n + cond (taken m step y (low + k)) (power m q x (low + k)) 0) (walked.over x l w)
          ∙ sym (sum_by_counting_more (λ z. cond (taken m step y z) (power m q x z) 0) low k);
    }

-- sums before the first index
pub walked_none : (m : Meaning) (q : Question) (step low y : ℕ) (s : Sum) → NoneYet y s → Walked m q step low 0 y s
walked_none m q step low y s none = record { at = none.at; few = omega (arith, none.under); under = none.under; over = λ x h w. none.over x }

-- sums over the whole window are those of the samples
pub walked_mean : (p : Pool) (m : Meaning) (q : Question) (step low k y x : ℕ) (s : Sum) → step ≡ sample_step p q → low ≡ m.next - window p → k ≡ window p → Walked m q step low k y s → x < 20 → x + q.length ≤ m.channels → fraction (column s x) s.under ≡ mean p m q (record { channel = x; at = y })
unfolding mean
walked_mean p m q step low k y x s es el ek walked h w =
    let test : ℕ → Bool = taken m (sample_step p q) y in
    let all = range_with_len (m.next - window p) (window p) in
    let whole : Walked m q (sample_step p q) (m.next - window p) (window p) y s =
    subst (λ t. Walked m q t (m.next - window p) (window p) y s) es (subst (λ a. Walked m q step a (window p) y s) el (subst (λ n. Walked m q step low n y s) ek walked)) in
    ap (λ n. fraction (column s x) n) (whole.under ∙ sym (length-filter test all))
    ∙ ap (λ n. fraction n (length (filter test all))) (whole.over x h w ∙ sym (sum_by_kept (power m q x) test all))

-- a sum, to read a list of sums past its end
pub blank : Sum
blank = record { at = 0; under = 0; over = []; few = omega arith; small = λ x. omega arith }
