-- The RIV: no two pairs have one, and the RIVs of all pairs are the numbers below the number of pairs. Assumes nothing.
use Rattle.std.proofs.Common.{◌≡◌, ℕ, ◌+◌, ◌-◌, ◌*◌, ◌/◌, ◌%◌, ◌<◌, ◌≤◌, ◌⊎◌, Some, None, sym, refl, ap, ◌∙◌, subst, inl, inr, ⊎_elim, mul-le-mul_right, mul_assoc, mul_comm, add-mul, div-add-mod', mul-add, arith, MatchOption}
use Rattle.std.proofs.lemmas.Bool.{cases_lt, lt-ltb, le-ltb, le-leb, lt-leb, cond-true, cond-false}
use Rattle.std.proofs.lemmas.Nat.{div-mul-add, mod-mul-add, div_below, mod_below}
use Rattle.rules.specs.Format.{pairs, riv, Names, pair_at, pair, Numbered}

-- the number of pairs as whole rows of n, and what is left
even_pairs : (n : ℕ) → n % 2 ≡ 0 → pairs n ≡ n / 2 * n + n / 2
even_pairs n even =
    let e : n ≡ 2 * (n / 2) = omega arith in
    omega (arith, mul-add n n 1, ap (λ x. x * n) e, mul_assoc 2 (n / 2) n)

odd_pairs : (n : ℕ) → n % 2 ≡ 1 → pairs n ≡ n / 2 * n + n
odd_pairs n odd =
    let e : n ≡ 2 * (n / 2) + 1 = omega arith in
    omega (arith, mul-add n n 1, ap (λ x. x * n) e, add-mul (2 * (n / 2)) 1 n, mul_assoc 2 (n / 2) n)

parity : (n : ℕ) → (n % 2 ≡ 0) ⊎ (n % 2 ≡ 1)
parity n = ⊎_elim (λ (l : n % 2 < 1). inl (omega arith)) (λ (l : 1 ≤ n % 2). inr (omega arith)) (cases_lt (n % 2) 1)

-- a row and a column of a pair: the row is in the first half, and at the last row of an even n the column is too
pub record Placed (n row column : ℕ) : Type 0 where
  pub column_less : column < n
  pub row_half : row ≤ n / 2
  pub last : n % 2 ≡ 0 → row ≡ n / 2 → column < n / 2

-- such places are the numbers below the number of pairs
placed_below : (n row column : ℕ) → Placed n row column → row * n + column < pairs n
placed_below n row column h =
    let le = mul-le-mul_right n h.row_half in
    let less = h.column_less in
    ⊎_elim
    (λ (even : n % 2 ≡ 0).
    ⊎_elim
    (λ (l : row < n / 2). let m = mul-le-mul_right n l in omega (arith, even_pairs n even, m, add-mul row 1 n))
    (λ (l : n / 2 ≤ row).
    let e : row ≡ n / 2 = omega (arith, h.row_half) in
    omega (arith, even_pairs n even, ap (λ x. x * n) e, h.last even e))
    (cases_lt row (n / 2)))
    (λ (odd : n % 2 ≡ 1). omega (arith, odd_pairs n odd, le, less))
    (parity n)

pub some_channel : (n v : ℕ) → v < pairs n → 0 < n
some_channel n v h =
    ⊎_elim (λ (l : n < 1). let e : n ≡ 0 = omega arith in absurd (omega (arith, ap pairs e))) (λ (l : 1 ≤ n). omega arith) (cases_lt n 1)

pub below_placed : (n v : ℕ) → v < pairs n → Placed n (v / n) (v % n)
below_placed n v h =
    let some = some_channel n v h in
    let whole = div-add-mod' v n in
    let more = add-mul (n / 2) 1 n in
    ⊎_elim
    (λ (even : n % 2 ≡ 0).
    let p = even_pairs n even in
    let row = div_below v n (n / 2 + 1) some (omega arith) in
    record {
      column_less = mod_below v n some;
      row_half = omega (arith, row);
      last = λ _ e. omega (arith, p, whole, ap (λ x. x * n) e);
    })
    (λ (odd : n % 2 ≡ 1).
    let p = odd_pairs n odd in
    let row = div_below v n (n / 2 + 1) some (omega arith) in
    record {
      column_less = mod_below v n some;
      row_half = omega (arith, row);
      last = λ even _. absurd (omega (arith, even, odd));
    })
    (parity n)

-- the RIV of a pair, in either half
low_riv : (n l f : ℕ) → l - 1 ≤ n / 2 → riv n l f ≡ (l - 1) * n + f
unfolding riv
low_riv n l f h = cond-true _ _ _ (le-leb (l - 1) (n / 2) h) ∙ ap (λ x. x + f) (mul_comm n (l - 1))

high_riv : (n l f : ℕ) → n / 2 < l - 1 → riv n l f ≡ (n - l + 1) * n + (n - 1 - f)
unfolding riv
high_riv n l f h = cond-false _ _ _ (lt-leb (l - 1) (n / 2) h) ∙ ap (λ x. x + (n - 1 - f)) (mul_comm n (n - l + 1))

pub pair_some : (n v : ℕ) → v < pairs n → pair n v ≡ Some (pair_at n (v / n) (v % n))
unfolding pair
pair_some n v h = cond-true _ _ _ (lt-ltb v (pairs n) h)

pub pair_none : (n v : ℕ) → pairs n ≤ v → pair n v ≡ None
unfolding pair
pair_none n v h = cond-false _ _ _ (le-ltb v (pairs n) h)

pub low_pair : (n row column : ℕ) → row + column < n → pair_at n row column ≡ (row + 1, column)
low_pair n row column h = cond-true _ _ _ (lt-ltb (row + column) n h)

pub high_pair : (n row column : ℕ) → n ≤ row + column → pair_at n row column ≡ (n + 1 - row, n - 1 - column)
high_pair n row column h = cond-false _ _ _ (le-ltb (row + column) n h)

-- the RIV at a row and a column names the pair that is read back there
module _ (n row column v : ℕ) (h : Placed n row column) (e : v ≡ row * n + column) where
  divides : v / n ≡ row
  divides = ap (λ x. x / n) e ∙ div-mul-add row n column h.column_less

  leaves : v % n ≡ column
  leaves = ap (λ x. x % n) e ∙ mod-mul-add row n column h.column_less

  pair_there : pair n v ≡ Some (pair_at n row column)
  pair_there = pair_some n v (omega (arith, placed_below n row column h, e)) ∙ ap (λ q. Some (pair_at n q (v % n))) divides ∙ ap (λ r. Some (pair_at n row r)) leaves

  below_there : v < pairs n
  below_there = omega (arith, placed_below n row column h, e)

two : {A B : Type 0} {a a' : A} {b b' : B} → a ≡ a' → b ≡ b' → ◌≡◌ {A = A × B} (a, b) (a', b')
two {a' = a'} {b = b} p q = ap (λ x. (x, b)) p ∙ ap (λ y. (a', y)) q

-- where a named pair stands
pub record At (n v l f : ℕ) : Type 0 where
  pub below : v < pairs n
  pub found : pair n v ≡ Some (l, f)

names_at : (n v l f : ℕ) → Names n v l f → At n v l f
names_at n v l f w =
    let some = w.some in
    let inside = w.inside in
    ⊎_elim
    (λ (low : l - 1 ≤ n / 2).
    let e : v ≡ (l - 1) * n + f = sym w.value ∙ low_riv n l f low in
    let h : Placed n (l - 1) f = record { column_less = omega arith; row_half = low; last = λ a b. omega (arith, a, b) } in
    record {
      below = below_there n (l - 1) f v h e;
      found = pair_there n (l - 1) f v h e ∙ ap Some (low_pair n (l - 1) f (omega arith) ∙ two (omega arith) refl);
    })
    (λ (high : n / 2 < l - 1).
    let row = n - l + 1 in
    let column = n - 1 - f in
    let e : v ≡ row * n + column = sym w.value ∙ high_riv n l f high in
    let h : Placed n row column = record { column_less = omega arith; row_half = omega arith; last = λ a b. absurd (omega (arith, a, b)) } in
    record {
      below = below_there n row column v h e;
      found = pair_there n row column v h e ∙ ap Some (high_pair n row column (omega arith) ∙ two (omega arith) (omega arith));
    })
    (⊎_elim (λ (a : l - 1 < n / 2 + 1). inl (omega arith)) (λ (a : n / 2 + 1 ≤ l - 1). inr (omega arith)) (cases_lt (l - 1) (n / 2 + 1)))

-- past the diagonal the length is above the half
upper : (n row column : ℕ) → Placed n row column → n ≤ row + column → n / 2 < n - row
upper n row column h high =
    let half = h.row_half in
    let narrow = h.column_less in
    ⊎_elim
    (λ (l : row < n / 2). omega arith)
    (λ (l : n / 2 ≤ row).
    ⊎_elim
    (λ (even : n % 2 ≡ 0). let e : row ≡ n / 2 = omega arith in omega (arith, h.last even e))
    (λ (odd : n % 2 ≡ 1). omega arith)
    (parity n))
    (cases_lt row (n / 2))

-- the pair that is read back is named
at_names : (n v : ℕ) → v < pairs n → Names n v (pair_at n (v / n) (v % n)).0 (pair_at n (v / n) (v % n)).1
at_names n v less =
    let row = v / n in
    let column = v % n in
    let h = below_placed n v less in
    let half = h.row_half in
    let narrow = h.column_less in
    let whole = div-add-mod' v n in
    ⊎_elim
    (λ (low : row + column < n).
    rw (low_pair n row column low)
    (record {
      some = omega arith;
      inside = omega arith;
      value = low_riv n (row + 1) column (omega arith) ∙ ap (λ x. x * n + column) (omega arith) ∙ whole;
    }))
    (λ (high : n ≤ row + column).
    rw (high_pair n row column high)
    (record {
      some = omega arith;
      inside = omega arith;
      value =
          high_riv n (n + 1 - row) (n - 1 - column) (omega (arith, upper n row column h high))
          ∙ ap (λ x. x * n + (n - 1 - (n - 1 - column))) (omega arith)
          ∙ ap (λ x. row * n + x) (omega arith)
          ∙ whole;
    }))
    (cases_lt (row + column) n)

-- the pair that an RIV names, as a relation and as it is read
pub found_names : (n v l f : ℕ) → pair n v ≡ Some (l, f) → Names n v l f
found_names n v l f e =
    ⊎_elim
    (λ (less : v < pairs n).
    let q : pair_at n (v / n) (v % n) ≡ (l, f) = let w = pair_some n v less in cc in
    subst (λ p. Names n v p.0 p.1) q (at_names n v less))
    (λ (more : pairs n ≤ v). let w = pair_none n v more in let z : ◌≡◌ {A = ℕ} 0 1 = cc in absurd (omega arith))
    (cases_lt v (pairs n))

pub names_found : (n v l f : ℕ) → Names n v l f → pair n v ≡ Some (l, f)
names_found n v l f w = (names_at n v l f w).found

pub names_below : (n v l f : ℕ) → Names n v l f → v < pairs n
names_below n v l f w = (names_at n v l f w).below

one_pair : (n v l f l' f' : ℕ) → Names n v l f → Names n v l' f' → (l ≡ l') × (f ≡ f')
one_pair n v l f l' f' a b =
    let p = names_found n v l f a in
    let q = names_found n v l' f' b in
    let e : ◌≡◌ {A = ℕ × ℕ} (l, f) (l', f') = cc in
    (ap (λ r. r.0) e, ap (λ r. r.1) e)

pub numbered : Numbered
numbered =
    record {
      one = one_pair;
      below = names_below;
      all = λ n v less. ((pair_at n (v / n) (v % n)).0, ((pair_at n (v / n) (v % n)).1, at_names n v less));
      found = names_found;
      named = found_names;
    }

-- the pair that is read, in either case
pub pair_means : (n v : ℕ) → MatchOption (pair n v) ((l f : ℕ) → Names n v l f → ⊥) (λ p. Names n v p.0 p.1)
pair_means n v =
    ⊎_elim
    (λ (less : v < pairs n). rw (pair_some n v less) (at_names n v less))
    (λ (more : pairs n ≤ v). rw (pair_none n v more) (λ l f w. omega (arith, names_below n v l f w, more)))
    (cases_lt v (pairs n))
