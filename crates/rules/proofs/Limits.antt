-- What the limits of a pool say, one by one. Assumes nothing.
use Rattle.std.proofs.Common.{◌≡◌, ℕ, zero, suc, ◌%◌, ◌<◌, ◌≤◌, Bool, true, eqb, ltb, leb, List, [], ◌∷◌, length, sym, refl, ap, ◌∙◌, ⊎_elim, arith}
use Rattle.std.proofs.lemmas.Bool.{and_parts, and_from, or_cases, leb-true, ltb-true, eqb-true, cases_lt, true≢false}
use Rattle.rules.specs.Counting.{all_below, every, among, distinct}
use Rattle.rules.specs.Calendar.{Pool, positions, size}
use Rattle.rules.specs.Configure.{within, sizes, offset_ok}

pub all_at : (p : ℕ → Bool) (n : ℕ) → all_below p n ≡ true → (k : ℕ) → k < n → p k ≡ true
all_at p zero t k h = absurd (omega arith)
all_at p (suc n) t k h =
    let w = and_parts (p n) (all_below p n) t in
    ⊎_elim (λ (l : k < n). all_at p n w.1 k l) (λ (l : n ≤ k). let e : k ≡ n = omega arith in ap p e ∙ w.0) (cases_lt k n)

-- what each element passes, an element passes
pub every_among : (q : ℕ → Bool) (x : ℕ) (os : List ℕ) → every q os ≡ true → among x os ≡ true → q x ≡ true
every_among q x [] t h = absurd (true≢false (sym h))
every_among q x (o ∷ os) t h =
    let w = and_parts (q o) (every q os) t in
    ⊎_elim (λ e. ap q (sym (eqb-true o x e)) ∙ w.0) (λ e. every_among q x os w.1 e) (or_cases (eqb o x) (among x os) h)

every_weaker : (q r : ℕ → Bool) (xs : List ℕ) → ((x : ℕ) → q x ≡ true → r x ≡ true) → every q xs ≡ true → every r xs ≡ true
every_weaker q r [] h t = refl
every_weaker q r (x ∷ xs) h t =
    let w = and_parts (q x) (every q xs) t in
    and_from (r x) (every r xs) (h x w.0) (every_weaker q r xs h w.1)

-- the limits, each by its name
pub record Limits (p : Pool) : Type 0 where
  pub some : 1 ≤ p.channels
  pub few : p.channels ≤ 20
  pub coded : p.uplink ≤ 7
  pub short : length p.offsets ≤ 3
  pub apart : distinct p.offsets ≡ true
  pub low : every (λ o. ltb o 160) p.offsets ≡ true
  pub placed : every (λ o. among (o % 10) (positions p.uplink)) p.offsets ≡ true
  pub sized : among (size p) sizes ≡ true
  pub least : 10 ≤ size p
  pub most : size p ≤ 100
  pub masked : p.mask < 4096

pub limits : (p : Pool) → within p ≡ true → Limits p
limits p t =
    let a = and_parts _ _ t in
    let a' = and_parts _ _ a.0 in
    let c = and_parts _ _ a'.0 in
    let d = and_parts _ _ c.0 in
    let e = and_parts _ _ d.0 in
    let f = and_parts _ _ e.0 in
    let g = and_parts _ _ f.0 in
    let n = and_parts _ _ g.0 in
    let o = and_parts _ _ e.1 in
    record {
      some = leb-true 1 p.channels n.0;
      few = leb-true p.channels 20 n.1;
      coded = leb-true p.uplink 7 g.1;
      short = leb-true (length p.offsets) 3 f.1;
      apart = o.1;
      low = every_weaker (offset_ok p.uplink) (λ o. ltb o 160) p.offsets (λ x t. (and_parts _ _ t).0) o.0;
      placed = every_weaker (offset_ok p.uplink) (λ o. among (o % 10) (positions p.uplink)) p.offsets (λ x t. (and_parts _ _ t).1) o.0;
      sized = d.1;
      least = leb-true 10 (size p) (every_among (λ n. leb 10 n) (size p) sizes refl d.1);
      masked = ltb-true p.mask 4096 (and_parts _ _ a'.1).1;
      most = leb-true (size p) 100 (every_among (λ n. leb n 100) (size p) sizes refl d.1);
    }
