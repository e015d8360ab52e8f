-- The pair that is read is the pair of the rules.
use Rattle.std.proofs.Common.{◌≡◌, ℕ, ◌+◌, ◌-◌, ◌/◌, ◌%◌, Some, None, Option, sym, refl, ap, ◌∙◌, subst, arith, MatchOption}
use Rattle.rules.specs.Format.{Names, pairs, pair}
use Rattle.rules.proofs.Riv.{below_placed, pair_none, pair_some, low_pair, high_pair, pair_means}
use Rattle.format1.proofs.length_and_start.Goals as goal

-- both clauses, from the first
record Told (n v : ℕ) (o : Option (ℕ × ℕ)) : Type 0 where
  value : o ≡ pair n v
  names : MatchOption o ((l f : ℕ) → Names n v l f → ⊥) (λ p. Names n v p.0 p.1)

told : (n m v : ℕ) (o : Option (ℕ × ℕ)) → m ≡ n → pair m v ≡ o → Told n v o
told n m v o same e =
    let is : pair n v ≡ o = ap (λ k. pair k v) (sym same) ∙ e in
    record { value = sym is; names = subst (λ x. MatchOption x ((l f : ℕ) → Names n v l f → ⊥) (λ p. Names n v p.0 p.1)) is (pair_means n v) }

pub returns-then-riv-pair_count : goal.returns-then-riv-pair_count
returns-then-riv-pair_count c =
    let n = c.args.n in
    let v = c.args.riv in
    let t = told n n v None refl (pair_none n v (omega arith)) in
    record { value = t.value; names = t.names }

pub overflow_sub-result : goal.overflow_sub-result
overflow_sub-result c =
    let n = c.from-n.result in
    let same = ap pairs c.from-n.ensures in
    omega (arith, (below_placed n c.args.riv (omega arith)).row_half)

pub returns-then-row-column : goal.returns-then-row-column
returns-then-row-column c =
    let n = c.from-n.result in
    let v = c.args.riv in
    let same = ap pairs c.from-n.ensures in
    let t = told c.args.n n v (Some (v / n + 1, v % n)) c.from-n.ensures (pair_some n v (omega arith) ∙ ap Some (low_pair n (v / n) (v % n) (omega arith))) in
    record { value = t.value; names = t.names }

pub returns-else-row-column : goal.returns-else-row-column
returns-else-row-column c =
    let n = c.from-n.result in
    let v = c.args.riv in
    let same = ap pairs c.from-n.ensures in
    let t = told c.args.n n v (Some (n + 1 - v / n, n - 1 - v % n)) c.from-n.ensures (pair_some n v (omega arith) ∙ ap Some (high_pair n (v / n) (v % n) (omega arith))) in
    record { value = t.value; names = t.names }
