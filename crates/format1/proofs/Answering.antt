-- What the reader's answers say, from the questions. Assumes nothing.
use Rattle.std.proofs.Common.{◌≡◌, ℕ, ◌+◌, ◌<◌, ◌≤◌, true, false, List, Some, Ok, Err, Result, sym, ap, ◌∙◌, subst, arith, MatchResult}
use Rattle.std.proofs.lemmas.Bool.{le-leb, lt-leb, ne_eqb, eq-eqb, cond-true, cond-false}
use Rattle.rules.specs.Counting.{first_no}
use Rattle.rules.specs.Format.{Four, Reads, bits, pair, code_of, riv_of, rest_of, joined, fits, questions, record_with, or_zeros, record_of, reading}
use Rattle.rules.proofs.Reader.{yes_all, read_yes, read_sound}
use Rattle.answer.specs.declared.Refusal.{Refusal}
use Rattle.answer.specs.Numbers.{number, answered}
use Rattle.format1.specs.declared.Record.{Record}
use Rattle.format1.specs.Records.{meant_of, valued, Meant}

-- a field that is read from a word at a place, where the word and the place are known
pub field_is : (r w x at from size k : ℕ) → r ≡ bits w at size → w ≡ x → at ≡ from → size ≡ k → r ≡ bits x from k
field_is r w x at from size k e p q t = e ∙ ap (λ v. bits v at size) p ∙ ap (λ f. bits x f size) q ∙ ap (bits x from) t

-- the three clauses of the reader
pub record Told (n resource : ℕ) (bs : List ℕ) (r : Result Record Refusal) : Type 0 where
  pub answer : answered r ≡ first_no (questions n resource bs)
  pub value : valued r ≡ reading n resource bs
  pub exact : MatchResult r (λ x. Reads n resource bs (meant_of x)) (λ _. (q : Meant) → Reads n resource bs q → ⊥)

-- a refusal is the first question that is answered no
refused : (n resource : ℕ) (bs : List ℕ) (e : Refusal) → n ≤ 255 → 0 < number e → first_no (questions n resource bs) ≡ number e → Told n resource bs (Err e)
unfolding reading
refused n resource bs e few some is =
    record {
      answer = sym is;
      value = sym (cond-false _ _ _ (ne_eqb (first_no (questions n resource bs)) 0 (λ z. omega (arith, z, is, some))) ∙ ap Err is);
      exact = λ q h. omega (arith, yes_all n resource bs (read_yes n resource bs q few h), is, some);
    }

-- code above 12
pub code_no : (n resource : ℕ) (bs : List ℕ) (e : Refusal) → n ≤ 255 → number e ≡ 25 → 12 < code_of (joined bs) → Told n resource bs (Err e)
code_no n resource bs e few is more =
    refused n resource bs e few (omega arith) (cond-false _ _ _ (lt-leb _ _ more) ∙ sym is)

-- no pair, or one that does not fit
pub pair_no : (n resource : ℕ) (bs : List ℕ) (e : Refusal) → n ≤ 255 → number e ≡ 26 → code_of (joined bs) ≤ 12 → fits n resource (pair n (riv_of n (joined bs))) ≡ false → Told n resource bs (Err e)
pair_no n resource bs e few is coded fails =
    refused n resource bs e few (omega arith) (cond-true _ _ _ (le-leb _ _ coded) ∙ cond-false _ _ _ fails ∙ sym is)

-- a rest that is not zero
pub rest_no : (n resource : ℕ) (bs : List ℕ) (e : Refusal) → n ≤ 255 → number e ≡ 27 → code_of (joined bs) ≤ 12 → fits n resource (pair n (riv_of n (joined bs))) ≡ true → (rest_of n (joined bs) ≡ 0 → ⊥) → Told n resource bs (Err e)
rest_no n resource bs e few is coded fit fails =
    refused n resource bs e few (omega arith) (cond-true _ _ _ (le-leb _ _ coded) ∙ cond-true _ _ _ fit ∙ cond-false _ _ _ (ne_eqb _ _ fails) ∙ sym is)

-- a record
pub record_yes : (n resource : ℕ) (bs : List ℕ) (x : Record) (p : ℕ × ℕ) → n ≤ 255 → Four bs → code_of (joined bs) ≤ 12 → pair n (riv_of n (joined bs)) ≡ Some p → resource + p.0 ≤ n → rest_of n (joined bs) ≡ 0 → meant_of x ≡ record_with n (joined bs) p → Told n resource bs (Ok x)
unfolding reading record_of
record_yes n resource bs x p few four coded named inside zeros is =
    let none = yes_all n resource bs (record { code = coded; pair = ap (fits n resource) named ∙ le-leb _ _ inside; rest = zeros }) in
    record {
      answer = sym none;
      value = ap Ok (is ∙ ap (λ o. record_with n (joined bs) (or_zeros o)) (sym named)) ∙ sym (cond-true _ _ _ (eq-eqb _ _ none));
      exact = subst (λ q. Reads n resource bs q) (sym is) (read_sound n resource bs p few four coded named inside zeros);
    }
